use Rattle.std.proofs.Common.{rules}
use Rattle.session_book.specs.Passes.{receipts_of}
use Rattle.session_book.proofs.PassLemmas.{all_alike}
use Rattle.session_book.proofs.closing.astray.Goals as goal

pub returns-then-not-frozen-clause-first : goal.returns-then-not-frozen-clause-first
returns-then-not-frozen-clause-first g c =
    all_alike (receipts_of c.args.pass.now.number c.args.entries.now) c.args.pass.now.receipts c.receipts-then-not-frozen.result.now (search rules) (search rules)

pub returns-then-entries-limit-clause-first : goal.returns-then-entries-limit-clause-first
returns-then-entries-limit-clause-first g c =
    all_alike (receipts_of c.args.pass.now.number c.args.entries.now) c.args.pass.now.receipts c.receipts-then-entries-limit.result.now (search rules) (search rules)
