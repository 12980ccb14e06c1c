use Rattle.std.proofs.Common.{rules, ◌≡◌, ◌≢◌, ◌∷◌, ◌++◌, List, take, sym, subst, arith}
use Rattle.session_book.specs.declared.pass.Receipt.{Receipt}
use Rattle.session_book.specs.Passes.{receipts_of, IsFirstOther}
use Rattle.session_book.proofs.PassLemmas.{past_first, other_first, receipts_here}
use Rattle.session_book.proofs.closing.followed.Goals as goal

pub returns-then-next-receipts-clause-first : goal.returns-then-next-receipts-clause-first
returns-then-next-receipts-clause-first c = λ none rest.
    past_first c.args.next c.args.receipts.now (receipts_of c.args.number (c.args.entry.now ∷ rest)) (omega (arith, c.if-next-receipts.true, c.requires))

pub returns-clause-first : goal.returns-clause-first
returns-clause-first c = λ none rest.
    let q : Receipt = record { call = c.args.entry.now.call; reply = c.args.entry.now.reply } in
    let here : c.args.entry.now.pass ≡ c.args.number = search rules in
    let other : q ≢ c.index-receipts-next.result = search rules in
    subst (λ (qs : List Receipt). IsFirstOther (take c.args.next c.args.receipts.now ++ qs) c.args.receipts.now c.args.next)
    (sym (receipts_here c.args.number c.args.entry.now rest here))
    (other_first c.args.next c.args.receipts.now (receipts_of c.args.number rest) q c.index-receipts-next.result (omega (arith, c.if-next-receipts.false)) c.index-receipts-next.is other)
