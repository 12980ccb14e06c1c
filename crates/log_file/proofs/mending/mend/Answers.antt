use Rattle.std.proofs.Common.{rules}
use Rattle.log_file.specs.Fronts.{MayBeLog}
use Rattle.log_file.proofs.MendLemmas.{mended_bytes}
use Rattle.log_file.proofs.mending.mend.Goals as goal

pub returns-clause-mended : goal.returns-clause-mended
returns-clause-mended c =
    let may_be : MayBeLog c.args.layout.now c.args.site c.args.bytes.now = search rules in
    mended_bytes c.args.layout.now c.args.site c.args.bytes.now c.whole_lines-whole.result.now c.whole_lines-whole.ensures.0 c.args.first.now c.mend_whole.result
    may_be c.whole_lines-whole.ensures.1 c.mend_whole.ensures
