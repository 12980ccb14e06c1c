use Rattle.std.proofs.Common.{◌∙◌}
use Rattle.merge_core.specs.Rows.{counters_of}
use Rattle.log_replay.proofs.DoneLemmas.{done_by}
use Rattle.log_replay.proofs.done.is_done_by.Goals as goal

pub returns : goal.returns
returns c = λ yes a stands.
    done_by a c.args.core.now c.book.result.now c.args.row.now.s c.args.row.now.r (counters_of c.args.row.now) stands c.book.ensures (c.if-row-site.false ∙ c.site.ensures) (c.covers.ensures.0 yes).counters
