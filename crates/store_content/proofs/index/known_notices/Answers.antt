-- A notice that is put hides none of those behind it.
use Rattle.std.proofs.Common.{arith}
use Rattle.store_rows.specs.declared.content.StoredNotice.{StoredNotice}
use Rattle.store_content.proofs.IndexLemmas.{notice_front}
use Rattle.store_content.proofs.index.known_notices.Goals as goal

none : StoredNotice
none = record { r = 0; site = 0; announced = 0; finished = 0 }

pub notices-preserved : goal.notices-preserved
unfolding none
notices-preserved c = record {
  within = omega arith;
  known = notice_front c.args.notices.now c.notices.left none _ _ (omega arith) c.notices.invariant.within (λ q. c.in_ok-insert.ensures.updates.0 q) c.notices.invariant.known;
}
