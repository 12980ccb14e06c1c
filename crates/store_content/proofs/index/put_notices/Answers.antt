-- With room a notice is put.
use Rattle.std.proofs.Common.{arith}
use Rattle.store_rows.specs.declared.content.StoredNotice.{StoredNotice}
use Rattle.store_content.proofs.IndexLemmas.{at_ok, notice_more}
use Rattle.store_content.proofs.index.put_notices.Goals as goal

none : StoredNotice
none = record { r = 0; site = 0; announced = 0; finished = 0 }

pub loop-notice-preserved : goal.loop-notice-preserved
unfolding none
loop-notice-preserved c = record {
  room = omega arith;
  put = λ ns same.
      notice_more c.args.rows.now ns c.loop-notice.notice-index none _ _ c.loop-notice-test.true
      (λ q. (at_ok c.insert.result _ (c.insert.ensures.succeeds (omega arith)) c.insert.ensures.updates).0 q)
      (c.loop-notice.invariant.put ns same);
}
