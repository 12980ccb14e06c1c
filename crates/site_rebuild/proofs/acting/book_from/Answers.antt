use Rattle.std.proofs.Common.{take, List, sym, subst, ◌∙◌}
use Rattle.merge_core.specs.Changes.{JoinsAll}
use Rattle.merge_core.specs.Delta.{DeltaState}
use Rattle.site_rebuild.specs.Rebuilt.{of_site}
use Rattle.site_rebuild.proofs.ActingLemmas.{taken_more}
use Rattle.site_rebuild.proofs.acting.book_from.Goals as goal

pub loop-k-preserved : goal.loop-k-preserved
loop-k-preserved c = record {
  joined = subst (λ (xs : List DeltaState). JoinsAll c.in_ok-book.book c.join_from.new.book (of_site c.args.j xs)) (sym (taken_more c.args.deltas.now c.loop-k.k c.index-deltas-k.result c.loop-k-test.true c.index-deltas-k.is))
      (c.join_from.ensures.joins c.in_ok-book.book (take c.loop-k.k c.args.deltas.now) c.loop-k.invariant.joined);
  shape = c.join_from.ensures.shape ∙ c.loop-k.invariant.shape;
}
