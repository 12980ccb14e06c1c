use Rattle.std.proofs.Common.{ℕ, cond, ap, ◌∙◌, arith}
use Rattle.merge_core.specs.Book.{counter_of}
use Rattle.merge_core.specs.Layout.{shape_of}
use Rattle.rebuild_laws.specs.Settling.{lacking}
use Rattle.site_rebuild.specs.Rebuilt.{gone_of}
use Rattle.site_rebuild.proofs.SettledLemmas.{total_turn}
use Rattle.site_rebuild.proofs.settling.total_lacking.Goals as goal

pub loop-e-preserved : goal.loop-e-preserved
loop-e-preserved c =
    let f = lacking (shape_of c.args.layout.now) (gone_of c.args.lost.now) c.args.layout.now.sites (counter_of c.args.book.now) c.args.r in
    record {
      so_far = omega (arith, c.loop-e.invariant.so_far, c.if_lost-sum.ensures.value ∙ ap (λ (x : ℕ). cond (gone_of c.args.lost.now c.loop-e.e) x 0) c.site_lacking.ensures.value, total_turn c.loop-e.e (λ j. cond (gone_of c.args.lost.now j) (f j) 0));
      small = omega (arith, c.loop-e.invariant.small, c.if_lost-sum.ensures.few, c.site_lacking.ensures.few);
    }
