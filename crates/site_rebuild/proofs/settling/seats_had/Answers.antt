use Rattle.std.proofs.Common.{ℕ, cond, ap, ◌∙◌, arith, rules}
use Rattle.merge_core.specs.Book.{counter_of}
use Rattle.merge_core.specs.declared.cell.Cell.TheVariants.{Out}
use Rattle.site_rebuild.specs.Rebuilt.{gone_of}
use Rattle.site_rebuild.proofs.SettledLemmas.{total_turn}
use Rattle.site_rebuild.proofs.settling.seats_had.Goals as goal

pub loop-j-preserved : goal.loop-j-preserved
loop-j-preserved c = record {
  so_far = omega (arith, c.loop-j.invariant.so_far, c.unless_lost-sum.ensures.value ∙ ap (λ (x : ℕ). cond (gone_of c.args.lost.now c.loop-j.j) 0 x) c.counter.ensures, total_turn c.loop-j.j (λ j. cond (gone_of c.args.lost.now j) 0 (counter_of c.args.book.now c.args.r j (Out c.args.d))));
  small = omega (arith, c.loop-j.invariant.small, c.unless_lost-sum.ensures.few);
}

pub returns-clause-value : goal.returns-clause-value
returns-clause-value c = search rules
