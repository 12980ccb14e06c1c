use Rattle.std.proofs.Common.{◌∙◌, sym, arith}
use Rattle.durable_keeper.proofs.PlacingLemmas.{before_at}
use Rattle.durable_keeper.proofs.cells.count_before.Goals as goal

pub cells-preserved-then-is_before : goal.cells-preserved-then-is_before
cells-preserved-then-is_before c = record {
  ordered = omega (arith, c.cells-test.true, c.cells.invariant.ordered);
  within = c.cells.invariant.within;
  before = λ k none below.
      before_at c.args.cell c.args.kept.now k _ _ none c.requires (omega (arith, below)) (omega (arith, c.cells-test.true, c.cells.invariant.ordered, c.cells.invariant.within))
      (sym c.is_before.ensures ∙ c.if-is_before.true);
  next = c.cells.invariant.next;
}
