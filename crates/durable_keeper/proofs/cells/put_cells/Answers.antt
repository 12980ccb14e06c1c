-- The first of the two cells goes next, and of two at one place the one that is put.
use Rattle.std.proofs.Common.{sym, ◌∙◌, arith}
use Rattle.admission_core.specs.DurableCell.{DurableCell}
use Rattle.durable_keeper.proofs.MergeLemmas.{merge_kept, merge_put, merge_both, left_over, right_over, finish}
use Rattle.durable_keeper.proofs.cells.put_cells.Goals as goal
use Rattle.durable_keeper.proofs.cells.put_cells.Goals.{then-cells-test+else-j-kept, else-cells-test}

none : DurableCell
none = record { r = 0; slot = 0; value = 0 }

pub cells-preserved-then-is_before : goal.cells-preserved-then-is_before
unfolding none
cells-preserved-then-is_before c = record {
  first = omega arith;
  second = omega arith;
  same = λ up vp. merge_kept c.args.put.now c.args.kept.now c.cells.all.items _ c.cells.i c.cells.j none c.cells-test.true c.if-j-kept.true up vp c.in_ok-push.ensures.items (sym c.is_before.ensures ∙ c.if-is_before.true)
      ∙ c.cells.invariant.same up vp;
}

pub cells-preserved-then-is_before-2 : goal.cells-preserved-then-is_before-2
unfolding none
cells-preserved-then-is_before-2 c = record {
  first = omega arith;
  second = omega arith;
  same = λ up vp. merge_put c.args.put.now c.args.kept.now c.cells.all.items _ c.cells.i c.cells.j none c.cells-test.true c.if-j-kept.true up vp c.in_ok-push-2.ensures.items (sym c.is_before-else-is_before.ensures ∙ c.if-is_before-2.true)
      ∙ c.cells.invariant.same up vp;
}

pub cells-preserved : goal.cells-preserved
unfolding none
cells-preserved c = record {
  first = omega arith;
  second = omega arith;
  same = λ up vp. merge_both c.args.put.now c.args.kept.now c.cells.all.items _ c.cells.i c.cells.j none c.cells-test.true c.if-j-kept.true up vp c.in_ok-push-3.ensures.items
      (sym c.is_before.ensures ∙ c.if-is_before.false) (sym c.is_before-else-is_before.ensures ∙ c.if-is_before-2.false)
      ∙ c.cells.invariant.same up vp;
}

pub returns : goal.returns
returns c =
    λ up vp.
    finish c.args.put.now c.args.kept.now c.cells.all.items c.extend_from_slice.new.self.items _ c.cells.i c.cells.j c.in_ok-extend_from_slice.ensures.items c.in_ok-extend_from_slice-2.ensures.items
    (elim c.cells-test.branch [
      | then-cells-test+else-j-kept w ↦ right_over c.args.put.now c.args.kept.now c.cells.i c.cells.j up (omega arith)
      | else-cells-test w ↦ left_over c.args.put.now c.args.kept.now c.cells.i c.cells.j up (omega arith)
    ])
    (c.cells.invariant.same up vp)
