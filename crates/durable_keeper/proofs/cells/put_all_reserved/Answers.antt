use Rattle.std.proofs.Common.{ℕ, ◌∙◌, ◌-◌, sym, ap, drop, subst, arith}
use Rattle.admission_core.specs.Durable.{AreRising, put_cell, put_cells}
use Rattle.durable_keeper.proofs.CellLists.{put_rises}
use Rattle.durable_keeper.proofs.PlacingLemmas.{puts_one}
use Rattle.durable_keeper.proofs.cells.put_all_reserved.Goals as goal

pub cells-preserved : goal.cells-preserved
cells-preserved c =
    let i = c.cells.invariant in
    record {
      within = omega (arith, i.within);
      rising = subst AreRising (sym c.put_reserved.ensures.cells) (put_rises _ c.cells.kept.items i.rising);
      room = omega (arith, i.room, c.cells-test.true, c.put_reserved.ensures.more, c.put_reserved.ensures.capacity);
      done =
          c.put_reserved.ensures.cells
          ∙ (ap (put_cell _) (i.done ∙ ap (λ (n : ℕ). put_cells (drop n c.args.put.now) c.args.kept.now.items) (omega (arith, c.cells-test.true)))
          ∙ puts_one c.args.put.now c.args.kept.now.items (c.cells.left - 1) _ (omega (arith, i.within, c.cells-test.true)));
    }
