use Rattle.std.proofs.Common.{ℕ, suc, ◌<◌, get_or}
use Rattle.std.specs.Prelude.{IsTrue}
use Rattle.admission_model.specs.declared.durable.DurableCell.{DurableCell}
use Rattle.admission_model.specs.Durable.{is_before}
use Rattle.admission_core.proofs.restoring.cells.are_rising.Given as goal

abbrev pub invariant-loop-i : goal.invariant-loop-i
invariant-loop-i l = (k : ℕ) (d : DurableCell) → suc k < l.i → IsTrue (is_before (get_or l.cells k d) (get_or l.cells (suc k) d))
