use Rattle.std.proofs.Common.{ℕ, suc, ◌<◌, get_or}
use Rattle.merge_core.specs.declared.delta.Row.{Row}
use Rattle.merge_core.specs.Delta.{ComesBefore}
use Rattle.merge_core.proofs.delta.order.are_rising.Given as goal

abbrev pub invariant-loop-i : goal.invariant-loop-i
invariant-loop-i l = (k : ℕ) (d : Row) → suc k < l.i → ComesBefore (get_or l.rows k d) (get_or l.rows (suc k) d)
