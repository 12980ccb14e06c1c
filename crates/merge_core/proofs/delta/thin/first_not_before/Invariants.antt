use Rattle.std.proofs.Common.{ℕ, ◌<◌, ◌≤◌, get_or}
use Rattle.merge_core.specs.declared.delta.Row.{Row}
use Rattle.merge_core.specs.Delta.{ComesBefore}
use Rattle.merge_core.proofs.delta.thin.first_not_before.Given as goal

abbrev pub invariant-loop-i : goal.invariant-loop-i
invariant-loop-i l = (k : ℕ) (d : Row) → l.start ≤ k → k < l.i → ComesBefore (get_or l.rows k d) l.row
