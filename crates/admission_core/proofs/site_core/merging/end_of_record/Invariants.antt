use Rattle.std.proofs.Common.{◌≡◌, ℕ, ◌<◌, ◌≤◌, get_or}
use Rattle.merge_core.specs.declared.delta.Row.{Row}
use Rattle.admission_core.proofs.site_core.merging.end_of_record.Given as goal

abbrev pub invariant-loop-i : goal.invariant-loop-i
invariant-loop-i l =
    (k : ℕ) (d : Row) → l.from ≤ k → k < l.i → (get_or l.rows k d).r ≡ (get_or l.rows l.from d).r
