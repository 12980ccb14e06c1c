-- Which unit operations rows name: counters read as sets of operations (the lattice of Shapiro et al., 2011,
-- whose elements are here the single operations of one counter of one row of one record).
use Rattle.std.specs.Prelude.{ℕ, ◌≤◌, ◌==◌, ◌&&◌, max, List, [], ◌∷◌, if◌then◌else◌}
use Rattle.merge_core.specs.declared.cell.Cell.{Cell}
use Rattle.merge_core.specs.declared.delta.Row.{Row}
use Rattle.merge_core.specs.Layout.{Shape}
use Rattle.merge_core.specs.Delta.{DeltaState}
use Rattle.merge_core.specs.Rows.{counter_in, counters_of, start_counter}

-- the counter that rows show; a row that they lack stands for the start
abbrev pub shown_by : Shape → List Row → ℕ → ℕ → Cell → ℕ
shown_by shape [] r s cell = start_counter shape r s cell
shown_by shape (p ∷ ps) r s cell =
    if (p.r == r) && (p.s == s) then counter_in (counters_of p) cell else shown_by shape ps r s cell

-- the greatest that one of the deltas shows of a counter, or what was known of it without them
abbrev pub greatest_shown : Shape → ℕ → List DeltaState → ℕ → ℕ → Cell → ℕ
greatest_shown shape known [] r s cell = known
greatest_shown shape known (d ∷ ds) r s cell = max (shown_by shape d.rows r s cell) (greatest_shown shape known ds r s cell)

-- a counter names its k-th operation, from the first on, where it reaches k
abbrev pub ReachesUnit : ℕ → ℕ → Type 0
ReachesUnit counter k = (1 ≤ k) × (k ≤ counter)

-- rows name the k-th operation of a counter; a row that they lack names the grant alone
abbrev pub RowsName : Shape → List Row → ℕ → ℕ → Cell → ℕ → Type 0
RowsName shape rows r s cell k = ReachesUnit (shown_by shape rows r s cell) k
