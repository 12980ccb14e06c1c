use Rattle.std.proofs.Common.{ℕ, ◌<◌, get_or}
use Rattle.merge_core.specs.Rows.{counters_of}
use Rattle.log_judge.specs.Excess.{IsAbove, no_row, own_in}
use Rattle.log_judge.proofs.keeping.are_rows_within.Given as goal

abbrev pub invariant-rows : goal.invariant-rows
invariant-rows l = (k : ℕ) → k < l.r → ¬ IsAbove (counters_of (get_or l.rows k no_row)) (counters_of (own_in l.tables l.s k))
