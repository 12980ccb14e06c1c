-- Which rows a book takes: tests that compute, so that the model of a site and the code of a book ask the same.
use Rattle.std.specs.Prelude.{ℕ, suc, ◌-◌, ◌==◌, ◌&&◌, not, Bool, nat_lt, nat_le, List, [], ◌∷◌, length, slice_index, if◌then◌else◌, Option, Some, None, option_map}
use Rattle.grow_counters.specs.Counts.{counter_limit}
use Rattle.merge_core.specs.declared.delta.Row.{Row}
use Rattle.merge_core.specs.Layout.{Shape}
use Rattle.merge_core.specs.Rows.{grant}
use Rattle.merge_core.specs.Sums.{total, one_if}

-- a row's place is in the layout: its record, its site, and no counter of a site that is not there; a row may
-- lack the counters of sites behind its own, as those that an earlier layout had do (they count as 0)
abbrev pub is_placed : Shape → Row → Bool
is_placed shape p = nat_lt p.r (length shape.records) && (nat_lt p.s (length p.out) && nat_le (length p.out) shape.sites)

-- how many counters of rights that the row's site moved elsewhere are past their limit
abbrev pub overfull : Row → ℕ
overfull p = total (length p.out) (λ j. one_if (not (j == p.s) && nat_lt counter_limit (slice_index p.out j)))

-- a site can have done this: no seat came back that was not taken, no writer finished that was not announced,
-- and no counter is past its limit
abbrev pub is_valid : Shape → Row → Bool
is_valid shape p =
    let granted = grant shape p.r p.s in
    nat_le granted (slice_index p.out p.s) && (nat_le (slice_index p.out p.s - granted) p.taken && (nat_le p.taken counter_limit
    && ((overfull p == 0) && (nat_le p.fin p.ann && nat_le p.ann counter_limit))))

-- the index of the first row that fails the test
abbrev pub first_failing : (Row → Bool) → List Row → Option ℕ
first_failing test [] = None
first_failing test (p ∷ ps) = if test p then option_map suc (first_failing test ps) else Some 0
