-- A walk over the rows of a delta that finds the first record to which they give too much. For private clauses.
use Rattle.std.specs.Prelude.{ℕ, ◌+◌, ◌-◌, ◌==◌, nat_lt, List, [], ◌∷◌, if◌then◌else◌, Option, Some, None}
use Rattle.merge_core.specs.declared.cell.Cell.TheVariants.{Out}
use Rattle.merge_core.specs.declared.delta.Row.{Row}
use Rattle.merge_core.specs.Rows.{counter_in, counters_of}
use Rattle.admission_model.specs.View.{View}
use Rattle.live_site.specs.Overfull.{lacking}

-- the rights that a row gives to the site
abbrev pub rise : View → Row → ℕ
rise v p = counter_in (counters_of p) (Out v.site) - v.counter p.r p.s (Out v.site)

-- what rows give to the record of a row, where those before it gave so much to record r
abbrev pub given_with : View → ℕ → ℕ → Row → ℕ
given_with v r n p = (if p.r == r then n else 0) + rise v p

-- the first record to which the rows give too much, where rows before them gave so much to record r
abbrev pub walk : View → ℕ → ℕ → List Row → Option ℕ
walk v r n [] = None
walk v r n (p ∷ ps) = if nat_lt (lacking v p.r) (given_with v r n p) then Some p.r else walk v p.r (given_with v r n p) ps
