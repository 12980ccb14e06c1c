-- What comparing merged rows with own rows comes to, step by step (no public contract cites these).
use Rattle.std.specs.Prelude.{◌≡◌, ℕ, ◌<◌, ◌⊎◌, Bool, false, List, [], ◌∷◌, ◌++◌, map, Option, Some, None, slice_index_or}
use Rattle.merge_core.specs.declared.cell.Cell.{Cell}
use Rattle.merge_core.specs.declared.delta.Row.{Row}
use Rattle.merge_core.specs.Rows.{RowCounters, counter_in, counters_of}
use Rattle.desk_log.specs.declared.transcript.Run.{Run}
use Rattle.multi_site_world.specs.Laws.{StandsIn}
use Rattle.log_judge.specs.declared.excess.Place.{Place}
use Rattle.log_judge.specs.declared.excess.Named.{Named}
use Rattle.log_judge.specs.Cut.{rows_brought}

-- a row that is not there
abbrev pub no_row : Row
no_row = record { r = 0; s = 0; out = []; taken = 0; ann = 0; fin = 0 }

-- the own row of a site and a record, by tables of each site's own rows
abbrev pub own_in : List (List Row) → ℕ → ℕ → Row
own_in tables s r = slice_index_or (slice_index_or tables s []) r no_row

-- a counter of one row is above the other's
abbrev pub IsAbove : RowCounters → RowCounters → Type 0
IsAbove p q = (cell : Cell) × (counter_in q cell < counter_in p cell)

-- no own row of some tables has a counter above that of others
abbrev pub AreWithin : List (List Row) → List (List Row) → Type 0
AreWithin tables others = (s r : ℕ) → ¬ IsAbove (counters_of (own_in tables s r)) (counters_of (own_in others s r))

-- the counters are equal
abbrev pub AreSame : List (List Row) → List (List Row) → Type 0
AreSame tables others = AreWithin tables others × AreWithin others tables

-- the row is above what its site has done
abbrev pub IsAhead : List (List Row) → Row → Type 0
IsAhead tables p = IsAbove (counters_of p) (counters_of (own_in tables p.s p.r))

-- no row of a list is
abbrev pub NoneAhead : List (List Row) → List Row → Type 0
NoneAhead tables rows = (q : Row) → StandsIn q rows → ¬ IsAhead tables q

-- a row of this record and site is ahead, and none before it
pub record IsFirstAhead (tables : List (List Row)) (rows : List Row) (r s : ℕ) : Type 0 where
  pub row : Row
  pub here : StandsIn row rows
  pub ahead : IsAhead tables row
  pub record_is : row.r ≡ r
  pub origin_is : row.s ≡ s
  pub least : (q : Row) → StandsIn q rows → IsAhead tables q → ¬ ((q.r < r) ⊎ ((q.r ≡ r) × (q.s < s)))

-- the answer to rows
abbrev pub IsFoundIn : List (List Row) → List Row → Option Named → Type 0
IsFoundIn tables rows None = NoneAhead tables rows
IsFoundIn tables rows (Some it) = IsFirstAhead tables rows it.rec it.origin

-- the answer to the first n of several lists of rows
abbrev pub IsFoundAt : List (List Row) → List (List Row) → ℕ → Option Place → Type 0
IsFoundAt tables lists n None = (k : ℕ) → k < n → NoneAhead tables (slice_index_or lists k [])
IsFoundAt tables lists n (Some it) =
    (it.at < n) × IsFirstAhead tables (slice_index_or lists it.at []) it.rec it.origin × ((k : ℕ) → k < it.at → NoneAhead tables (slice_index_or lists k []))

-- the first flag, and those behind it; one that is not there is false
abbrev pub first_flag : List Bool → Bool
first_flag [] = false
first_flag (flag ∷ flags) = flag

abbrev pub later_flags : List Bool → List Bool
later_flags [] = []
later_flags (flag ∷ flags) = flags

-- the rows that each entry of runs brought, by whether each run's call in doubt was carried out
abbrev pub brought_by : List Bool → List Run → List (List Row)
brought_by flags [] = []
brought_by flags (run ∷ later) = map (rows_brought (first_flag flags)) run.entries ++ brought_by (later_flags flags) later
