-- The rows that tell what counters say: those that have left their start, by record and then by site
-- (state-based replication, Shapiro et al., 2011, cut into rows: Almeida, Shoker and Baquero, 2018). The
-- counters are a function, so that a book and the model of a site tell by one rule.
use Rattle.std.specs.Prelude.{ℕ, zero, suc, ◌==◌, not, Bool, nat_lt, List, [], ◌∷◌, ◌++◌, length, if◌then◌else◌}
use Rattle.merge_core.specs.declared.cell.Cell.{Cell}
use Rattle.merge_core.specs.declared.cell.Cell.TheVariants.{Out, Taken, Ann, Fin}
use Rattle.merge_core.specs.declared.delta.Row.{Row}
use Rattle.merge_core.specs.Layout.{Shape}
use Rattle.merge_core.specs.Rows.{start_counter}
use Rattle.merge_core.specs.Naming.{shown_by}
use Rattle.merge_core.specs.Sums.{total, number_of_cells}

-- f 0, .., f (n - 1)
abbrev pub first_numbers : ℕ → (ℕ → ℕ) → List ℕ
first_numbers zero f = []
first_numbers (suc n) f = first_numbers n f ++ f n ∷ []

-- the row of site s for record r, with a counter for each of so many sites
abbrev pub told_row : ℕ → (ℕ → ℕ → Cell → ℕ) → ℕ → ℕ → Row
told_row sites counter r s = record {
  r = r;
  s = s;
  out = first_numbers sites (λ j. counter r s (Out j));
  taken = counter r s Taken;
  ann = counter r s Ann;
  fin = counter r s Fin;
}

-- some counter of the row has left its start
abbrev pub has_moved : Shape → (ℕ → ℕ → Cell → ℕ) → ℕ → ℕ → Bool
has_moved shape counter r s =
    nat_lt 0 (number_of_cells shape.sites (λ cell. not (counter r s cell == start_counter shape r s cell)))

-- a row, where the test is true
abbrev pub row_if : Bool → Row → List Row
row_if b p = if b then (p ∷ []) else []

-- the moved rows of record r at the first n sites
abbrev pub moved_rows : Shape → (ℕ → ℕ → Cell → ℕ) → ℕ → ℕ → List Row
moved_rows shape counter r zero = []
moved_rows shape counter r (suc n) =
    moved_rows shape counter r n ++ row_if (has_moved shape counter r n) (told_row shape.sites counter r n)

-- the moved rows of the first n records
abbrev pub moved_below : Shape → (ℕ → ℕ → Cell → ℕ) → ℕ → List Row
moved_below shape counter zero = []
moved_below shape counter (suc n) = moved_below shape counter n ++ moved_rows shape counter n shape.sites

-- every row that has left its start
abbrev pub all_moved : Shape → (ℕ → ℕ → Cell → ℕ) → List Row
all_moved shape counter = moved_below shape counter (length shape.records)

-- how many counters rows raise: those of which they show more
abbrev pub raised_by : Shape → (ℕ → ℕ → Cell → ℕ) → List Row → ℕ
raised_by shape counter rows =
    total (length shape.records) (λ r. total shape.sites (λ s.
    number_of_cells shape.sites (λ cell. nat_lt (counter r s cell) (shown_by shape rows r s cell))))
