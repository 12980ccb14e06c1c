-- How the calls of a book change its counters.
use Rattle.std.specs.Prelude.{◌≡◌, ℕ, ◌+◌, max, Bool, ◌==◌, ◌&&◌, ◌||◌, false, true, List, if◌then◌else◌}
use Rattle.merge_core.specs.declared.cell.Cell.{Cell}
use Rattle.merge_core.specs.declared.cell.Cell.TheVariants.{Out, Taken, Ann, Fin}
use Rattle.merge_core.specs.declared.delta.Row.{Row}
use Rattle.merge_core.specs.Delta.{DeltaState}
use Rattle.merge_core.specs.Layout.{Shape}
use Rattle.merge_core.specs.Naming.{greatest_shown, shown_by}
use Rattle.merge_core.specs.Rows.{start_counter}
use Rattle.merge_core.specs.Book.{BookState, counter_of, book_shape}

abbrev pub same_cell : Cell → Cell → Bool
same_cell (Out i) (Out j) = i == j
same_cell Taken Taken = true
same_cell Ann Ann = true
same_cell Fin Fin = true
same_cell _ _ = false

-- one counter is higher by so much, and every other is as it was
pub record Raises (old new : BookState) (r s : ℕ) (cell : Cell) (by : ℕ) : Type 0 where
  pub shape : book_shape new ≡ book_shape old
  pub counters : (q t : ℕ) (c : Cell) → counter_of new q t c ≡ counter_of old q t c + (if (q == r) && ((t == s) && same_cell c cell) then by else 0)

-- each counter is the greater of the book's and the rows'
pub record JoinsRows (old new : BookState) (rows : List Row) : Type 0 where
  pub shape : book_shape new ≡ book_shape old
  pub counters : (r s : ℕ) (cell : Cell) → counter_of new r s cell ≡ max (counter_of old r s cell) (shown_by (book_shape old) rows r s cell)

-- each counter is the greatest of the book's and all the deltas'
pub record JoinsAll (old new : BookState) (deltas : List DeltaState) : Type 0 where
  pub shape : book_shape new ≡ book_shape old
  pub counters : (r s : ℕ) (cell : Cell) → counter_of new r s cell ≡ greatest_shown (book_shape old) (counter_of old r s cell) deltas r s cell

-- which counters a restart of a site keeps: its own row, the rights that were sent to it, and every writer's
-- notices. Every other counter starts again (this project's own rule)
abbrev pub keeps_counter : ℕ → ℕ → Cell → Bool
keeps_counter site s (Out j) = (s == site) || (j == site)
keeps_counter site s Taken = s == site
keeps_counter site s Ann = true
keeps_counter site s Fin = true

-- what a restart of a site leaves
pub record KeepsOwn (site : ℕ) (old new : BookState) : Type 0 where
  pub shape : book_shape new ≡ book_shape old
  pub counters : (r s : ℕ) (cell : Cell) → counter_of new r s cell ≡ (if keeps_counter site s cell then counter_of old r s cell else start_counter (book_shape old) r s cell)

-- the book under a layout of more sites: the same counters, and 0 for the sites that came
pub record IsWidened (wider : Shape) (old new : BookState) : Type 0 where
  pub shape : book_shape new ≡ wider
  pub counters : (r s : ℕ) (cell : Cell) → counter_of new r s cell ≡ counter_of old r s cell
