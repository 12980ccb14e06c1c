-- What a delta makes of a site's counters, row by row.
use Rattle.std.specs.Prelude.{ℕ, ◌+◌, ◌==◌, ◌&&◌, not, Bool, nat_lt, max, List, [], ◌∷◌, ◌++◌, if◌then◌else◌}
use Rattle.merge_core.specs.declared.cell.Cell.{Cell}
use Rattle.merge_core.specs.declared.cell.Cell.TheVariants.{Out, Ann, Fin}
use Rattle.merge_core.specs.declared.delta.Row.{Row}
use Rattle.merge_core.specs.Layout.{shape_of}
use Rattle.merge_core.specs.Naming.{shown_by}
use Rattle.merge_core.specs.Rows.{counter_in, counters_of}
use Rattle.merge_core.specs.Sums.{number_of_cells}
use Rattle.admission_model.specs.declared.durable.DurableCell.{DurableCell}
use Rattle.admission_model.specs.View.{View}

-- each counter is the greater of the site's and the rows'
abbrev pub joined_counter : View → List Row → ℕ → ℕ → Cell → ℕ
joined_counter v rows r s cell = max (v.counter r s cell) (shown_by (shape_of v.layout) rows r s cell)

-- the row shows more of the counter
abbrev pub raises_cell : (ℕ → ℕ → Cell → ℕ) → Row → Cell → Bool
raises_cell counter p cell = nat_lt (counter p.r p.s cell) (counter_in (counters_of p) cell)

-- how many counters a row raises
abbrev pub row_raises : ℕ → (ℕ → ℕ → Cell → ℕ) → Row → ℕ
row_raises sites counter p = number_of_cells sites (raises_cell counter p)

-- a cell, where the test is true
abbrev pub cell_if : Bool → DurableCell → List DurableCell
cell_if b cell = if b then (cell ∷ []) else []

-- the row of another site raises the counter
abbrev pub raises_other : (ℕ → ℕ → Cell → ℕ) → ℕ → Cell → Row → Bool
raises_other counter site cell p = not (p.s == site) && raises_cell counter p cell

-- the cell that a row tells, at the slot of its site behind the first one
abbrev pub cell_told : ℕ → Cell → Row → DurableCell
cell_told first cell p = record { r = p.r; slot = first + p.s; value = counter_in (counters_of p) cell }

-- the counters of one kind that rows of other sites raise
abbrev pub raised_column : (ℕ → ℕ → Cell → ℕ) → ℕ → ℕ → Cell → List Row → List DurableCell
raised_column counter site first cell [] = []
raised_column counter site first cell (p ∷ ps) =
    cell_if (raises_other counter site cell p) (cell_told first cell p) ++ raised_column counter site first cell ps

-- those that a store keeps: seats sent to the site, writers announced and writers finished
abbrev pub raised_cells : (ℕ → ℕ → Cell → ℕ) → ℕ → List Row → List DurableCell
raised_cells counter site rows =
    raised_column counter site 100 (Out site) rows
    ++ (raised_column counter site 300 Ann rows ++ raised_column counter site 400 Fin rows)
