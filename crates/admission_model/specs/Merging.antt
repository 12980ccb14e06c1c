-- What a site tells, and what of its own row a delta may tell it (state-based replication, Shapiro et al.,
-- 2011, cut into rows: Almeida, Shoker and Baquero, 2018). The tests of rows are a book's.
use Rattle.std.specs.Prelude.{ℕ, Bool, nat_lt, List, length, Option}
use Rattle.merge_core.specs.declared.delta.Row.{Row}
use Rattle.merge_core.specs.Delta.{DeltaState}
use Rattle.merge_core.specs.Layout.{shape_of}
use Rattle.merge_core.specs.Moved.{all_moved}
use Rattle.merge_core.specs.Naming.{shown_by}
use Rattle.merge_core.specs.Sums.{number_of_cells, least_below}
use Rattle.admission_model.specs.View.{View}

-- what a site tells: every row that has left its start, under the site's number
abbrev pub snapshot_of : View → DeltaState
snapshot_of v = record { from = v.site; rows = all_moved (shape_of v.layout) v.counter }

-- the rows tell more of the site's own row of record r than the site has done
abbrev pub tells_too_much : View → List Row → ℕ → Bool
tells_too_much v rows r =
    nat_lt 0 (number_of_cells v.layout.sites (λ cell. nat_lt (v.counter r v.site cell) (shown_by (shape_of v.layout) rows r v.site cell)))

-- the least record of which they do
abbrev pub first_ahead : View → List Row → Option ℕ
first_ahead v rows = least_below (length v.layout.records) (tells_too_much v rows)
