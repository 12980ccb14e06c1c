-- Deltas that give a site more rights to a record than the record has seats (this project's own rule): where each site
-- tells what it did, no delta does; one from elsewhere may.
use Rattle.std.specs.Prelude.{◌≡◌, ℕ, ◌-◌, Bool, nat_lt, List, length, Option, None}
use Rattle.merge_core.specs.declared.cell.Cell.TheVariants.{Out}
use Rattle.merge_core.specs.declared.delta.Row.{Row}
use Rattle.merge_core.specs.Layout.{shape_of}
use Rattle.merge_core.specs.Naming.{shown_by}
use Rattle.merge_core.specs.Sums.{total, least_below}
use Rattle.admission_model.specs.declared.ask.Call.{Call}
use Rattle.admission_model.specs.declared.ask.Call.TheVariants.{Ask, Merge, Snapshot}
use Rattle.admission_model.specs.Account.{Account, seats_in}
use Rattle.admission_model.specs.Serving.{reason}
use Rattle.admission_model.specs.View.{View, rights_of, view_of}

-- the rights to record r that rows give to the site: how much more each site's row shows as moved to it than is known
abbrev pub given : View → List Row → ℕ → ℕ
given v rows r = total v.layout.sites (λ j. shown_by (shape_of v.layout) rows r j (Out v.site) - v.counter r j (Out v.site))

-- the rights to all seats of record r that the site lacks
abbrev pub lacking : View → ℕ → ℕ
lacking v r = seats_in v.layout r - rights_of v r

-- the rows give more of them
abbrev pub gives_too_much : View → List Row → ℕ → Bool
gives_too_much v rows r = nat_lt (lacking v r) (given v rows r)

-- the least record of which they do
abbrev pub first_overfull : View → List Row → Option ℕ
first_overfull v rows = least_below (length v.layout.records) (gives_too_much v rows)

-- the same of a call: only a delta gives rights
abbrev pub overfull_in : View → Call → Option ℕ
overfull_in v (Ask ask) = None
overfull_in v (Merge delta) = first_overfull v delta.rows
overfull_in v Snapshot = None

-- a call that nothing else refuses gives no more rights to a record than it has seats
abbrev pub Fits : Account → Call → Type 0
Fits a call = reason (view_of a) call ≡ None → overfull_in (view_of a) call ≡ None
