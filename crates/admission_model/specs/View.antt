-- What a site decides by: its phases and its known counters. Rights, the least unfinished writer and the
-- plan are stated over these alone, so that whatever shows the same phases and counters decides the same.
use Rattle.std.specs.Prelude.{ℕ, ◌+◌, ◌-◌, ◌==◌, ◌||◌, ◌&&◌, Bool, nat_lt, nat_le, if◌then◌else◌, Option, Some, None, [], slice_index_or}
use Rattle.std.specs.Int.{div_ceil}
use Rattle.merge_core.specs.declared.cell.Cell.{Cell}
use Rattle.merge_core.specs.declared.cell.Cell.TheVariants.{Out, Taken, Ann, Fin}
use Rattle.merge_core.specs.Layout.{LayoutState}
use Rattle.session_list.specs.declared.session.Phase.{Phase}
use Rattle.admission_model.specs.declared.reply.Plan.{Plan}
use Rattle.merge_core.specs.Sums.{total, total_others, least_below}
use Rattle.admission_model.specs.Account.{Account, layout_of, seats_in, phase_of}
use Rattle.admission_model.specs.Knowledge.{known}

-- what a site shows of itself
pub record View : Type 0 where
  pub layout : LayoutState
  pub site : ℕ
  pub phase : ℕ → ℕ → Option Phase
  pub counter : ℕ → ℕ → Cell → ℕ

-- what an account shows
abbrev pub view_of : Account → View
view_of a = record {
  layout = layout_of a;
  site = a.origin.site;
  phase = phase_of a;
  counter = known a;
}

-- the problem of a record; one that is not there has none
abbrev pub problem_in : LayoutState → ℕ → ℕ
problem_in layout r =
    (slice_index_or layout.records r (record { name = []; seats = 0; home = 0; problem = 0 })).problem

-- The rights of a site (Balegas et al., 2015): its increments, grant included, and the rights moved to it ..
abbrev pub gained : View → ℕ → ℕ
gained v r = total v.layout.sites (λ j. v.counter r j (Out v.site))

-- .. less the rights it moved away and the units it took
abbrev pub spent : View → ℕ → ℕ
spent v r = total_others v.layout.sites v.site (λ j. v.counter r v.site (Out j)) + v.counter r v.site Taken

-- .. are what is left to it
abbrev pub rights_of : View → ℕ → ℕ
rights_of v r = gained v r - spent v r

-- site s shows a writer that has announced itself and not finished
abbrev pub shows_writer : View → ℕ → ℕ → Bool
shows_writer v r s = nat_lt (v.counter r s Fin) (v.counter r s Ann)

-- the least such site
abbrev pub first_unfinished : View → ℕ → Option ℕ
first_unfinished v r = least_below v.layout.sites (shows_writer v r)

-- the seats of a record, shared out evenly over the sites and rounded up
abbrev pub fair_share : ℕ → ℕ → ℕ
fair_share seats sites = div_ceil seats sites

-- the site after i, and site 0 after the last one
abbrev pub next_site : ℕ → ℕ → ℕ
next_site sites i = if nat_lt (i + 1) sites then i + 1 else 0

-- Where a site's seats would help (the project's own rule): all go to the least site that shows an
-- unfinished writer; where none does, what a site has above its fair share goes to the next site.
abbrev pub plan_for : View → ℕ → Option ℕ → Option Plan
plan_for v r (Some w) =
    if (w == v.site) || (rights_of v r == 0) then None else Some (record { to = w; seats = rights_of v r })
plan_for v r None =
    if nat_le 2 v.layout.sites && nat_lt (fair_share (seats_in v.layout r) v.layout.sites) (rights_of v r)
    then Some (record { to = next_site v.layout.sites v.site; seats = rights_of v r - fair_share (seats_in v.layout r) v.layout.sites })
    else None

-- the plan of a site for a record, if it has one
abbrev pub plan_of : View → ℕ → Option Plan
plan_of v r = plan_for v r (first_unfinished v r)
