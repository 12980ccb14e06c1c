-- Which content of a store is that of a site, and the durable part that it stands for.
use Rattle.std.specs.Prelude.{◌≡◌, ℕ, ◌+◌, ◌<◌, ◌≤◌, ◌^◌, ◌==◌, ◌&&◌, not, nat_lt, Bool, List, [], ◌∷◌, ◌++◌, Option, Some, None, map, filter, max, if◌then◌else◌}
use Rattle.std.specs.List.{AllByRecursion}
use Rattle.sqlite_rules.specs.Lists.{Has}
use Rattle.session_list.specs.declared.session.Phase.{Phase}
use Rattle.session_list.specs.declared.session.Phase.TheVariants.{Reader, Waiting, Writer}
use Rattle.session_list.specs.declared.session.Session.{Session}
use Rattle.admission_model.specs.declared.durable.DurableCell.{DurableCell}
use Rattle.admission_model.specs.Durable.{put_cells}
use Rattle.admission_core.specs.Kept.{DurableState}
use Rattle.store_rows.specs.declared.content.StoredCell.{StoredCell}
use Rattle.store_rows.specs.declared.content.StoredSession.{StoredSession}
use Rattle.store_rows.specs.declared.content.StoredNotice.{StoredNotice}
use Rattle.store_rows.specs.declared.content.Stage.{Stage}
use Rattle.store_rows.specs.declared.content.Stage.TheVariants as stages
use Rattle.store_rows.specs.Rows.{Stored, cell_before, session_before, notice_before}
use Rattle.store_rows.specs.Sorted.{IsRising}

-- the phase that a stage in the store stands for
abbrev pub phase_of : Stage → Phase
phase_of stages.Reader = Reader
phase_of stages.Waiting = Waiting
phase_of stages.Writer = Writer

-- the stage in the store that stands for a phase
abbrev pub stage_for : Phase → Stage
stage_for Reader = stages.Reader
stage_for Waiting = stages.Waiting
stage_for Writer = stages.Writer

-- a counter and a session as they stand in a durable part
abbrev pub durable_cell : StoredCell → DurableCell
durable_cell c = record { r = c.r; slot = c.slot; value = c.n }

abbrev pub session_of : StoredSession → Session
session_of s = record { r = s.r; h = s.h; phase = phase_of s.stage }

-- the slots of what is known of site j's writers: those announced, and those finished
abbrev pub announced_slot : ℕ → ℕ
announced_slot j = 300 + j

abbrev pub finished_slot : ℕ → ℕ
finished_slot j = 400 + j

-- the counters of announced writers that are not 0, and those of finished ones
abbrev pub announced_cells : List StoredNotice → List DurableCell
announced_cells ns = map (λ n. record { r = n.r; slot = announced_slot n.site; value = n.announced }) (filter (λ n. not (n.announced == 0)) ns)

abbrev pub finished_cells : List StoredNotice → List DurableCell
finished_cells ns = map (λ n. record { r = n.r; slot = finished_slot n.site; value = n.finished }) (filter (λ n. not (n.finished == 0)) ns)

-- a counter stands at its place in the table of counters: its slot is below those of the notices
abbrev pub is_in_place : StoredCell → Bool
is_in_place c = nat_lt c.slot 300

-- a slot that names no counter at any site
abbrev pub nameless_slot : ℕ
nameless_slot = 65535

-- the first counter of a table that is not at its place, told at the slot that names none
abbrev pub misplaced_cells : List StoredCell → List DurableCell
misplaced_cells [] = []
misplaced_cells (c ∷ cs) = if is_in_place c then misplaced_cells cs else record { r = c.r; slot = nameless_slot; value = c.n } ∷ []

-- the counters that a table tells: those at their places, and the first of the others
abbrev pub table_cells : List StoredCell → List DurableCell
table_cells cs = put_cells (misplaced_cells cs) (map durable_cell (filter is_in_place cs))

-- the counters of a content, by record and slot: those of its table, with those of its notices put at their places
abbrev pub durable_cells : Stored → List DurableCell
durable_cells it = put_cells (announced_cells it.notices ++ finished_cells it.notices) (table_cells it.cells)

-- the durable part that a content stands for
abbrev pub durable_in : Stored → DurableState
durable_in it = record { cells = durable_cells it; sessions = map session_of it.sessions }

-- the place of holder h at record r: that of the first session of theirs
abbrev pub place_in : List StoredSession → ℕ → ℕ → Option ℕ
place_in [] r h = None
place_in (s ∷ ss) r h = if (r == s.r) && (h == s.h) then Some s.place else place_in ss r h

-- each holder has one session at most at each record
abbrev pub IsOnce : List StoredSession → Type 0
IsOnce [] = Unit {0}
IsOnce (s ∷ ss) = (place_in ss s.r s.h ≡ None) × IsOnce ss

-- the greatest place, and 0 where there is no session
abbrev pub greatest_place : List StoredSession → ℕ
greatest_place [] = 0
greatest_place (s ∷ ss) = max s.place (greatest_place ss)

-- the most that a place can be
abbrev pub most_places : ℕ
most_places = 2 ^ 62

-- the row of what is known of site j's writers at record r
abbrev pub notice_in : List StoredNotice → ℕ → ℕ → Option StoredNotice
notice_in [] r j = None
notice_in (n ∷ ns) r j = if (r == n.r) && (j == n.site) then Some n else notice_in ns r j

-- the writers announced, and those finished; where there is no row, none is
abbrev pub announced_by : Option StoredNotice → ℕ
announced_by None = 0
announced_by (Some n) = n.announced

abbrev pub finished_by : Option StoredNotice → ℕ
finished_by None = 0
finished_by (Some n) = n.finished

-- a counter is at a record and a slot of 16 bits each
pub record IsCounter (c : StoredCell) : Type 0 where
  pub record_fits : c.r < 2 ^ 16
  pub slot_fits : c.slot < 2 ^ 16

-- a notice is at a record of 16 bits and of one of 16 sites, with numbers that a store takes
pub record IsNotice (n : StoredNotice) : Type 0 where
  pub record_fits : n.r < 2 ^ 16
  pub site_there : n.site ≤ 15
  pub announced_fits : n.announced < 2 ^ 63
  pub finished_fits : n.finished < 2 ^ 63

-- a session is at a record of 16 bits, and its place is one that is given to a session
pub record IsPlaced (s : StoredSession) : Type 0 where
  pub record_fits : s.r < 2 ^ 16
  pub given : 1 ≤ s.place
  pub small : s.place ≤ most_places

-- The rows of each table are such as those of a site's store: its counters rise, its notices rise, and its sessions rise
-- by place. Their numbers are such as the tables take.
pub record HasRows (it : Stored) : Type 0 where
  pub cells_rise : IsRising cell_before it.cells
  pub cells : AllByRecursion IsCounter it.cells
  pub notices_rise : IsRising notice_before it.notices
  pub notices : AllByRecursion IsNotice it.notices
  pub sessions_rise : IsRising session_before it.sessions
  pub places : AllByRecursion IsPlaced it.sessions

-- a content is that of a site: it has such rows, with no holder twice at a record
pub record IsContent (it : Stored) : Type 0 where
  pub rows : HasRows it
  pub once : IsOnce it.sessions

-- some counter of the table is not at its place: its slot is one of a notice, or names none
abbrev pub HasMisplaced : Stored → Type 0
HasMisplaced it = (c : StoredCell) × Has it.cells c × (300 ≤ c.slot)
