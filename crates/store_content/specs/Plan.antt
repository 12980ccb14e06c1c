-- What a change of a durable part puts into the rows of a store.
use Rattle.std.specs.Prelude.{◌≡◌, ◌⊎◌, ℕ, ◌+◌, ◌-◌, ◌<◌, ◌≤◌, ◌^◌, ◌&&◌, ◌||◌, not, nat_lt, Bool, List, Option, Some, None, All, map, filter, is_none, unwrap_or, if◌then◌else◌, ⊤}
use Rattle.session_list.specs.declared.session.Session.{Session}
use Rattle.admission_model.specs.declared.durable.DurableCell.{DurableCell}
use Rattle.admission_model.specs.Durable.{AreRising}
use Rattle.admission_model.specs.Replies.{holder_limit}
use Rattle.admission_model.specs.Restoring.{stored_at}
use Rattle.admission_core.specs.declared.change.SessionChange.{SessionChange}
use Rattle.admission_core.specs.declared.change.SessionChange.TheVariants as changes
use Rattle.admission_core.specs.Kept.{ChangeState}
use Rattle.store_rows.specs.declared.content.StoredCell.{StoredCell}
use Rattle.store_rows.specs.declared.content.StoredNotice.{StoredNotice}
use Rattle.store_rows.specs.declared.content.SessionEdit.{SessionEdit}
use Rattle.store_rows.specs.declared.content.SessionEdit.TheVariants.{Put, Dropped}
use Rattle.store_rows.specs.Rows.{Stored}
use Rattle.store_rows.specs.Changes.{changed as committed}
use Rattle.store_rows.specs.Steps.{HasFreePlace, IsStorable}
use Rattle.durable_keeper.specs.Keeping.{changed, most_kept}
use Rattle.store_content.specs.Content.{IsContent, durable_in, stage_for, place_in, greatest_place, most_places, notice_in, announced_by, finished_by, announced_slot, finished_slot}

-- what a commit puts into the tables of counters and notices, and its edit of a session
pub record RowsState : Type 0 where
  pub cells : List StoredCell
  pub notices : List StoredNotice
  pub edit : Option SessionEdit

-- a content after a commit of rows
abbrev pub after : RowsState → Stored → Stored
after rows it = committed rows.cells rows.notices rows.edit it

-- a counter as it stands in the table of counters
abbrev pub stored_cell : DurableCell → StoredCell
stored_cell c = record { r = c.r; slot = c.slot; n = c.value }

-- the counters of a change that stand in the table of counters
abbrev pub cells_of : List DurableCell → List StoredCell
cells_of cells = map stored_cell (filter (λ c. nat_lt c.slot 300) cells)

-- the row of what is known of site j's writers at record r after a change
abbrev pub row_after : List DurableCell → Stored → ℕ → ℕ → StoredNotice
row_after cells it r j = record {
  r = r;
  site = j;
  announced = unwrap_or (stored_at cells r (announced_slot j)) (announced_by (notice_in it.notices r j));
  finished = unwrap_or (stored_at cells r (finished_slot j)) (finished_by (notice_in it.notices r j));
}

-- the site whose writers a slot from 300 on counts
abbrev pub site_at : ℕ → ℕ
site_at slot = if nat_lt slot 400 then slot - 300 else slot - 400

-- a counter of a change is one of a notice, and the first of its notice that changes
abbrev pub begins_row : List DurableCell → DurableCell → Bool
begins_row cells c = not (nat_lt c.slot 300) && (nat_lt c.slot 400 || is_none (stored_at cells c.r (announced_slot (site_at c.slot))))

-- the notices of which a counter changes, as they are after the change
abbrev pub notices_of : List DurableCell → Stored → List StoredNotice
notices_of cells it = map (λ c. row_after cells it c.r (site_at c.slot)) (filter (begins_row cells) cells)

-- the place of a session that is put: its own, and for a new one that after the greatest
abbrev pub place_for : Session → Stored → ℕ
place_for s it = unwrap_or (place_in it.sessions s.r s.h) (greatest_place it.sessions + 1)

-- the edit of a session that is put or removed
abbrev pub edit_of : Option SessionChange → Stored → Option SessionEdit
edit_of None it = None
edit_of (Some (changes.Put s)) it = Some (Put (record { r = s.r; h = s.h; stage = stage_for s.phase; place = place_for s it }))
edit_of (Some (changes.Removed s)) it = Some (Dropped s.r s.h)

-- a session that is put is new, and the greatest place is the last one
abbrev pub LacksPlace : Option SessionChange → Stored → Type 0
LacksPlace None it = ⊥
LacksPlace (Some (changes.Put s)) it = (place_in it.sessions s.r s.h ≡ None) × (most_places ≤ greatest_place it.sessions)
LacksPlace (Some (changes.Removed s)) it = ⊥

-- the rows of a change to a content
pub record IsPlan (c : ChangeState) (it : Stored) (rows : RowsState) : Type 0 where
  pub cells : rows.cells ≡ cells_of c.cells
  pub notices : rows.notices ≡ notices_of c.cells it
  pub edit : rows.edit ≡ edit_of c.session it
  pub room : ¬ LacksPlace c.session it

-- the rows of a change
abbrev pub rows_for : ChangeState → Stored → RowsState
rows_for c it = record { cells = cells_of c.cells; notices = notices_of c.cells it; edit = edit_of c.session it }

-- a content after a change: a session that comes has the place after the greatest, and each other row stays as it is
abbrev pub after_change : ChangeState → Stored → Stored
after_change c it = after (rows_for c it) it

-- the answer to a change: its rows, or that there is no place for its session
abbrev pub IsPlanned : ChangeState → Stored → Option RowsState → Type 0
IsPlanned c it (Some rows) = IsPlan c it rows
IsPlanned c it None = LacksPlace c.session it

-- a slot that the rows of a store have: below 300, or that of a notice of one of 16 sites
abbrev pub IsSlot : ℕ → Type 0
IsSlot slot = (slot < 300) ⊎ (((300 ≤ slot) × (slot ≤ 315)) ⊎ ((400 ≤ slot) × (slot ≤ 415)))

-- A counter of a change is at a record of 16 bits and at such a slot. It is not 0 if it is of a notice, and no more than it
-- can be.
pub record IsCell (c : DurableCell) : Type 0 where
  pub record_fits : c.r < 2 ^ 16
  pub slot : IsSlot c.slot
  pub moved : 300 ≤ c.slot → 1 ≤ c.value
  pub small : c.value ≤ most_kept

-- a session that is put or removed is at a record of 16 bits, and its holder is one that can be
abbrev pub IsHeld : Option SessionChange → Type 0
IsHeld None = ⊤
IsHeld (Some (changes.Put s)) = (s.r < 2 ^ 16) × (s.h ≤ holder_limit)
IsHeld (Some (changes.Removed s)) = (s.r < 2 ^ 16) × (s.h ≤ holder_limit)

-- A change that rows of a store can tell, as each change that a keeper may be told is: its counters rise by record and
-- slot, and each is one that a store has.
pub record IsTellable (c : ChangeState) : Type 0 where
  pub rising : AreRising c.cells
  pub cells : All IsCell c.cells
  pub held : IsHeld c.session

-- A commit of rows makes a change of the durable part that a content stands for, and of nothing else of it; the store
-- takes the rows.
pub record Makes (c : ChangeState) (it : Stored) (rows : RowsState) : Type 0 where
  pub durable : durable_in (after rows it) ≡ changed c (durable_in it)
  pub content : IsContent (after rows it)
  pub place : HasFreePlace rows.edit it.sessions
  pub edit : IsStorable rows.edit
  pub cells : All (λ x. x.n < 2 ^ 63) rows.cells
  pub notices : All (λ n. (n.announced < 2 ^ 63) × (n.finished < 2 ^ 63)) rows.notices
