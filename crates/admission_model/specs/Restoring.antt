-- What a site may begin from: which cells and sessions of a store make a durable part, and where an account
-- begins that has them (this project's own).
use Rattle.std.specs.Prelude.{◌≡◌, ◌≢◌, ℕ, ◌+◌, ◌<◌, ◌≤◌, ◌==◌, ◌&&◌, nat_lt, List, [], ◌∷◌, length, All, unwrap_or, if◌then◌else◌, Option, Some, None, IsSome}
use Rattle.merge_core.specs.declared.cell.Cell.{Cell}
use Rattle.merge_core.specs.declared.cell.Cell.TheVariants.{Out, Taken, Ann, Fin}
use Rattle.merge_core.specs.Layout.{LayoutState, shape_of}
use Rattle.merge_core.specs.Rows.{grant, start_counter}
use Rattle.merge_core.specs.Counts.{counter_limit}
use Rattle.merge_core.specs.Notices.{most_writers}
use Rattle.session_list.specs.declared.session.Session.{Session}
use Rattle.session_list.specs.Sessions.{IsOnce}
use Rattle.admission_model.specs.declared.durable.DurableCell.{DurableCell}
use Rattle.admission_model.specs.Account.{Origin, begin, seats_in, session_total, weight, writers}
use Rattle.admission_model.specs.View.{view_of, gained, spent}
use Rattle.admission_model.specs.Replies.{holder_limit}
use Rattle.admission_model.specs.Sound.{FitsRow}
use Rattle.admission_model.specs.Durable.{named, at_slot, AreRising}

-- the value at a record's slot, if there is a cell for it
abbrev pub stored_at : List DurableCell → ℕ → ℕ → Option ℕ
stored_at [] r slot = None
stored_at (c ∷ cs) r slot = if (c.r == r) && (c.slot == slot) then Some c.value else stored_at cs r slot

-- a slot, where there is such a site
abbrev pub slot_if : ℕ → ℕ → ℕ → Option ℕ
slot_if sites s slot = if nat_lt s sites then Some slot else None

-- the slot that names a counter of row s at site i of so many, if one does
abbrev pub slot_of : ℕ → ℕ → ℕ → Cell → Option ℕ
slot_of sites i s (Out j) = if s == i then slot_if sites j j else (if j == i then slot_if sites s (100 + s) else None)
slot_of sites i s Taken = if s == i then Some 200 else None
slot_of sites i s Ann = if s == i then Some 201 else slot_if sites s (300 + s)
slot_of sites i s Fin = if s == i then Some 202 else slot_if sites s (400 + s)

-- the stored value of a slot, if there are both
abbrev pub stored_in : List DurableCell → ℕ → Option ℕ → Option ℕ
stored_in cells r None = None
stored_in cells r (Some slot) = stored_at cells r slot

-- the counters that cells tell: one without a cell is at its start
abbrev pub counters_from : LayoutState → ℕ → List DurableCell → ℕ → ℕ → Cell → ℕ
counters_from layout i cells r s cell =
    unwrap_or (stored_in cells r (slot_of layout.sites i s cell)) (start_counter (shape_of layout) r s cell)

-- where an account begins that has these cells and sessions
abbrev pub origin_from : LayoutState → ℕ → List DurableCell → List Session → Origin
origin_from layout i cells sessions =
    record { layout = layout; site = i; base = record { counters = counters_from layout i cells; sessions = sessions } }

-- Cells are those of a durable part of site i: they rise, each names a counter that has left its start, the own
-- row is one that its site can have, what others sent and told of writers is within its limits, no right was
-- spent that was not gained, and there are at most so many unfinished writers.
pub record AreCells (layout : LayoutState) (i : ℕ) (cells : List DurableCell) : Type 0 where
  pub rising : AreRising cells
  pub records : All (λ c. c.r < length layout.records) cells
  pub slots : All (λ c. IsSome (named layout.sites i c.slot)) cells
  pub moved : All (λ c. c.value ≢ at_slot layout.sites i (start_counter (shape_of layout)) c.r c.slot) cells
  pub own_rows : (r : ℕ) → FitsRow (grant (shape_of layout) r i) i (counters_from layout i cells r i)
  pub columns : (r j : ℕ) → j ≢ i → counters_from layout i cells r j (Out i) ≤ counter_limit
  pub finished : (r j : ℕ) → counters_from layout i cells r j Fin ≤ counters_from layout i cells r j Ann
  pub announced : (r j : ℕ) → counters_from layout i cells r j Ann ≤ counter_limit
  pub affordable : (r : ℕ) → let v = view_of (begin (origin_from layout i cells [])) in spent v r ≤ gained v r
  pub few_writers : (r : ℕ) → counters_from layout i cells r i Ann ≤ counters_from layout i cells r i Fin + most_writers

-- Sessions agree with the cells: each is of a record and a holder that can be, no holder stands twice at a
-- record, their weights are the seats inside, and their writers those that are not finished.
pub record AreSessions (layout : LayoutState) (i : ℕ) (cells : List DurableCell) (sessions : List Session) : Type 0 where
  pub records : All (λ s. s.r < length layout.records) sessions
  pub holders : All (λ s. s.h ≤ holder_limit) sessions
  pub once : IsOnce sessions
  pub seats : (r : ℕ) → counters_from layout i cells r i Taken + grant (shape_of layout) r i
      ≡ counters_from layout i cells r i (Out i) + session_total (weight (seats_in layout r)) r sessions
  pub writers : (r : ℕ) → counters_from layout i cells r i Ann ≡ counters_from layout i cells r i Fin + session_total writers r sessions
