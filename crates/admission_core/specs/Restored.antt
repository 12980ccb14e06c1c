-- What a restored site is, by cases on the answer.
use Rattle.std.specs.Prelude.{◌≡◌, ◌≢◌, ℕ, ◌+◌, ◌*◌, ◌<◌, ◌≤◌, List, length, All, Option, Some, None, IsSome, unwrap_or, slice_index_or, Result, Ok, Err}
use Rattle.merge_core.specs.declared.cell.Cell.{Cell}
use Rattle.merge_core.specs.declared.cell.Cell.TheVariants.{Out, Taken, Ann, Fin}
use Rattle.merge_core.specs.Layout.{LayoutState, shape_of}
use Rattle.merge_core.specs.Rows.{grant, start_counter}
use Rattle.merge_core.specs.Sums.{total, total_others}
use Rattle.merge_core.specs.Book.{BookState, IsBook, book_shape, counter_of}
use Rattle.writer_notices.specs.Notices.{most_writers}
use Rattle.session_list.specs.declared.session.Session.{Session}
use Rattle.session_list.specs.Sessions.{Held, IsOnce}
use Rattle.admission_model.specs.declared.durable.DurableCell.{DurableCell}
use Rattle.admission_model.specs.Account.{Account, begin, seats_in, session_total, weight, writers}
use Rattle.admission_model.specs.Replies.{holder_limit}
use Rattle.admission_model.specs.Durable.{named, at_slot}
use Rattle.admission_model.specs.Restoring.{stored_at, slot_of, counters_from, origin_from, AreCells, AreSessions}
use Rattle.admission_core.specs.declared.restoring.RestoreError.{RestoreError}
use Rattle.admission_core.specs.declared.restoring.RestoreError.TheVariants.{BadSite, WrongCounters, WrongSessions, Memory}
use Rattle.admission_core.specs.Core.{Core, Stands}
use Rattle.admission_core.specs.Kept.{DurableState}

-- a core was made of a durable part: the site is there, cells and sessions agree, and the core stands for the
-- account that begins from them
pub record IsCoreFrom (layout : LayoutState) (i : ℕ) (d : DurableState) (c : Core) : Type 0 where
  pub site_there : i < layout.sites
  pub cells : AreCells layout i d.cells
  pub sessions : AreSessions layout i d.cells d.sessions
  pub stands : Stands (begin (origin_from layout i d.cells d.sessions)) c

-- The answer to a durable part: a core, or what is wrong with it. Out of memory never stands in place of `BadSite`.
abbrev pub IsRestored : LayoutState → ℕ → DurableState → Result Core RestoreError → Type 0
IsRestored layout i d (Ok c) = IsCoreFrom layout i d c
IsRestored layout i d (Err BadSite) = ¬ (i < layout.sites)
IsRestored layout i d (Err WrongCounters) = (i < layout.sites) × (¬ AreCells layout i d.cells)
IsRestored layout i d (Err WrongSessions) = (i < layout.sites) × (AreCells layout i d.cells × (¬ AreSessions layout i d.cells d.sessions))
IsRestored layout i d (Err Memory) = i < layout.sites

-- the answer to an account's own durable part
abbrev pub IsOwn : Account → Result Core RestoreError → Type 0
IsOwn a (Ok c) = Stands a c
IsOwn a (Err Memory) = Unit {0}
IsOwn a (Err _) = ⊥

-- each cell is of a record that is there and of a slot that names a counter, which has left its start
pub record IsListed (layout : LayoutState) (i : ℕ) (c : DurableCell) : Type 0 where
  pub record_there : c.r < length layout.records
  pub slot_there : IsSome (named layout.sites i c.slot)
  pub moved : c.value ≢ at_slot layout.sites i (start_counter (shape_of layout)) c.r c.slot

-- values by record and slot, of which a record has 416
abbrev pub value_in : List (Option ℕ) → ℕ → ℕ → Option ℕ
value_in table r slot = slice_index_or table (r * 416 + slot) None

-- the value of a slot, if there are both
abbrev pub value_if : List (Option ℕ) → ℕ → Option ℕ → Option ℕ
value_if table r None = None
value_if table r (Some slot) = value_in table r slot

-- the table has the values of cells
abbrev pub TellsCells : List DurableCell → List (Option ℕ) → Type 0
TellsCells cells table = (r slot : ℕ) → slot < 416 → value_in table r slot ≡ stored_at cells r slot

-- the counters that a table tells: one without a value is at its start
abbrev pub counters_in : LayoutState → ℕ → List (Option ℕ) → ℕ → ℕ → Cell → ℕ
counters_in layout i table r s cell =
    unwrap_or (value_if table r (slot_of layout.sites i s cell)) (start_counter (shape_of layout) r s cell)

-- the seats of a record that counters show as gained by site i, and as spent
abbrev pub gained_by : ℕ → ℕ → (ℕ → ℕ → Cell → ℕ) → ℕ → ℕ
gained_by sites i counter r = total sites (λ j. counter r j (Out i))

abbrev pub spent_by : ℕ → ℕ → (ℕ → ℕ → Cell → ℕ) → ℕ → ℕ
spent_by sites i counter r = total_others sites i (λ j. counter r i (Out j)) + counter r i Taken

-- a record's counters leave no right below 0 and no more unfinished writers than a site may have
pub record KeepsLimits (sites i : ℕ) (counter : ℕ → ℕ → Cell → ℕ) (r : ℕ) : Type 0 where
  pub affordable : spent_by sites i counter r ≤ gained_by sites i counter r
  pub few_writers : counter r i Ann ≤ counter r i Fin + most_writers

-- a book that has the counters of cells
pub record IsBookFrom (layout : LayoutState) (i : ℕ) (cells : List DurableCell) (b : BookState) : Type 0 where
  pub are_cells : AreCells layout i cells
  pub book : IsBook b
  pub shape : book_shape b ≡ shape_of layout
  pub counters : (r s : ℕ) (cell : Cell) → counter_of b r s cell ≡ counters_from layout i cells r s cell

-- the answer to cells: a book, or that they are none of a site that is there
abbrev pub IsBookOf : LayoutState → ℕ → List DurableCell → Result BookState RestoreError → Type 0
IsBookOf layout i cells (Ok b) = IsBookFrom layout i cells b
IsBookOf layout i cells (Err WrongCounters) = ¬ AreCells layout i cells
IsBookOf layout i cells (Err Memory) = Unit {0}
IsBookOf layout i cells (Err _) = ⊥

-- the sessions of a record add up to what the counters show
pub record AddsUp (layout : LayoutState) (i : ℕ) (counter : ℕ → ℕ → Cell → ℕ) (sessions : List Session) (r : ℕ) : Type 0 where
  pub seats : counter r i Taken + grant (shape_of layout) r i ≡ counter r i (Out i) + session_total (weight (seats_in layout r)) r sessions
  pub writers : counter r i Ann ≡ counter r i Fin + session_total writers r sessions

-- a session of a record and a holder that can be
abbrev pub IsSession : LayoutState → Session → Type 0
IsSession layout s = (s.r < length layout.records) × (s.h ≤ holder_limit)

-- sessions agree with counters
pub record AgreeWith (layout : LayoutState) (i : ℕ) (counter : ℕ → ℕ → Cell → ℕ) (sessions : List Session) : Type 0 where
  pub each : All (IsSession layout) sessions
  pub once : IsOnce sessions
  pub sums : (r : ℕ) → r < length layout.records → AddsUp layout i counter sessions r

-- the answer to sessions: they are held, or do not agree with the counters
abbrev pub IsHeldOf : LayoutState → ℕ → (ℕ → ℕ → Cell → ℕ) → List Session → Result Held RestoreError → Type 0
IsHeldOf layout i counter sessions (Ok held) = AgreeWith layout i counter sessions × (held.sessions ≡ sessions)
IsHeldOf layout i counter sessions (Err WrongSessions) = ¬ AgreeWith layout i counter sessions
IsHeldOf layout i counter sessions (Err Memory) = Unit {0}
IsHeldOf layout i counter sessions (Err _) = ⊥
