-- A durable part as a list of cells, and the change that a step makes of it: what a store keeps and is told.
use Rattle.std.specs.Prelude.{◌≡◌, ℕ, zero, suc, ◌+◌, ◌-◌, ◌==◌, ◌&&◌, ◌||◌, not, Bool, true, false, nat_lt, List, [], ◌∷◌, ◌++◌, length, is_none, IsTrue, if◌then◌else◌, Option, Some, None}
use Rattle.std.specs.List.{AllByRecursion, filter}
use Rattle.merge_core.specs.declared.cell.Cell.{Cell}
use Rattle.merge_core.specs.declared.cell.Cell.TheVariants.{Out, Taken, Ann, Fin}
use Rattle.merge_core.specs.Layout.{LayoutState, shape_of}
use Rattle.merge_core.specs.Rows.{start_counter}
use Rattle.session_list.specs.declared.session.Phase.{Phase}
use Rattle.session_list.specs.declared.session.Phase.TheVariants.{Reader, Waiting, Writer}
use Rattle.admission_model.specs.declared.durable.DurableCell.{DurableCell}
use Rattle.admission_model.specs.Account.{Account, sessions_of}
use Rattle.session_list.specs.Sessions.{phase_in}
use Rattle.session_list.specs.declared.session.Session.{Session}
use Rattle.admission_model.specs.Knowledge.{known}

-- a counter of a record: whose row, and which counter of it
pub record Named : Type 0 where
  pub s : ℕ
  pub cell : Cell

-- a counter that is kept of another site j
abbrev pub of_other : ℕ → ℕ → ℕ → Cell → Option Named
of_other sites i j cell = if nat_lt j sites && not (j == i) then Some (record { s = j; cell = cell }) else None

-- The counter of a record that a slot names at site i of so many (numbers of the project's own): the seats that
-- i gave to each site from 0, those that each other site gave to i from 100, the units taken, writers announced
-- and finished at i from 200, and the writers announced from 300 and finished from 400 at each other site.
abbrev pub named : ℕ → ℕ → ℕ → Option Named
named sites i slot =
    if nat_lt slot 100 then (if nat_lt slot sites then Some (record { s = i; cell = Out slot }) else None) else (
    if nat_lt slot 200 then of_other sites i (slot - 100) (Out i) else (
    if slot == 200 then Some (record { s = i; cell = Taken }) else (
    if slot == 201 then Some (record { s = i; cell = Ann }) else (
    if slot == 202 then Some (record { s = i; cell = Fin }) else (
    if nat_lt slot 300 then None else (
    if nat_lt slot 400 then of_other sites i (slot - 300) Ann else of_other sites i (slot - 400) Fin))))))

-- a named counter of record r; where none is named it is 0
abbrev pub counter_named : (ℕ → ℕ → Cell → ℕ) → ℕ → Option Named → ℕ
counter_named counter r None = 0
counter_named counter r (Some it) = counter r it.s it.cell

-- the counter at a slot of site i
abbrev pub at_slot : ℕ → ℕ → (ℕ → ℕ → Cell → ℕ) → ℕ → ℕ → ℕ
at_slot sites i counter r slot = counter_named counter r (named sites i slot)

-- a record and a slot
pub record Place : Type 0 where
  pub r : ℕ
  pub slot : ℕ

-- n slots of a record from one on
abbrev pub slots_from : ℕ → ℕ → ℕ → List Place
slots_from r slot zero = []
slots_from r slot (suc n) = record { r = r; slot = slot } ∷ slots_from r (slot + 1) n

-- the slots of a record: with 16 sites the last one is 415
unfoldable pub slot_count : ℕ
slot_count = 416

-- all slots of n records from one on
abbrev pub places_from : ℕ → ℕ → List Place
places_from r zero = []
places_from r (suc n) = slots_from r 0 slot_count ++ places_from (r + 1) n

abbrev pub places : LayoutState → List Place
places layout = places_from 0 (length layout.records)

-- the places that pass a test, with their values
abbrev pub pick : (ℕ → ℕ → Bool) → (ℕ → ℕ → ℕ) → List Place → List DurableCell
pick test value [] = []
pick test value (p ∷ ps) =
    if test p.r p.slot then (record { r = p.r; slot = p.slot; value = value p.r p.slot } ∷ pick test value ps) else pick test value ps

-- the places whose values have left their start
abbrev pub kept_cells : (ℕ → ℕ → ℕ) → (ℕ → ℕ → ℕ) → List Place → List DurableCell
kept_cells start value ps = pick (λ r slot. not (value r slot == start r slot)) value ps

-- the places whose values rise, with the new values
abbrev pub risen_cells : (ℕ → ℕ → ℕ) → (ℕ → ℕ → ℕ) → List Place → List DurableCell
risen_cells old new ps = pick (λ r slot. nat_lt (old r slot) (new r slot)) new ps

-- the counters of an account at the slots, and those before any operation
abbrev pub slots_of : Account → ℕ → ℕ → ℕ
slots_of a = at_slot a.sites a.origin.site (known a)

abbrev pub start_slots : Account → ℕ → ℕ → ℕ
start_slots a = at_slot a.sites a.origin.site (start_counter (shape_of a.origin.layout))

-- the counters of the durable part, by record and then by slot: those that have left their start
abbrev pub durable_cells : Account → List DurableCell
durable_cells a = kept_cells (start_slots a) (slots_of a) (places a.origin.layout)

-- a cell stands before another: by record, then by slot
abbrev pub is_before : DurableCell → DurableCell → Bool
is_before c d = nat_lt c.r d.r || ((c.r == d.r) && nat_lt c.slot d.slot)

-- cells rise strictly
abbrev pub AreRising : List DurableCell → Type 0
AreRising [] = Unit {0}
AreRising (c ∷ cs) = AllByRecursion (λ d. IsTrue (is_before c d)) cs × AreRising cs

-- two cells have the same place
abbrev pub is_same_place : DurableCell → DurableCell → Bool
is_same_place c d = (c.r == d.r) && (c.slot == d.slot)

-- a list of cells with one put at its place
abbrev pub put_cell : DurableCell → List DurableCell → List DurableCell
put_cell c [] = c ∷ []
put_cell c (d ∷ ds) =
    if is_before c d then (c ∷ (d ∷ ds)) else (
    if is_same_place c d then (c ∷ ds) else (d ∷ put_cell c ds))

-- a list of cells with others put at their places
abbrev pub put_cells : List DurableCell → List DurableCell → List DurableCell
put_cells [] cells = cells
put_cells (c ∷ cs) cells = put_cell c (put_cells cs cells)

-- two phases are the same
abbrev pub is_same_phase : Phase → Phase → Bool
is_same_phase Reader Reader = true
is_same_phase Waiting Waiting = true
is_same_phase Writer Writer = true
is_same_phase _ _ = false

-- a stored phase is this one
abbrev pub is_phase : Phase → Option Phase → Bool
is_phase p None = false
is_phase p (Some q) = is_same_phase p q

-- what differs between two durable parts: counters that rose, sessions that came or changed their phase, and
-- sessions that went
pub record Change : Type 0 where
  pub cells : List DurableCell
  pub put : List Session
  pub removed : List Session

abbrev pub change_between : Account → Account → Change
change_between a b = record {
  cells = risen_cells (slots_of a) (slots_of b) (places b.origin.layout);
  put = filter (λ s. not (is_phase s.phase (phase_in (sessions_of a) s.r s.h))) (sessions_of b);
  removed = filter (λ s. is_none (phase_in (sessions_of b) s.r s.h)) (sessions_of a);
}

-- nothing differs
pub record IsEmpty (change : Change) : Type 0 where
  pub no_cells : change.cells ≡ []
  pub no_put : change.put ≡ []
  pub none_removed : change.removed ≡ []

-- no session comes, changes its phase or goes
pub record KeepsSessions (change : Change) : Type 0 where
  pub no_put : change.put ≡ []
  pub none_removed : change.removed ≡ []
