-- The core of a site that was restored.
use Rattle.std.proofs.Common.{◌≡◌, ℕ, ◌+◌, ◌<◌, ◌≤◌, ◌⊎◌, inl, inr, true, false, eqb, ltb, leb, List, [], ◌∷◌, length, Option, Some, None, unwrap_or, Result, Ok, Err, is_err, refl, sym, ap, subst, ◌∙◌, arith}
use Rattle.std.specs.List.{AllByRecursion, All}
use Rattle.std.proofs.lemmas.Bool.{cases_eq, cases_lt, cond_both, ltb-true, le-leb, ne_eqb, or_from, cond-true}
use Rattle.std.proofs.lemmas.List.Elements.{recursion_from_All}
use Rattle.merge_core.specs.declared.cell.Cell.{Cell}
use Rattle.merge_core.specs.declared.cell.Cell.TheVariants.{Out, Taken, Ann, Fin}
use Rattle.merge_core.specs.declared.delta.Row.{Row}
use Rattle.merge_core.specs.declared.check.CheckError.{CheckError}
use Rattle.merge_core.specs.declared.check.CheckError.TheVariants.{OtherLayout, BadRow}
use Rattle.merge_core.specs.Layout.{LayoutState, IsLayout, Shape, shape_of, at_sites}
use Rattle.merge_core.specs.Rows.{grant, start_counter}
use Rattle.merge_core.specs.Naming.{shown_by}
use Rattle.merge_core.specs.Check.{IsChecked, IsCheckOf}
use Rattle.merge_core.specs.Changes.{keeps_counter, JoinsRows}
use Rattle.merge_core.specs.Moved.{all_moved}
use Rattle.merge_core.specs.Book.{BookState, IsBook, book_shape, counter_of}
use Rattle.merge_core.proofs.SumLemmas.{total_same, total_others_same, total_others_zero}
use Rattle.session_list.specs.declared.session.Session.{Session}
use Rattle.session_list.specs.Sessions.{Held, phase_in}
use Rattle.admission_model.specs.declared.durable.DurableCell.{DurableCell}
use Rattle.admission_model.specs.Account.{Account, begin, seats_in, weight, writers}
use Rattle.admission_model.specs.Knowledge.{known, grown}
use Rattle.admission_model.specs.View.{view_of, gained, spent}
use Rattle.admission_model.specs.Serving.{Grows, after_step}
use Rattle.admission_model.specs.Sound.{FitsRow, IsOrigin}
use Rattle.admission_model.specs.Reached.{IsReached}
use Rattle.admission_model.specs.Laws.{ShowTheSame}
use Rattle.admission_model.specs.Durable.{AreRising}
use Rattle.admission_model.specs.Restoring.{slot_if, slot_of, stored_in, counters_from, origin_from, AreCells, AreSessions}
use Rattle.admission_model.proofs.CounterLemmas.{known_own, known_other}
use Rattle.admission_model.proofs.RowLemmas.{start_below, start_past, start_diagonal}
use Rattle.admission_model.proofs.HeardLemmas.{kept_yes, kept_no, kept_column}
use Rattle.admission_model.proofs.LawLemmas.{sound_reached}
use Rattle.admission_core.proofs.CoreLemmas.{stands_from}
use Rattle.admission_model.proofs.OrderLemmas.{sessions_begun}
use Rattle.admission_model.proofs.StoredLemmas.{stored_past}
use Rattle.admission_model.proofs.SlotLemmas.{slot_past, slot_sent_past, slot_elsewhere, slot_not_taken}
use Rattle.admission_model.proofs.OriginLemmas.{begins_from, rows_fit}
use Rattle.admission_model.proofs.RestoringLemmas.{stored_cells, stored_sessions, begun_again}
use Rattle.admission_core.specs.declared.restoring.RestoreError.{RestoreError}
use Rattle.admission_core.specs.declared.restoring.RestoreError.TheVariants.{BadSite, WrongCounters, WrongSessions, Memory}
use Rattle.admission_core.specs.Core.{Core, Stands}
use Rattle.admission_core.specs.Kept.{DurableState, durable_of}
use Rattle.admission_core.specs.Restored.{IsCoreFrom, IsRestored, IsHeldOf, IsOwn, IsListed, value_if, TellsCells, counters_in, gained_by, spent_by, KeepsLimits, IsBookFrom, AddsUp, AgreeWith}
use Rattle.admission_core.proofs.RestoringLists.{total_none}
use Rattle.admission_core.proofs.RestoringRows.{StartBeyond, shown_counter, fits_from, checked_from}

-- ---- the counters of a table are those of its cells

abbrev IsLow : Option ℕ → Type 0
IsLow None = Unit {0}
IsLow (Some slot) = slot < 416

if_low : (sites s slot : ℕ) → (s < sites → slot < 416) → IsLow (slot_if sites s slot)
if_low sites s slot low = cond_both (ltb s sites) (Some slot) None IsLow (λ e. low (ltb-true s sites e)) (λ e. tt)

slot_of_low : (sites i s : ℕ) (cell : Cell) → sites ≤ 16 → IsLow (slot_of sites i s cell)
slot_of_low sites i s (Out j) few =
    cond_both (eqb s i) _ _ IsLow (λ e. if_low sites j j (λ low. omega arith))
    (λ e. cond_both (eqb j i) _ _ IsLow (λ d. if_low sites s (100 + s) (λ low. omega arith)) (λ d. tt))
slot_of_low sites i s Taken few = cond_both (eqb s i) (Some 200) None IsLow (λ e. omega arith) (λ e. tt)
slot_of_low sites i s Ann few = cond_both (eqb s i) (Some 201) _ IsLow (λ e. omega arith) (λ e. if_low sites s (300 + s) (λ low. omega arith))
slot_of_low sites i s Fin few = cond_both (eqb s i) (Some 202) _ IsLow (λ e. omega arith) (λ e. if_low sites s (400 + s) (λ low. omega arith))

pub same_counters : (layout : LayoutState) (i : ℕ) (cells : List DurableCell) (table : List (Option ℕ)) → layout.sites ≤ 16 → TellsCells cells table → counters_in layout i table ≡ counters_from layout i cells
same_counters layout i cells table few tells = λ k r s cell. at r s cell (slot_of layout.sites i s cell) (slot_of_low layout.sites i s cell few) k
  where
    at : (r s : ℕ) (cell : Cell) (o : Option ℕ) → IsLow o → unwrap_or (value_if table r o) (start_counter (shape_of layout) r s cell) ≡ unwrap_or (stored_in cells r o) (start_counter (shape_of layout) r s cell)
    at r s cell None low = refl
    at r s cell (Some slot) low = ap (λ o. unwrap_or o (start_counter (shape_of layout) r s cell)) (tells r slot low)

-- ---- counters that cells tell

pub beyond_from : (layout : LayoutState) (i : ℕ) (cells : List DurableCell) → i < layout.sites → All (λ c. c.r < length layout.records) cells → StartBeyond layout (counters_from layout i cells)
beyond_from layout i cells there records = record {
  records = λ r s cell past. at r s cell past (slot_of layout.sites i s cell);
  rows = λ r s cell past. level r s cell (slot_past layout.sites i s cell (λ e. absurd (omega arith)) past);
  columns = λ r s j past. level r s (Out j) (slot_sent_past layout.sites i s j there past);
}
  where
    level : (r s : ℕ) (cell : Cell) → slot_of layout.sites i s cell ≡ None → counters_from layout i cells r s cell ≡ start_counter (shape_of layout) r s cell
    level r s cell none = ap (λ o. unwrap_or (stored_in cells r o) (start_counter (shape_of layout) r s cell)) none

    at : (r s : ℕ) (cell : Cell) → length layout.records ≤ r → (o : Option ℕ) → unwrap_or (stored_in cells r o) (start_counter (shape_of layout) r s cell) ≡ start_counter (shape_of layout) r s cell
    at r s cell past None = refl
    at r s cell past (Some slot) =
        ap (λ o. unwrap_or o (start_counter (shape_of layout) r s cell))
        (stored_past (length layout.records) r slot cells (recursion_from_All (λ c. c.r < length layout.records) cells records) past)

-- the account that begins from cells knows the counters that they tell
pub begun_known : (layout : LayoutState) (i : ℕ) (cells : List DurableCell) (sessions : List Session) (r s : ℕ) (cell : Cell) → known (begin (origin_from layout i cells sessions)) r s cell ≡ counters_from layout i cells r s cell
begun_known layout i cells sessions r s cell = at (cases_eq s i)
  where
    level : (c : Cell) → slot_of layout.sites i s c ≡ None → start_counter (shape_of layout) r s c ≡ counters_from layout i cells r s c
    level c none = sym (ap (λ x. unwrap_or (stored_in cells r x) (start_counter (shape_of layout) r s c)) none)

    other : (c : Cell) → (s ≡ i → ⊥) → known (begin (origin_from layout i cells sessions)) r s c ≡ counters_from layout i cells r s c
    other (Out j) apart = column (cases_eq j i)
      where
        column : (j ≡ i) ⊎ (j ≡ i → ⊥) → known (begin (origin_from layout i cells sessions)) r s (Out j) ≡ counters_from layout i cells r s (Out j)
        column (inl e) =
            known_other (begin (origin_from layout i cells sessions)) r s (Out j) apart
            ∙ kept_yes (origin_from layout i cells sessions) (counters_from layout i cells) r s (Out j) (ap (λ x. keeps_counter i s (Out x)) e ∙ kept_column i s)
        column (inr ne) =
            known_other (begin (origin_from layout i cells sessions)) r s (Out j) apart
            ∙ (kept_no (origin_from layout i cells sessions) (counters_from layout i cells) r s (Out j) (or_from (eqb s i) (eqb j i) (ne_eqb s i apart) (ne_eqb j i ne))
            ∙ level (Out j) (slot_elsewhere layout.sites i s j apart ne))
    other Taken apart =
        known_other (begin (origin_from layout i cells sessions)) r s Taken apart
        ∙ (kept_no (origin_from layout i cells sessions) (counters_from layout i cells) r s Taken (ne_eqb s i apart)
        ∙ level Taken (slot_not_taken layout.sites i s apart))
    other Ann apart = known_other (begin (origin_from layout i cells sessions)) r s Ann apart
    other Fin apart = known_other (begin (origin_from layout i cells sessions)) r s Fin apart

    at : (s ≡ i) ⊎ (s ≡ i → ⊥) → known (begin (origin_from layout i cells sessions)) r s cell ≡ counters_from layout i cells r s cell
    at (inl e) =
        subst (λ (x : ℕ). known (begin (origin_from layout i cells sessions)) r x cell ≡ counters_from layout i cells r x cell) (sym e)
        (known_own (begin (origin_from layout i cells sessions)) r cell)
    at (inr ne) = other cell ne

known_gained : (layout : LayoutState) (i : ℕ) (cells : List DurableCell) (r : ℕ) → gained (view_of (begin (origin_from layout i cells []))) r ≡ gained_by layout.sites i (counters_from layout i cells) r
known_gained layout i cells r =
    total_same layout.sites (λ j. known (begin (origin_from layout i cells [])) r j (Out i)) (λ j. counters_from layout i cells r j (Out i)) (λ j below. begun_known layout i cells [] r j (Out i))

known_spent : (layout : LayoutState) (i : ℕ) (cells : List DurableCell) (r : ℕ) → spent (view_of (begin (origin_from layout i cells []))) r ≡ spent_by layout.sites i (counters_from layout i cells) r
known_spent layout i cells r =
    omega (
      arith,
      total_others_same layout.sites i (λ j. known (begin (origin_from layout i cells [])) r i (Out j)) (λ j. counters_from layout i cells r i (Out j)) (λ j below apart. begun_known layout i cells [] r i (Out j)),
      begun_known layout i cells [] r i Taken,
    )

-- ---- what has to be tested of cells

pub listed_from : (layout : LayoutState) (i : ℕ) (cells : List DurableCell) → AreCells layout i cells → AreRising cells × All (IsListed layout i) cells
listed_from layout i cells are =
    (are.rising, λ k d below. record { record_there = are.records k d below; slot_there = are.slots k d below; moved = are.moved k d below })

pub within_from : (layout : LayoutState) (i : ℕ) (cells : List DurableCell) → AreCells layout i cells → (r : ℕ) → KeepsLimits layout.sites i (counters_from layout i cells) r
within_from layout i cells are r = record {
  affordable = omega (arith, are.affordable r, known_gained layout i cells r, known_spent layout i cells r);
  few_writers = are.few_writers r;
}

pub cells_made : (layout : LayoutState) (i : ℕ) (cells : List DurableCell) → i < layout.sites → AreRising cells × All (IsListed layout i) cells → ((r s : ℕ) → FitsRow (grant (shape_of layout) r s) s (counters_from layout i cells r s)) → ((r : ℕ) → r < length layout.records → KeepsLimits layout.sites i (counters_from layout i cells) r) → AreCells layout i cells
cells_made layout i cells there listed fits within = record {
  rising = listed.0;
  records = λ k d below. (listed.1 k d below).record_there;
  slots = λ k d below. (listed.1 k d below).slot_there;
  moved = λ k d below. (listed.1 k d below).moved;
  own_rows = λ r. fits r i;
  columns = λ r j apart. (fits r j).few_moved i (λ e. apart (sym e));
  finished = λ r j. (fits r j).finished_after_announced;
  announced = λ r j. (fits r j).few_announced;
  affordable = λ r. omega (arith, (each r (cases_lt r (length layout.records))).affordable, known_gained layout i cells r, known_spent layout i cells r);
  few_writers = λ r. (each r (cases_lt r (length layout.records))).few_writers;
}
  where
    zero_past : (r s : ℕ) (cell : Cell) → length layout.records ≤ r → counters_from layout i cells r s cell ≡ 0
    zero_past r s cell past =
        (beyond_from layout i cells there (λ k d below. (listed.1 k d below).record_there)).records r s cell past ∙ start_past layout r s cell past

    each : (r : ℕ) → (r < length layout.records) ⊎ (length layout.records ≤ r) → KeepsLimits layout.sites i (counters_from layout i cells) r
    each r (inl below) = within r below
    each r (inr past) = record {
      affordable = omega (
        arith,
        total_others_zero layout.sites i (λ j. counters_from layout i cells r i (Out j)) (λ j. zero_past r i (Out j) past),
        zero_past r i Taken past,
      );
      few_writers = omega (arith, zero_past r i Ann past);
    }

-- ---- the book

module _ (layout : LayoutState) (i : ℕ) (cells : List DurableCell) (table : List (Option ℕ)) (rows : List Row) (old : BookState) (is : IsLayout layout) (there : i < layout.sites) (listed : AreRising cells × All (IsListed layout i) cells) (tells : TellsCells cells table) (told : rows ≡ all_moved (shape_of layout) (counters_in layout i table)) (shape : book_shape old ≡ shape_of layout) where
  same : counters_in layout i table ≡ counters_from layout i cells
  same = same_counters layout i cells table is.few_sites tells

  told_from : rows ≡ all_moved (shape_of layout) (counters_from layout i cells)
  told_from = told ∙ ap (all_moved (shape_of layout)) same

  beyond : StartBeyond layout (counters_from layout i cells)
  beyond = beyond_from layout i cells there (λ k d below. (listed.1 k d below).record_there)

  -- cells of a site make rows that a book takes
  checked : AreCells layout i cells → IsChecked (book_shape old) rows
  checked are =
      subst (λ (sh : Shape). IsChecked sh rows) (sym shape)
      (subst (λ (rs : List Row). IsChecked (shape_of layout) rs) (sym told_from)
      (checked_from layout (counters_from layout i cells) beyond (rows_fit layout i cells [] there are)))

  pub not_checked : (e : CheckError) → IsCheckOf (book_shape old) rows (Err e) → ¬ AreCells layout i cells
  not_checked (OtherLayout k) fails are =
      let clash : ◌≡◌ {A = Option ℕ} None (Some k) = sym (checked are).placed ∙ fails in cc
  not_checked (BadRow k) fails are =
      let clash : ◌≡◌ {A = Option ℕ} None (Some k) = sym (checked are).valid ∙ fails.1 in cc

  pub not_within : (((r : ℕ) → r < length layout.records → KeepsLimits layout.sites i (counters_in layout i table) r) → ⊥) → ¬ AreCells layout i cells
  not_within fails are =
      fails (λ r below. subst (λ (f : ℕ → ℕ → Cell → ℕ). KeepsLimits layout.sites i f r) (sym same) (within_from layout i cells are r))

  pub book_made : (new : BookState) → ((r s : ℕ) (cell : Cell) → counter_of old r s cell ≡ start_counter (shape_of layout) r s cell) → IsChecked (book_shape old) rows → ((r : ℕ) → r < length layout.records → KeepsLimits layout.sites i (counters_in layout i table) r) → JoinsRows old new rows → IsBook new → IsBookFrom layout i cells new
  book_made new begins takes within joins book = record {
    are_cells = cells_made layout i cells there listed fits (λ r below. subst (λ (f : ℕ → ℕ → Cell → ℕ). KeepsLimits layout.sites i f r) same (within r below));
    book = book;
    shape = joins.shape ∙ shape;
    counters = λ r s cell.
        omega (
          arith,
          joins.counters r s cell,
          begins r s cell,
          shown r s cell,
          start_below (shape_of layout) r s (counters_from layout i cells r s) (fits r s) cell,
        );
  }
    where
      taken : IsChecked (shape_of layout) (all_moved (shape_of layout) (counters_from layout i cells))
      taken =
          subst (λ (rs : List Row). IsChecked (shape_of layout) rs) told_from
          (subst (λ (sh : Shape). IsChecked sh rows) shape takes)

      fits : (r s : ℕ) → FitsRow (grant (shape_of layout) r s) s (counters_from layout i cells r s)
      fits = fits_from layout (counters_from layout i cells) beyond taken

      shown : (r s : ℕ) (cell : Cell) → shown_by (book_shape old) rows r s cell ≡ counters_from layout i cells r s cell
      shown r s cell =
          ap (λ (sh : Shape). shown_by sh rows r s cell) shape
          ∙ (ap (λ (rs : List Row). shown_by (shape_of layout) rs r s cell) told_from
          ∙ shown_counter layout (counters_from layout i cells) beyond r s cell)

-- .. by the book's answer
pub checked_if : (shape : Shape) (rows : List Row) (answer : Result (Unit {0}) CheckError) → IsCheckOf shape rows answer → is_err answer ≡ false → IsChecked shape rows
checked_if shape rows (Ok u) is none = is
checked_if shape rows (Err e) is none = cc

pub not_checked_if : (layout : LayoutState) (i : ℕ) (cells : List DurableCell) (table : List (Option ℕ)) (rows : List Row) (old : BookState) → IsLayout layout → i < layout.sites → AreRising cells × All (IsListed layout i) cells → TellsCells cells table → rows ≡ all_moved (shape_of layout) (counters_in layout i table) → book_shape old ≡ shape_of layout → (answer : Result (Unit {0}) CheckError) → IsCheckOf (book_shape old) rows answer → is_err answer ≡ true → ¬ AreCells layout i cells
not_checked_if layout i cells table rows old is there listed tells told shape (Ok u) answered fails = cc
not_checked_if layout i cells table rows old is there listed tells told shape (Err e) answered fails =
    not_checked layout i cells table rows old is there listed tells told shape e answered

pub not_listed : (layout : LayoutState) (i : ℕ) (cells : List DurableCell) → ((AreRising cells × All (IsListed layout i) cells) → ⊥) → ¬ AreCells layout i cells
not_listed layout i cells fails are = fails (listed_from layout i cells are)

-- ---- the sessions

pub sessions_made : (layout : LayoutState) (i : ℕ) (cells : List DurableCell) (sessions : List Session) → i < layout.sites → AreCells layout i cells → AgreeWith layout i (counters_from layout i cells) sessions → AreSessions layout i cells sessions
sessions_made layout i cells sessions there are agree = record {
  records = λ k d below. (agree.each k d below).0;
  holders = λ k d below. (agree.each k d below).1;
  once = agree.once;
  seats = λ r. (each r (cases_lt r (length layout.records))).seats;
  writers = λ r. (each r (cases_lt r (length layout.records))).writers;
}
  where
    zero_past : (r s : ℕ) (cell : Cell) → length layout.records ≤ r → counters_from layout i cells r s cell ≡ 0
    zero_past r s cell past = (beyond_from layout i cells there are.records).records r s cell past ∙ start_past layout r s cell past

    all_there : AllByRecursion (λ s. s.r < length layout.records) sessions
    all_there = recursion_from_All (λ s. s.r < length layout.records) sessions (λ k d below. (agree.each k d below).0)

    each : (r : ℕ) → (r < length layout.records) ⊎ (length layout.records ≤ r) → AddsUp layout i (counters_from layout i cells) sessions r
    each r (inl below) = agree.sums r below
    each r (inr past) = record {
      seats = omega (
        arith,
        zero_past r i Taken past,
        zero_past r i (Out i) past,
        start_past layout r i (Out i) past,
        start_diagonal (shape_of layout) r i,
        total_none (weight (seats_in layout r)) (length layout.records) r sessions all_there past,
      );
      writers = omega (
        arith,
        zero_past r i Ann past,
        zero_past r i Fin past,
        total_none writers (length layout.records) r sessions all_there past,
      );
    }

pub agree_from : (layout : LayoutState) (i : ℕ) (cells : List DurableCell) (sessions : List Session) → AreSessions layout i cells sessions → AgreeWith layout i (counters_from layout i cells) sessions
agree_from layout i cells sessions are = record {
  each = λ k d below. (are.records k d below, are.holders k d below);
  once = are.once;
  sums = λ r below. record { seats = are.seats r; writers = are.writers r };
}

-- ---- the core

counters_of : (layout : LayoutState) (i : ℕ) (cells : List DurableCell) (b : BookState) → IsBookFrom layout i cells b → counter_of b ≡ counters_from layout i cells
counters_of layout i cells b made = λ k r s cell. made.counters r s cell k

pub core_made : (layout : LayoutState) (i : ℕ) (d : DurableState) (b : BookState) (held : List Session) (room : ℕ) → i < layout.sites → IsBookFrom layout i d.cells b → AgreeWith layout i (counter_of b) d.sessions → held ≡ d.sessions → IsCoreFrom layout i d (record { layout = layout; site = i; book = b; sessions = held; room = room })
core_made layout i d b held room there made agree same =
    let sessions = sessions_made layout i d.cells d.sessions there made.are_cells
    (subst (λ (f : ℕ → ℕ → Cell → ℕ). AgreeWith layout i f d.sessions) (counters_of layout i d.cells b made) agree) in
    let origin : IsOrigin (origin_from layout i d.cells d.sessions) = begins_from layout i d.cells d.sessions there made.are_cells sessions in
    record {
      site_there = there;
      cells = made.are_cells;
      sessions = sessions;
      stands = stands_from (begin (origin_from layout i d.cells d.sessions)) (record { layout = layout; site = i; book = b; sessions = held; room = room })
          record { from = origin_from layout i d.cells d.sessions; may_begin = origin; steps = []; reached = refl }
          made.book
          (sym made.shape)
          record {
            layout = refl;
            site = refl;
            phases = λ r h. ap (λ ss. phase_in ss r h) same;
            order_kept = same ∙ sym (sessions_begun (origin_from layout i d.cells d.sessions) origin);
            counters = λ r s cell. made.counters r s cell ∙ sym (begun_known layout i d.cells d.sessions r s cell);
          };
    }

pub not_agree : (layout : LayoutState) (i : ℕ) (cells : List DurableCell) (sessions : List Session) (b : BookState) → IsBookFrom layout i cells b → (AgreeWith layout i (counter_of b) sessions → ⊥) → ¬ AreSessions layout i cells sessions
not_agree layout i cells sessions b made fails are =
    fails (subst (λ (f : ℕ → ℕ → Cell → ℕ). AgreeWith layout i f sessions) (sym (counters_of layout i cells b made)) (agree_from layout i cells sessions are))

-- .. as its parts are read
pub core_read : (layout : LayoutState) (i : ℕ) (d : DurableState) (cells : List DurableCell) (sessions : List Session) (b : BookState) (held : Held) → cells ≡ d.cells → sessions ≡ d.sessions → i < layout.sites → IsBookFrom layout i cells b → AgreeWith layout i (counter_of b) sessions × (held.sessions ≡ sessions) → IsCoreFrom layout i d (record { layout = layout; site = i; book = b; sessions = held.sessions; room = held.room })
core_read layout i d cells sessions b held at_cells at_sessions there made agree =
    core_made layout i d b held.sessions held.room there
    (subst (λ (cs : List DurableCell). IsBookFrom layout i cs b) at_cells made)
    (subst (λ (ss : List Session). AgreeWith layout i (counter_of b) ss) at_sessions agree.0)
    (agree.1 ∙ at_sessions)

pub sessions_refused : (layout : LayoutState) (i : ℕ) (d : DurableState) (cells : List DurableCell) (sessions : List Session) (b : BookState) (e : RestoreError) → cells ≡ d.cells → sessions ≡ d.sessions → i < layout.sites → IsBookFrom layout i cells b → IsHeldOf layout i (counter_of b) sessions (Err e) → IsRestored layout i d (Err e)
sessions_refused layout i d cells sessions b BadSite at_cells at_sessions there made fails = absurd fails
sessions_refused layout i d cells sessions b WrongCounters at_cells at_sessions there made fails = absurd fails
sessions_refused layout i d cells sessions b WrongSessions at_cells at_sessions there made fails =
    let own = subst (λ (cs : List DurableCell). IsBookFrom layout i cs b) at_cells made in
    (there, (own.are_cells, not_agree layout i d.cells d.sessions b own (subst (λ (ss : List Session). ¬ AgreeWith layout i (counter_of b) ss) at_sessions fails)))
sessions_refused layout i d cells sessions b Memory at_cells at_sessions there made fails = there

-- ---- an account's own durable part

reached_grown : (a : Account) (n : ℕ) → IsReached a → a.sites ≤ n → IsReached (grown n a)
reached_grown a n is more = record {
  from = is.from;
  may_begin = is.may_begin;
  steps = Grows n ∷ is.steps;
  reached = sym (cond-true (leb a.sites n) (grown n a) a (le-leb a.sites n more)) ∙ ap (λ (x : Account). after_step x (Grows n)) is.reached;
}

stands_along : (a b : Account) (c : Core) → IsReached b → ShowTheSame a b → Stands a c → Stands b c
stands_along a b c reached same stands =
    stands_from b c reached stands.book stands.shape
    record {
      layout = stands.shows.layout ∙ same.layout;
      site = stands.shows.site ∙ same.site;
      phases = λ r h. stands.shows.phases r h ∙ same.phases r h;
      order_kept = stands.shows.order_kept ∙ same.order_kept;
      counters = λ r s cell. stands.shows.counters r s cell ∙ same.counters r s cell;
    }

own_at : (a : Account) (n : ℕ) → IsReached a → a.sites ≤ n → n ≤ 16 → (result : Result Core RestoreError) → IsRestored (at_sites n a.origin.layout) a.origin.site (durable_of a) result → IsOwn (grown n a) result
own_at a n is more few (Ok c) made =
    stands_along (begin (origin_from (at_sites n a.origin.layout) a.origin.site (durable_of a).cells (durable_of a).sessions)) (grown n a) c
    (reached_grown a n is more) (begun_again a is n more few) made.stands
own_at a n is more few (Err BadSite) fails = fails (omega (arith, (sound_reached a is).site_there))
own_at a n is more few (Err WrongCounters) fails = fails.1 (stored_cells a is n more few)
own_at a n is more few (Err WrongSessions) fails = fails.1.1 (stored_sessions a is n more few)
own_at a n is more few (Err Memory) fails = tt

pub own_made : (layout : LayoutState) (i : ℕ) (d : DurableState) (result : Result Core RestoreError) → IsLayout layout → IsRestored layout i d result → (a : Account) → IsReached a → layout ≡ at_sites layout.sites a.origin.layout → a.sites ≤ layout.sites → i ≡ a.origin.site → d ≡ durable_of a → IsOwn (grown layout.sites a) result
own_made layout i d result is made a reached same more at_i at_d =
    own_at a layout.sites reached more is.few_sites result
    (subst (λ (x : DurableState). IsRestored (at_sites layout.sites a.origin.layout) a.origin.site x result) at_d
    (subst (λ (x : ℕ). IsRestored (at_sites layout.sites a.origin.layout) x d result) at_i
    (subst (λ (x : LayoutState). IsRestored x i d result) same made)))
