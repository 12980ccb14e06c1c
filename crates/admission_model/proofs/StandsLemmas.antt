-- What shows the same decides and does the same.
use Rattle.std.proofs.Common.{◌≡◌, ◌≢◌, ℕ, ◌+◌, ◌⊎◌, inl, inr, max, true, false, ◌&&◌, cond, eqb, leb, List, map, Option, Some, None, refl, sym, ap, subst, ◌∙◌, arith}
use Rattle.std.proofs.lemmas.Bool.{cases_eq, cases_Bool, eq-eqb, ne_eqb, cond-true, cond-false}
use Rattle.merge_core.specs.declared.cell.Cell.{Cell}
use Rattle.merge_core.specs.declared.delta.Row.{Row}
use Rattle.merge_core.specs.Layout.{LayoutState, shape_of, record_shape}
use Rattle.merge_core.specs.Rows.{start_counter}
use Rattle.merge_core.specs.Naming.{shown_by}
use Rattle.merge_core.specs.Changes.{keeps_counter}
use Rattle.admission_model.specs.declared.ask.Ask.{Ask}
use Rattle.admission_model.specs.declared.ask.Call.{Call}
use Rattle.admission_model.specs.declared.ask.Call.TheVariants.{Ask as AskCall, Merge, Snapshot as SnapshotCall}
use Rattle.session_list.specs.declared.session.Phase.{Phase}
use Rattle.session_list.specs.declared.session.Phase.TheVariants.{Reader, Waiting, Writer}
use Rattle.admission_model.specs.declared.reply.Refusal.{Refusal}
use Rattle.admission_model.specs.Account.{Account, seats_in, own, rise_of, record_of, phase_of, sessions_of, is_key}
use Rattle.admission_model.specs.declared.operation.Operation.TheVariants.{EnteredRead, AnnouncedWriter, EnteredWrite, LeftRecord, GaveSeats}
use Rattle.admission_model.specs.declared.operation.Operation.{Operation}
use Rattle.session_list.specs.declared.session.Session.{Session}
use Rattle.admission_model.specs.Knowledge.{kept_or_start, known, hears, grown}
use Rattle.admission_model.specs.View.{View, view_of}
use Rattle.admission_model.specs.Serving.{reason, reply_of, operation_of, advanced, unless_refused, after, Step, Serves, Restarts, Grows, after_step}
use Rattle.admission_model.specs.Order.{sessions_next}
use Rattle.admission_model.specs.Laws.{StandsFor, ShowTheSame}
use Rattle.admission_model.proofs.RowLemmas.{shown_same}
use Rattle.admission_model.proofs.CounterLemmas.{does, known_own, known_other}
use Rattle.admission_model.proofs.HeardLemmas.{kept_yes, kept_row}
use Rattle.admission_model.proofs.OrderLemmas.{sessions_advanced}

-- a view that stands for an account is the account's
pub same_view : (v : View) (order : List Session) (a : Account) → StandsFor v order a → v ≡ view_of a
same_view v order a stands =
    λ i. record {
      layout = stands.layout i;
      site = stands.site i;
      phase = λ r h. stands.phases r h i;
      counter = λ r s cell. stands.counters r s cell i;
    }

pub same_reply : (v : View) (order : List Session) (a : Account) → StandsFor v order a → (call : Call) → reply_of v call ≡ reply_of (view_of a) call
same_reply v order a stands call = ap (λ u. reply_of u call) (same_view v order a stands)

-- what is known after an operation
pub known_does : (a : Account) (operation : Operation) (r s : ℕ) (cell : Cell) → known (does operation a) r s cell ≡ known a r s cell + cond (eqb s a.origin.site && eqb (record_of operation) r) (rise_of (seats_in a.origin.layout) a.origin.site (phase_of a) operation cell) 0
known_does a operation r s cell = at (cases_eq s a.origin.site)
  where
    rise : ℕ
    rise = rise_of (seats_in a.origin.layout) a.origin.site (phase_of a) operation cell

    at : (s ≡ a.origin.site) ⊎ (s ≡ a.origin.site → ⊥) → known (does operation a) r s cell ≡ known a r s cell + cond (eqb s a.origin.site && eqb (record_of operation) r) (rise_of (seats_in a.origin.layout) a.origin.site (phase_of a) operation cell) 0
    at (inl e) =
        omega (
          arith,
          ap (λ x. known (does operation a) r x cell) e,
          known_own (does operation a) r cell,
          ap (λ x. known a r x cell) e,
          known_own a r cell,
          ap (λ b. cond (b && eqb (record_of operation) r) (rise_of (seats_in a.origin.layout) a.origin.site (phase_of a) operation cell) 0) (eq-eqb s a.origin.site e),
        )
    at (inr ne) =
        omega (
          arith,
          known_other (does operation a) r s cell ne,
          known_other a r s cell ne,
          ap (λ b. cond (b && eqb (record_of operation) r) (rise_of (seats_in a.origin.layout) a.origin.site (phase_of a) operation cell) 0) (ne_eqb s a.origin.site ne),
        )

pub known_asked : (a : Account) (ask : Ask) → reason (view_of a) (AskCall ask) ≡ None → (r s : ℕ) (cell : Cell) → known (after a (AskCall ask)) r s cell ≡ known a r s cell + cond (eqb s a.origin.site && eqb (record_of (operation_of (view_of a) ask)) r) (rise_of (seats_in a.origin.layout) a.origin.site (phase_of a) (operation_of (view_of a) ask) cell) 0
known_asked a ask free r s cell =
    ap (λ o. known (unless_refused o a (advanced a (AskCall ask))) r s cell) free ∙ known_does a (operation_of (view_of a) ask) r s cell

-- what is known after a delta was heard
pub heard_own : (a : Account) (rows : List Row) (r s : ℕ) (cell : Cell) → s ≡ a.origin.site → known (hears a rows) r s cell ≡ own a r cell
heard_own a rows r s cell e = ap (λ x. known (hears a rows) r x cell) e ∙ known_own (hears a rows) r cell

pub heard_other : (a : Account) (rows : List Row) (r s : ℕ) (cell : Cell) → s ≢ a.origin.site → known (hears a rows) r s cell ≡ max (known a r s cell) (shown_by (shape_of a.origin.layout) rows r s cell)
heard_other a rows r s cell ne = omega (arith, known_other (hears a rows) r s cell ne, known_other a r s cell ne)

-- what is known after a restart or a growth
pub known_again : (a : Account) (n r s : ℕ) (cell : Cell) → known (grown n a) r s cell ≡ kept_or_start a.origin (known a) r s cell
known_again a n r s cell = at (cases_eq s a.origin.site)
  where
    at : (s ≡ a.origin.site) ⊎ (s ≡ a.origin.site → ⊥) → known (grown n a) r s cell ≡ kept_or_start a.origin (known a) r s cell
    at (inl e) =
        subst (λ (x : ℕ). known (grown n a) r x cell ≡ kept_or_start a.origin (known a) r x cell) (sym e)
        (known_own (grown n a) r cell ∙ (sym (known_own a r cell) ∙ sym (kept_yes a.origin (known a) r a.origin.site cell (kept_row a.origin.site cell))))
    at (inr ne) =
        known_other (grown n a) r s cell ne
        ∙ ap (λ x. cond (keeps_counter a.origin.site s cell) x (start_counter (shape_of a.origin.layout) r s cell)) (sym (known_other a r s cell ne))

-- the phases after an operation
abbrev pub phase_next : Operation → (ℕ → ℕ → Option Phase) → ℕ → ℕ → Option Phase
phase_next (EnteredRead r2 h2) phase r h = cond (is_key r2 h2 r h) (Some Reader) (phase r h)
phase_next (AnnouncedWriter r2 h2) phase r h = cond (is_key r2 h2 r h) (Some Waiting) (phase r h)
phase_next (EnteredWrite r2 h2) phase r h = cond (is_key r2 h2 r h) (Some Writer) (phase r h)
phase_next (LeftRecord r2 h2) phase r h = cond (is_key r2 h2 r h) None (phase r h)
phase_next (GaveSeats r2 to seats) phase r h = phase r h

pub phase_does : (a : Account) (operation : Operation) (r h : ℕ) → phase_of (does operation a) r h ≡ phase_next operation (phase_of a) r h
phase_does a (EnteredRead r2 h2) r h = refl
phase_does a (AnnouncedWriter r2 h2) r h = refl
phase_does a (EnteredWrite r2 h2) r h = refl
phase_does a (LeftRecord r2 h2) r h = refl
phase_does a (GaveSeats r2 to seats) r h = refl

module _ (a b : Account) (same : ShowTheSame a b) where
  views : view_of a ≡ view_of b
  views = same_view (view_of a) (sessions_of a) b same

  seats : seats_in a.origin.layout ≡ seats_in b.origin.layout
  seats = ap seats_in same.layout

  phases : phase_of a ≡ phase_of b
  phases = λ i r h. same.phases r h i

  counters : known a ≡ known b
  counters = λ i r s cell. same.counters r s cell i

  -- two accounts that do the same operation
  same_done : (operation : Operation) → sessions_of (does operation a) ≡ sessions_next operation (sessions_of a) → sessions_of (does operation b) ≡ sessions_next operation (sessions_of b) → ShowTheSame (does operation a) (does operation b)
  same_done operation sessions_a sessions_b = record {
    layout = same.layout;
    site = same.site;
    phases = λ r h. phase_does a operation r h ∙ (ap (λ phase. phase_next operation phase r h) phases ∙ sym (phase_does b operation r h));
    order_kept = sessions_a ∙ (ap (sessions_next operation) same.order_kept ∙ sym sessions_b);
    counters = λ r s cell.
        known_does a operation r s cell
        ∙ (ap (λ x. x + cond (eqb s a.origin.site && eqb (record_of operation) r) (rise_of (seats_in a.origin.layout) a.origin.site (phase_of a) operation cell) 0) (same.counters r s cell)
        ∙ (ap (λ i. known b r s cell + cond (eqb s i && eqb (record_of operation) r) (rise_of (seats_in a.origin.layout) i (phase_of a) operation cell) 0) same.site
        ∙ (ap (λ f. known b r s cell + cond (eqb s b.origin.site && eqb (record_of operation) r) (rise_of f b.origin.site (phase_of a) operation cell) 0) seats
        ∙ (ap (λ phase. known b r s cell + cond (eqb s b.origin.site && eqb (record_of operation) r) (rise_of (seats_in b.origin.layout) b.origin.site phase operation cell) 0) phases
        ∙ sym (known_does b operation r s cell)))));
  }

  same_shown_rows : (rows : List Row) (r s : ℕ) (cell : Cell) → shown_by (shape_of a.origin.layout) rows r s cell ≡ shown_by (shape_of b.origin.layout) rows r s cell
  same_shown_rows rows r s cell =
      shown_same (shape_of a.origin.layout) (shape_of b.origin.layout) (ap (λ (l : LayoutState). map record_shape l.records) same.layout) rows r s cell

  same_heard : (rows : List Row) → ShowTheSame (hears a rows) (hears b rows)
  same_heard rows = record {
    layout = same.layout;
    site = same.site;
    phases = same.phases;
    order_kept = same.order_kept;
    counters = λ r s cell. at r s cell (cases_eq s a.origin.site);
  }
    where
      at : (r s : ℕ) (cell : Cell) → (s ≡ a.origin.site) ⊎ (s ≡ a.origin.site → ⊥) → known (hears a rows) r s cell ≡ known (hears b rows) r s cell
      at r s cell (inl e) =
          heard_own a rows r s cell e
          ∙ (sym (known_own a r cell) ∙ (sym (ap (λ x. known a r x cell) e)
          ∙ (same.counters r s cell
          ∙ (ap (λ x. known b r x cell) (e ∙ same.site) ∙ (known_own b r cell ∙ sym (heard_own b rows r s cell (e ∙ same.site)))))))
      at r s cell (inr ne) =
          heard_other a rows r s cell ne
          ∙ (ap (λ x. max x (shown_by (shape_of a.origin.layout) rows r s cell)) (same.counters r s cell)
          ∙ (ap (λ x. max (known b r s cell) x) (same_shown_rows rows r s cell)
          ∙ sym (heard_other b rows r s cell (λ e. ne (e ∙ sym same.site)))))

  same_again : (n m : ℕ) → n ≡ m → ShowTheSame (grown n a) (grown m b)
  same_again n m e = record {
    layout = λ i. record { sites = e i; records = (same.layout i).records };
    site = same.site;
    phases = same.phases;
    order_kept = same.order_kept;
    counters = λ r s cell.
        known_again a n r s cell
        ∙ (ap (λ f. cond (keeps_counter a.origin.site s cell) (f r s cell) (start_counter (shape_of a.origin.layout) r s cell)) counters
        ∙ (ap (λ i. cond (keeps_counter i s cell) (known b r s cell) (start_counter (shape_of a.origin.layout) r s cell)) same.site
        ∙ (ap (λ (l : LayoutState). cond (keeps_counter b.origin.site s cell) (known b r s cell) (start_counter (shape_of l) r s cell)) same.layout
        ∙ sym (known_again b m r s cell))));
  }

  same_called : (call : Call) (o : Option Refusal) → reason (view_of a) call ≡ o → reason (view_of b) call ≡ o → ShowTheSame (unless_refused o a (advanced a call)) (unless_refused o b (advanced b call))
  same_called call (Some refusal) e f = same
  same_called (AskCall ask) None e f =
      let operation : operation_of (view_of a) ask ≡ operation_of (view_of b) ask = ap (λ v. operation_of v ask) views in
      subst (λ (x : Operation). ShowTheSame (advanced a (AskCall ask)) (does x b)) operation
      (same_done (operation_of (view_of a) ask) (sessions_advanced a ask e)
      (subst (λ (x : Operation). sessions_of (does x b) ≡ sessions_next x (sessions_of b)) (sym operation) (sessions_advanced b ask f)))
  same_called (Merge delta) None e f = same_heard delta.rows
  same_called SnapshotCall None e f = same

  same_after : (call : Call) → ShowTheSame (after a call) (after b call)
  same_after call =
      let reasons : reason (view_of a) call ≡ reason (view_of b) call = ap (λ v. reason v call) views in
      subst (λ (o : Option Refusal). ShowTheSame (after a call) (unless_refused o b (advanced b call))) reasons
      (same_called call (reason (view_of a) call) refl (sym reasons))

  -- two accounts that show the same show the same after each step
  pub same_step : (step : Step) → ShowTheSame (after_step a step) (after_step b step)
  same_step (Serves call) = same_after call
  same_step Restarts = same_again a.sites b.sites (ap (λ (l : LayoutState). l.sites) same.layout)
  same_step (Grows n) = at (cases_Bool (leb a.sites n))
    where
      tests : leb a.sites n ≡ leb b.sites n
      tests = ap (λ (l : LayoutState). leb l.sites n) same.layout

      at : (leb a.sites n ≡ true) ⊎ (leb a.sites n ≡ false) → ShowTheSame (after_step a (Grows n)) (after_step b (Grows n))
      at (inl e) =
          subst (λ (c : Account). ShowTheSame c (after_step b (Grows n))) (sym (cond-true (leb a.sites n) (grown n a) a e))
          (subst (λ (c : Account). ShowTheSame (grown n a) c) (sym (cond-true (leb b.sites n) (grown n b) b (sym tests ∙ e))) (same_again n n refl))
      at (inr e) =
          subst (λ (c : Account). ShowTheSame c (after_step b (Grows n))) (sym (cond-false (leb a.sites n) (grown n a) a e))
          (subst (λ (c : Account). ShowTheSame a c) (sym (cond-false (leb b.sites n) (grown n b) b (sym tests ∙ e))) same)
