-- What a core stands for after each of its steps.
use Rattle.std.proofs.Common.{◌≡◌, ℕ, ◌+◌, ◌≤◌, ◌⊎◌, inl, inr, max, cond, eqb, List, ◌∷◌, Option, None, refl, sym, ap, subst, ◌∙◌, arith}
use Rattle.std.specs.Prelude.{◌&&◌}
use Rattle.std.proofs.lemmas.Bool.{cases_eq}
use Rattle.merge_core.specs.declared.cell.Cell.{Cell}
use Rattle.merge_core.specs.declared.cell.Cell.TheVariants.{Out, Taken, Ann, Fin}
use Rattle.merge_core.specs.Delta.{DeltaState}
use Rattle.merge_core.specs.Layout.{LayoutState, Shape, shape_of}
use Rattle.merge_core.specs.Naming.{shown_by}
use Rattle.merge_core.specs.Tests.{is_placed, is_valid, first_failing}
use Rattle.merge_core.specs.Check.{IsChecked}
use Rattle.merge_core.specs.Changes.{JoinsRows}
use Rattle.merge_core.specs.Book.{IsBook, book_shape, counter_of}
use Rattle.session_list.specs.declared.session.Phase.{Phase}
use Rattle.session_list.specs.declared.session.Session.{Session}
use Rattle.session_list.specs.Sessions.{phase_in}
use Rattle.admission_model.specs.declared.ask.Ask.{Ask}
use Rattle.admission_model.specs.declared.ask.Call.{Call}
use Rattle.admission_model.specs.declared.ask.Call.TheVariants.{Ask as AskCall, Merge}
use Rattle.admission_model.specs.declared.reply.Refusal.{Refusal}
use Rattle.admission_model.specs.declared.operation.Operation.{Operation}
use Rattle.admission_model.specs.declared.operation.Operation.TheVariants.{EnteredRead, AnnouncedWriter, EnteredWrite, LeftRecord, GaveSeats}
use Rattle.admission_model.specs.Account.{Account, Origin, layout_of, seats_in, record_of, rise_of, phase_of, sessions_of, own}
use Rattle.admission_model.specs.Knowledge.{known, hears}
use Rattle.admission_model.specs.View.{View, view_of}
use Rattle.admission_model.specs.Order.{sessions_next}
use Rattle.admission_model.specs.Serving.{Serves, reason, operation_of, after, unless_refused}
use Rattle.admission_model.specs.Merging.{first_ahead}
use Rattle.admission_model.specs.Replies.{merge_lines}
use Rattle.admission_model.specs.Reached.{IsReached}
use Rattle.admission_model.proofs.CounterLemmas.{known_own}
use Rattle.admission_model.proofs.RowLemmas.{none_of, AllPass-from, shown_same}
use Rattle.admission_model.proofs.HeardLemmas.{shown_own}
use Rattle.admission_model.proofs.LawLemmas.{sound_reached, begins_again}
use Rattle.admission_model.proofs.OrderLemmas.{sessions_asked}
use Rattle.admission_model.proofs.ServingLemmas.{Clear, clear_of, origin_after, sites_after}
use Rattle.admission_model.proofs.StandsLemmas.{known_asked, heard_other}
use Rattle.admission_core.specs.Core.{Core, core_view, Stands, IsCore}
use Rattle.admission_core.specs.Carrying.{RaisesOwn}
use Rattle.admission_core.specs.Prepared.{IsOperationOf}
use Rattle.admission_core.proofs.CoreLemmas.{shows_account, stands_from}

-- a served account is reached
pub reached_after : (a : Account) (call : Call) → IsReached a → IsReached (after a call)
reached_after a call is = record {
  from = is.from;
  may_begin = is.may_begin;
  steps = Serves call ∷ is.steps;
  reached = ap (λ (b : Account). after b call) is.reached;
}

-- the sessions of a reached account tell its phases
pub phases_told : (a : Account) → IsReached a → (r h : ℕ) → phase_in (sessions_of a) r h ≡ phase_of a r h
phases_told a is r h = (begins_again a is).phases r h

-- a call changes neither layout nor site
layout_after : (a : Account) (call : Call) → layout_of (after a call) ≡ layout_of a
layout_after a call = λ i. record { sites = sites_after a call i; records = (origin_after a call i).layout.records }

site_after : (a : Account) (call : Call) → (after a call).origin.site ≡ a.origin.site
site_after a call = ap (λ (o : Origin). o.site) (origin_after a call)

-- A core of the same layout and site, with the account's sessions and counters after a call, stands for the
-- account after it.
pub stands_after : (a : Account) (c d : Core) → Stands a c → (call : Call) → d.layout ≡ c.layout → d.site ≡ c.site → IsBook d.book → shape_of d.layout ≡ book_shape d.book → d.sessions ≡ sessions_of (after a call) → ((r s : ℕ) (cell : Cell) → counter_of d.book r s cell ≡ known (after a call) r s cell) → Stands (after a call) d
stands_after a c d is call layout site book shape sessions counters =
    stands_from (after a call) d reached book shape
    record {
      layout = layout ∙ (is.shows.layout ∙ sym (layout_after a call));
      site = site ∙ (is.shows.site ∙ sym (site_after a call));
      phases = λ r h. ap (λ (ss : List Session). phase_in ss r h) sessions ∙ phases_told (after a call) reached r h;
      order_kept = sessions;
      counters = counters;
    }
  where
    reached : IsReached (after a call)
    reached = reached_after a call is.reached

-- an operation looks at the seats of its own record alone
rise_there : (seats : ℕ → ℕ) (site : ℕ) (phase : ℕ → ℕ → Option Phase) (operation : Operation) (cell : Cell) → rise_of (λ _. seats (record_of operation)) site phase operation cell ≡ rise_of seats site phase operation cell
rise_there seats site phase (EnteredRead r h) (Out j) = refl
rise_there seats site phase (EnteredRead r h) Taken = refl
rise_there seats site phase (EnteredRead r h) Ann = refl
rise_there seats site phase (EnteredRead r h) Fin = refl
rise_there seats site phase (AnnouncedWriter r h) (Out j) = refl
rise_there seats site phase (AnnouncedWriter r h) Taken = refl
rise_there seats site phase (AnnouncedWriter r h) Ann = refl
rise_there seats site phase (AnnouncedWriter r h) Fin = refl
rise_there seats site phase (EnteredWrite r h) (Out j) = refl
rise_there seats site phase (EnteredWrite r h) Taken = refl
rise_there seats site phase (EnteredWrite r h) Ann = refl
rise_there seats site phase (EnteredWrite r h) Fin = refl
rise_there seats site phase (LeftRecord r h) (Out j) = refl
rise_there seats site phase (LeftRecord r h) Taken = refl
rise_there seats site phase (LeftRecord r h) Ann = refl
rise_there seats site phase (LeftRecord r h) Fin = refl
rise_there seats site phase (GaveSeats r to n) (Out j) = refl
rise_there seats site phase (GaveSeats r to n) Taken = refl
rise_there seats site phase (GaveSeats r to n) Ann = refl
rise_there seats site phase (GaveSeats r to n) Fin = refl

-- what an operation adds, by what a view shows
abbrev adds_by : View → Operation → ℕ → ℕ → Cell → ℕ
adds_by v operation r s cell =
    cond (eqb s v.site && eqb (record_of operation) r) (rise_of (seats_in v.layout) v.site v.phase operation cell) 0

-- a core that carried an operation out stands for the account that did
pub did : (a : Account) (c d : Core) → Stands a c → (ask : Ask) → reason (core_view c) (AskCall ask) ≡ None → d.layout ≡ c.layout → d.site ≡ c.site → IsBook d.book → RaisesOwn c.book d.book c.sessions c.site (seats_in c.layout (record_of (operation_of (core_view c) ask))) (operation_of (core_view c) ask) → d.sessions ≡ sessions_next (operation_of (core_view c) ask) c.sessions → Stands (after a (AskCall ask)) d
did a c d is ask free layout site book raises sessions =
    stands_after a c d is (AskCall ask) layout site book (ap shape_of layout ∙ (is.shape ∙ sym raises.shape)) order counters
  where
    same : core_view c ≡ view_of a
    same = shows_account a c is

    accepted : reason (view_of a) (AskCall ask) ≡ None
    accepted = sym (ap (λ (v : View). reason v (AskCall ask)) same) ∙ free

    operation : Operation
    operation = operation_of (core_view c) ask

    is_same : operation ≡ operation_of (view_of a) ask
    is_same = ap (λ (v : View). operation_of v ask) same

    order : d.sessions ≡ sessions_of (after a (AskCall ask))
    order =
        sessions
        ∙ (ap (sessions_next operation) is.shows.order_kept
        ∙ (ap (λ (o : Operation). sessions_next o (sessions_of a)) is_same
        ∙ sym (sessions_asked a ask accepted)))

    counters : (r s : ℕ) (cell : Cell) → counter_of d.book r s cell ≡ known (after a (AskCall ask)) r s cell
    counters r s cell =
        raises.counters r s cell
        ∙ (ap (λ (n : ℕ). counter_of c.book r s cell + cond (eqb s c.site && eqb (record_of operation) r) n 0) (rise_there (seats_in c.layout) c.site (phase_in c.sessions) operation cell)
        ∙ (ap (λ (n : ℕ). n + adds_by (core_view c) operation r s cell) (is.shows.counters r s cell)
        ∙ (ap (λ (v : View). known a r s cell + adds_by v (operation_of v ask) r s cell) same
        ∙ sym (known_asked a ask accepted r s cell))))

-- the same, of an operation and a number of seats that are known to be these
pub did_as : (a : Account) (c d : Core) → Stands a c → (ask : Ask) (operation : Operation) (n : ℕ) → IsOperationOf c ask operation → n ≡ seats_in c.layout (record_of operation) → d.layout ≡ c.layout → d.site ≡ c.site → IsBook d.book → RaisesOwn c.book d.book c.sessions c.site n operation → d.sessions ≡ sessions_next operation c.sessions → Stands (after a (AskCall ask)) d
did_as a c d is ask operation n it seats layout site book raises sessions =
    let raised : RaisesOwn c.book d.book c.sessions c.site (seats_in c.layout (record_of operation)) operation =
    subst (λ (m : ℕ). RaisesOwn c.book d.book c.sessions c.site m operation) seats raises in
    did a c d is ask it.accepted layout site book
    (subst (λ (o : Operation). RaisesOwn c.book d.book c.sessions c.site (seats_in c.layout (record_of o)) o) it.is raised)
    (sessions ∙ ap (λ (o : Operation). sessions_next o c.sessions) it.is)

-- what an account knows after a delta that nothing refuses: the greater of what it knew and what the rows show
pub known_joined : (a : Account) → IsReached a → (delta : DeltaState) → reason (view_of a) (Merge delta) ≡ None → (r s : ℕ) (cell : Cell) → max (known a r s cell) (shown_by (shape_of a.origin.layout) delta.rows r s cell) ≡ known (hears a delta.rows) r s cell
known_joined a is delta accepted r s cell = at (cases_eq s a.origin.site)
  where
    clear : Clear (merge_lines (view_of a) delta)
    clear = clear_of (merge_lines (view_of a) delta) accepted

    -- the rows tell nothing new of the own row
    own_told : shown_by (shape_of a.origin.layout) delta.rows r a.origin.site cell ≤ own a r cell
    own_told =
        subst (λ (n : ℕ). n ≤ own a r cell)
        (shown_same (shape_of (layout_of a)) (shape_of a.origin.layout) refl delta.rows r a.origin.site cell)
        (shown_own a delta.rows (sound_reached a is)
        (AllPass-from (is_placed (shape_of (layout_of a))) delta.rows (none_of (first_failing (is_placed (shape_of (layout_of a))) delta.rows) clear.0))
        (none_of (first_ahead (view_of a) delta.rows) clear.1.1.0) r cell)

    at : (s ≡ a.origin.site) ⊎ (s ≡ a.origin.site → ⊥) → max (known a r s cell) (shown_by (shape_of a.origin.layout) delta.rows r s cell) ≡ known (hears a delta.rows) r s cell
    at (inl e) =
        subst (λ (x : ℕ). max (known a r x cell) (shown_by (shape_of a.origin.layout) delta.rows r x cell) ≡ known (hears a delta.rows) r x cell) (sym e)
        (omega (arith, known_own a r cell, known_own (hears a delta.rows) r cell, own_told))
    at (inr ne) = sym (heard_other a delta.rows r s cell ne)

-- the account after such a delta
pub after_merge : (a : Account) (delta : DeltaState) → reason (view_of a) (Merge delta) ≡ None → after a (Merge delta) ≡ hears a delta.rows
after_merge a delta accepted = ap (λ (o : Option Refusal). unless_refused o a (hears a delta.rows)) accepted

-- a core that joined a delta stands for the account that heard it
pub joined : (a : Account) (c d : Core) → Stands a c → (delta : DeltaState) → reason (core_view c) (Merge delta) ≡ None → d.layout ≡ c.layout → d.site ≡ c.site → d.sessions ≡ c.sessions → IsBook d.book → JoinsRows c.book d.book delta.rows → Stands (after a (Merge delta)) d
joined a c d is delta free layout site same_sessions book joins =
    stands_after a c d is (Merge delta) layout site book (ap shape_of layout ∙ (is.shape ∙ sym joins.shape)) order counters
  where
    accepted : reason (view_of a) (Merge delta) ≡ None
    accepted = sym (ap (λ (v : View). reason v (Merge delta)) (shows_account a c is)) ∙ free

    heard : after a (Merge delta) ≡ hears a delta.rows
    heard = after_merge a delta accepted

    order : d.sessions ≡ sessions_of (after a (Merge delta))
    order = same_sessions ∙ (is.shows.order_kept ∙ ap sessions_of (sym heard))

    shown : (r s : ℕ) (cell : Cell) → shown_by (book_shape c.book) delta.rows r s cell ≡ shown_by (shape_of a.origin.layout) delta.rows r s cell
    shown r s cell =
        ap (λ (shape : Shape). shown_by shape delta.rows r s cell) (sym is.shape)
        ∙ (ap (λ (l : LayoutState). shown_by (shape_of l) delta.rows r s cell) is.shows.layout
        ∙ shown_same (shape_of (layout_of a)) (shape_of a.origin.layout) refl delta.rows r s cell)

    counters : (r s : ℕ) (cell : Cell) → counter_of d.book r s cell ≡ known (after a (Merge delta)) r s cell
    counters r s cell =
        joins.counters r s cell
        ∙ (ap (λ (n : ℕ). max n (shown_by (book_shape c.book) delta.rows r s cell)) (is.shows.counters r s cell)
        ∙ (ap (λ (n : ℕ). max (known a r s cell) n) (shown r s cell)
        ∙ (known_joined a is.reached delta accepted r s cell
        ∙ ap (λ (b : Account). known b r s cell) (sym heard))))

-- a delta that nothing refuses is checked
pub mergeable : (c : Core) → IsCore c → (delta : DeltaState) → reason (core_view c) (Merge delta) ≡ None → IsChecked (book_shape c.book) delta.rows
mergeable c is delta free = subst (λ (shape : Shape). IsChecked shape delta.rows) is.stands.shape checked
  where
    clear : Clear (merge_lines (core_view c) delta)
    clear = clear_of (merge_lines (core_view c) delta) free

    checked : IsChecked (shape_of c.layout) delta.rows
    checked = record {
      placed = none_of (first_failing (is_placed (shape_of c.layout)) delta.rows) clear.0;
      valid = none_of (first_failing (is_valid (shape_of c.layout)) delta.rows) clear.1.0;
    }
