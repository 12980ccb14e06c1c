-- A call's change, made of the durable part before the call, gives the one after it; and it is a change that a keeper may
-- be told.
use Rattle.std.proofs.Common.{◌≡◌, ℕ, ◌+◌, ◌<◌, ◌≤◌, ◌⊎◌, inl, inr, true, false, eqb, ltb, List, [], ◌∷◌, ◌++◌, length, get_or, Option, Some, None, is_some, is_none, refl, sym, ap, subst, ◌∙◌, arith}
use Rattle.std.specs.Prelude.{All}
use Rattle.std.specs.List.{AllByRecursion}
use Rattle.std.proofs.lemmas.Bool.{cases_Bool, cases_eq, cond-true, cond-false, ltb-true}
use Rattle.std.proofs.lemmas.List.Elements.{All-from_recursion, All-head, All-filter}
use Rattle.merge_core.specs.declared.cell.Cell.{Cell}
use Rattle.merge_core.specs.declared.cell.Cell.TheVariants.{Out, Taken, Ann, Fin}
use Rattle.merge_core.specs.Layout.{LayoutState, IsLayout, RecordShape, shape_of}
use Rattle.merge_core.specs.Rows.{grant, start_counter, no_record}
use Rattle.session_list.specs.declared.session.Phase.{Phase}
use Rattle.session_list.specs.declared.session.Session.{Session}
use Rattle.session_list.specs.Sessions.{phase_in, with_phase, without}
use Rattle.admission_model.specs.declared.ask.Ask.{Ask}
use Rattle.admission_model.specs.declared.ask.Ask.TheVariants.{Read, Announce, Quill, Leave, Give, Help}
use Rattle.admission_model.specs.declared.ask.Call.{Call}
use Rattle.admission_model.specs.declared.ask.Call.TheVariants.{Ask as AskCall, Merge, Snapshot as SnapshotCall}
use Rattle.admission_model.specs.declared.durable.DurableCell.{DurableCell}
use Rattle.admission_model.specs.declared.operation.Operation.{Operation}
use Rattle.admission_model.specs.declared.operation.Operation.TheVariants.{EnteredRead, AnnouncedWriter, EnteredWrite, LeftRecord, GaveSeats}
use Rattle.admission_model.specs.declared.reply.Refusal.{Refusal}
use Rattle.admission_model.specs.Account.{Account, layout_of, sessions_of}
use Rattle.admission_model.specs.Knowledge.{known, hears}
use Rattle.admission_model.specs.View.{View, view_of}
use Rattle.admission_model.specs.Replies.{ask_lines, is_not_announced}
use Rattle.admission_model.specs.Serving.{reason, operation_of, advanced, unless_refused, after}
use Rattle.admission_model.specs.Sound.{FitsRow}
use Rattle.admission_model.specs.Reached.{IsReached}
use Rattle.admission_model.specs.Durable.{Named, Place, named, counter_named, at_slot, places, slots_of, AreRising, put_cells, durable_cells, Change, change_between, IsEmpty}
use Rattle.admission_model.specs.Asked.{session_at, operation_put, operation_removed, operation_change}
use Rattle.admission_model.specs.Order.{sessions_next}
use Rattle.admission_model.proofs.RowLemmas.{start_below}
use Rattle.admission_model.proofs.HeardLemmas.{known_fits}
use Rattle.admission_model.proofs.ServingLemmas.{Clear, clear_of, origin_after, sites_after}
use Rattle.admission_model.proofs.LawLemmas.{sound_reached}
use Rattle.admission_model.proofs.OrderLemmas.{sessions_asked}
use Rattle.admission_model.proofs.CellLemmas.{named_kept, named_below}
use Rattle.admission_model.proofs.StoredLemmas.{picked, places_below}
use Rattle.admission_model.proofs.RestoringLemmas.{stored_sessions}
use Rattle.admission_model.proofs.ChangeLemmas.{put_law}
use Rattle.admission_model.proofs.AskedLemmas.{changed_asked, changed_nothing, changed_refused, changed_merged}
use Rattle.admission_core.specs.declared.change.SessionChange.{SessionChange}
use Rattle.admission_core.specs.declared.change.SessionChange.TheVariants.{Put, Removed}
use Rattle.admission_core.specs.Kept.{ChangeState, durable_of, change_of, put_by, removed_by}
use Rattle.admission_core.specs.Restored.{IsListed, IsSession}
use Rattle.admission_core.proofs.StandsLemmas.{reached_after, phases_told}
use Rattle.admission_core.proofs.LimitLemmas.{seats_few}
use Rattle.durable_keeper.specs.Keeping.{most_kept, IsSessionChange, IsChange, with_session, changed_sessions, changed}

-- what an operation needs of the sessions
abbrev Fits : (ℕ → ℕ → Option Phase) → Operation → Type 0
Fits phase (EnteredRead r h) = phase r h ≡ None
Fits phase (AnnouncedWriter r h) = phase r h ≡ None
Fits phase (EnteredWrite r h) = is_some (phase r h) ≡ true
Fits phase (LeftRecord r h) = is_some (phase r h) ≡ true
Fits phase (GaveSeats r to seats) = Unit {0}

same_head : (s t : Session) → s ∷ [] ≡ t ∷ [] → s ≡ t
same_head s t e = cc

-- a session that is not there comes last
put_new : (s : Session) (ss : List Session) → phase_in ss s.r s.h ≡ None → with_session s ss ≡ ss ++ s ∷ []
put_new s ss none = cond-false (is_some (phase_in ss s.r s.h)) (with_phase ss s.r s.h s.phase) (ss ++ s ∷ []) (ap is_some none)

-- one that is there keeps its place
put_again : (s : Session) (ss : List Session) → is_some (phase_in ss s.r s.h) ≡ true → with_session s ss ≡ with_phase ss s.r s.h s.phase
put_again s ss there = cond-true (is_some (phase_in ss s.r s.h)) (with_phase ss s.r s.h s.phase) (ss ++ s ∷ []) there

-- a session that is put
put_only : (o : Option SessionChange) (t : Session) (ss : List Session) → put_by o ≡ t ∷ [] → changed_sessions o ss ≡ with_session t ss
put_only None t ss e = absurd (cc)
put_only (Some (Put s)) t ss e = ap (λ (x : Session). with_session x ss) (same_head s t e)
put_only (Some (Removed s)) t ss e = absurd (cc)

-- one that is removed
removed_only : (o : Option SessionChange) (t : Session) (ss : List Session) → removed_by o ≡ t ∷ [] → changed_sessions o ss ≡ without ss t.r t.h
removed_only None t ss e = absurd (cc)
removed_only (Some (Put s)) t ss e = absurd (cc)
removed_only (Some (Removed s)) t ss e = ap (λ (x : Session). without ss x.r x.h) (same_head s t e)

-- neither
nothing_only : (o : Option SessionChange) → put_by o ≡ [] → removed_by o ≡ [] → o ≡ None
nothing_only None e f = refl
nothing_only (Some (Put s)) e f = absurd (cc)
nothing_only (Some (Removed s)) e f = absurd (cc)

-- a phase that is there is that of the session that goes
gone : (r h : ℕ) (o : Option Phase) → is_some o ≡ true → (t : Session) × ((session_at r h o ≡ t ∷ []) × ((t.r ≡ r) × (t.h ≡ h)))
gone r h None e = absurd (cc)
gone r h (Some p) e = (record { r = r; h = h; phase = p }, (refl, (refl, refl)))

-- the sessions that an operation leaves
operation_sessions : (v : View) (operation : Operation) (o : Option SessionChange) (ss : List Session) → ((r h : ℕ) → v.phase r h ≡ phase_in ss r h) → Fits (phase_in ss) operation → put_by o ≡ operation_put operation → removed_by o ≡ operation_removed v operation → changed_sessions o ss ≡ sessions_next operation ss
operation_sessions v (EnteredRead r h) o ss same fits put removed = put_only o _ ss put ∙ put_new _ ss fits
operation_sessions v (AnnouncedWriter r h) o ss same fits put removed = put_only o _ ss put ∙ put_new _ ss fits
operation_sessions v (EnteredWrite r h) o ss same fits put removed = put_only o _ ss put ∙ put_again _ ss fits
operation_sessions v (LeftRecord r h) o ss same fits put removed =
    let it = gone r h (v.phase r h) (ap is_some (same r h) ∙ fits) in
    removed_only o it.0 ss (removed ∙ it.1.0) ∙ (ap (λ (x : ℕ). without ss x it.0.h) it.1.1.0 ∙ ap (without ss r) it.1.1.1)
operation_sessions v (GaveSeats r to seats) o ss same fits put removed =
    ap (λ (x : Option SessionChange). changed_sessions x ss) (nothing_only o put removed)

-- an announced phase is there
announced_there : (o : Option Phase) → is_not_announced o ≡ false → is_some o ≡ true
announced_there None e = absurd (cc)
announced_there (Some p) e = refl

none_there : (o : Option Phase) → is_some o ≡ false → o ≡ None
none_there None e = refl
none_there (Some p) e = absurd (cc)

some_there : (o : Option Phase) → is_none o ≡ false → is_some o ≡ true
some_there None e = absurd (cc)
some_there (Some p) e = refl

-- where nothing refuses an ask, its operation fits the phases
ask_fits : (v : View) (ask : Ask) → Clear (ask_lines v ask) → Fits v.phase (operation_of v ask)
ask_fits v (Read r h) clear = none_there (v.phase r h) clear.1.1.0
ask_fits v (Announce r h) clear = none_there (v.phase r h) clear.1.1.0
ask_fits v (Quill r h) clear = announced_there (v.phase r h) clear.1.1.0
ask_fits v (Leave r h) clear = some_there (v.phase r h) clear.1.1.0
ask_fits v (Give r to seats) clear = tt
ask_fits v (Help r) clear = tt

-- the same of phases that are told otherwise
fits_along : (f g : ℕ → ℕ → Option Phase) (operation : Operation) → ((r h : ℕ) → f r h ≡ g r h) → Fits f operation → Fits g operation
fits_along f g operation same fits =
    let e : f ≡ g = λ i r h. same r h i in subst (λ (x : ℕ → ℕ → Option Phase). Fits x operation) e fits

-- one account, a call, and a change that is the call's
module _ (a : Account) (is : IsReached a) (few : a.sites ≤ 16) (call : Call) (c : ChangeState) (of : change_of c ≡ change_between a (after a call)) where
  put_told : put_by c.session ≡ (change_between a (after a call)).put
  put_told = ap (λ (x : Change). x.put) of

  removed_told : removed_by c.session ≡ (change_between a (after a call)).removed
  removed_told = ap (λ (x : Change). x.removed) of

  stays : put_by c.session ≡ [] → removed_by c.session ≡ [] → sessions_of (after a call) ≡ sessions_of a → changed_sessions c.session (sessions_of a) ≡ sessions_of (after a call)
  stays put removed same =
      ap (λ (x : Option SessionChange). changed_sessions x (sessions_of a)) (nothing_only c.session put removed) ∙ sym same

  refused_sessions : (refusal : Refusal) → reason (view_of a) call ≡ Some refusal → changed_sessions c.session (sessions_of a) ≡ sessions_of (after a call)
  refused_sessions refusal told =
      let none = changed_refused a is call refusal told in
      stays (put_told ∙ none.no_put) (removed_told ∙ none.none_removed)
      (ap (λ (o : Option Refusal). sessions_of (unless_refused o a (advanced a call))) told)

-- the sessions of a call that nothing refuses
accepted_sessions : (a : Account) → IsReached a → a.sites ≤ 16 → (call : Call) (c : ChangeState) → change_of c ≡ change_between a (after a call) → reason (view_of a) call ≡ None → changed_sessions c.session (sessions_of a) ≡ sessions_of (after a call)
accepted_sessions a is few (AskCall ask) c of free =
    let v = view_of a in
    let operation = operation_of v ask in
    let told : change_of c ≡ operation_change v operation = of ∙ changed_asked a is (omega arith) ask free in
    operation_sessions v operation c.session (sessions_of a) (λ r h. sym (phases_told a is r h))
    (fits_along v.phase (phase_in (sessions_of a)) operation (λ r h. sym (phases_told a is r h)) (ask_fits v ask (clear_of (ask_lines v ask) free)))
    (ap (λ (x : Change). x.put) told) (ap (λ (x : Change). x.removed) told)
    ∙ sym (sessions_asked a ask free)
accepted_sessions a is few (Merge delta) c of free =
    let same : after a (Merge delta) ≡ hears a delta.rows = ap (λ (o : Option Refusal). unless_refused o a (hears a delta.rows)) free in
    let keeps = changed_merged a is delta.rows in
    stays a is few (Merge delta) c of
    (put_told a is few (Merge delta) c of ∙ (ap (λ (b : Account). (change_between a b).put) same ∙ keeps.no_put))
    (removed_told a is few (Merge delta) c of ∙ (ap (λ (b : Account). (change_between a b).removed) same ∙ keeps.none_removed))
    (ap sessions_of same)
accepted_sessions a is few SnapshotCall c of free =
    let keeps = changed_nothing a is in
    stays a is few SnapshotCall c of (put_told a is few SnapshotCall c of ∙ keeps.no_put) (removed_told a is few SnapshotCall c of ∙ keeps.none_removed) refl

-- A call's change, made of the durable part before the call, gives the one after it.
pub changed_durable : (a : Account) → IsReached a → a.sites ≤ 16 → (call : Call) (c : ChangeState) → change_of c ≡ change_between a (after a call) → changed c (durable_of a) ≡ durable_of (after a call)
changed_durable a is few call c of = λ i. record { cells = cells i; sessions = at (reason (view_of a) call) refl i }
  where
    cells : put_cells c.cells (durable_cells a) ≡ durable_cells (after a call)
    cells = ap (λ (x : Change). put_cells x.cells (durable_cells a)) of ∙ put_law a is call

    at : (o : Option Refusal) → reason (view_of a) call ≡ o → changed_sessions c.session (sessions_of a) ≡ sessions_of (after a call)
    at None free = accepted_sessions a is few call c of free
    at (Some refusal) told = refused_sessions a is few call c of refusal told

-- a change that is empty is the call's where the durable part stays
pub nothing_changes : (a : Account) (call : Call) (c : ChangeState) → change_of c ≡ change_between a (after a call) → IsEmpty (change_between a (after a call)) → (c.cells ≡ []) × (c.session ≡ None)
nothing_changes a call c of empty =
    let put : put_by c.session ≡ [] = ap (λ (x : Change). x.put) of ∙ empty.no_put in
    let removed : removed_by c.session ≡ [] = ap (λ (x : Change). x.removed) of ∙ empty.none_removed in
    (ap (λ (x : Change). x.cells) of ∙ empty.no_cells, nothing_only c.session put removed)

-- a site has at most 65,535 seats of a record at the start
grant_few : (layout : LayoutState) → IsLayout layout → (r s : ℕ) → grant (shape_of layout) r s ≤ 65535
grant_few layout is r s = at (cases_Bool (eqb s it.home))
  where
    it : RecordShape
    it = get_or (shape_of layout).records r no_record

    at : (eqb s it.home ≡ true) ⊎ (eqb s it.home ≡ false) → grant (shape_of layout) r s ≤ 65535
    at (inl e) = omega (arith, cond-true (eqb s it.home) it.seats 0 e, seats_few layout is r)
    at (inr e) = omega (arith, cond-false (eqb s it.home) it.seats 0 e)

-- a row that fits has no counter past what is kept at most
fits_few : (granted s : ℕ) (f : Cell → ℕ) → granted ≤ 65535 → FitsRow granted s f → (cell : Cell) → f cell ≤ most_kept
fits_few granted s f few fits (Out j) = at (cases_eq j s)
  where
    at : (j ≡ s) ⊎ (j ≡ s → ⊥) → f (Out j) ≤ most_kept
    at (inl e) = omega (arith, ap (λ (x : ℕ). f (Out x)) e, fits.returned_after_taken, fits.few_taken)
    at (inr ne) = omega (arith, fits.few_moved j ne)
fits_few granted s f few fits Taken = omega (arith, fits.few_taken)
fits_few granted s f few fits Ann = omega (arith, fits.few_announced)
fits_few granted s f few fits Fin = omega (arith, fits.finished_after_announced, fits.few_announced)

-- what holds of each counter holds of a named one
named_few : (f : ℕ → ℕ → Cell → ℕ) (r : ℕ) (o : Option Named) → ((s : ℕ) (cell : Cell) → f r s cell ≤ most_kept) → counter_named f r o ≤ most_kept
named_few f r None few = omega arith
named_few f r (Some it) few = few it.s it.cell

-- a counter that rises is named
named_rises : (f g : ℕ → ℕ → Cell → ℕ) (r : ℕ) (o : Option Named) → counter_named f r o < counter_named g r o → is_some o ≡ true
named_rises f g r None less = absurd (omega arith)
named_rises f g r (Some it) less = refl

-- the account after a call, in the terms of the one before it
module _ (a : Account) (is : IsReached a) (few : a.sites ≤ 16) (layout : IsLayout (layout_of a)) (call : Call) where
  abbrev b : Account
  b = after a call

  abbrev new : ℕ → ℕ → ℕ
  new = slots_of b

  same_slots : (r slot : ℕ) → new r slot ≡ at_slot a.sites a.origin.site (known b) r slot
  same_slots r slot =
      ap (λ n. at_slot n b.origin.site (known b) r slot) (sites_after a call)
      ∙ ap (λ o. at_slot a.sites o.site (known b) r slot) (origin_after a call)

  start_low : (r slot : ℕ) → at_slot a.sites a.origin.site (start_counter (shape_of a.origin.layout)) r slot ≤ slots_of a r slot
  start_low r slot =
      named_below a.origin.site r (start_counter (shape_of a.origin.layout)) (known a) (named a.sites a.origin.site slot) (named_kept a.sites a.origin.site slot)
      (λ s cell kept. start_below (shape_of a.origin.layout) r s (known a r s) (known_fits a (sound_reached a is) r s) cell)

  small : (r slot : ℕ) → new r slot ≤ most_kept
  small r slot =
      named_few (known b) r (named b.sites b.origin.site slot)
      (λ s cell. fits_few (grant (shape_of b.origin.layout) r s) s (known b r s)
      (omega (arith, ap (λ o. grant (shape_of o.layout) r s) (origin_after a call), grant_few (layout_of a) layout r s))
      (known_fits b (sound_reached b (reached_after a call is)) r s) cell)

  abbrev IsGood : DurableCell → Type 0
  IsGood x = IsListed (layout_of a) a.origin.site x × (x.value ≤ most_kept)

  good : (p : Place) → p.r < 0 + length b.origin.layout.records → ltb (slots_of a p.r p.slot) (new p.r p.slot) ≡ true → IsGood (record { r = p.r; slot = p.slot; value = new p.r p.slot })
  good p low test =
      let less : slots_of a p.r p.slot < new p.r p.slot = ltb-true _ _ test in
      let same = same_slots p.r p.slot in
      let first = start_low p.r p.slot in (
        record {
          record_there = omega (arith, low, ap (λ o. length o.layout.records) (origin_after a call));
          slot_there = named_rises (known a) (known b) p.r (named a.sites a.origin.site p.slot) (omega (arith, less, same));
          moved = λ e. omega (arith, e, first, less);
        },
        small p.r p.slot,
      )

  all_good : AllByRecursion IsGood (change_between a b).cells
  all_good = picked IsGood (λ p. p.r < 0 + length b.origin.layout.records) _ new good (places b.origin.layout) (places_below 0 (length b.origin.layout.records))

all_weaker : {X : Type 0} (P Q : X → Type 0) → ((x : X) → P x → Q x) → (xs : List X) → AllByRecursion P xs → AllByRecursion Q xs
all_weaker P Q f [] all = tt
all_weaker P Q f (x ∷ xs) all = (f x all.0, all_weaker P Q f xs all.1)

-- a call changes no layout
layout_after : (a : Account) (call : Call) → layout_of (after a call) ≡ layout_of a
layout_after a call = λ i. record { sites = sites_after a call i; records = (origin_after a call i).layout.records }

-- each session of a reached account is one that can be
all_sessions : (a : Account) → IsReached a → a.sites ≤ 16 → All (IsSession (layout_of a)) (sessions_of a)
all_sessions a is few =
    let they = stored_sessions a is a.sites (omega arith) few in
    λ k d below. (they.records k d below, they.holders k d below)

one_session : (layout : LayoutState) (o : Option SessionChange) → All (IsSession layout) (put_by o) → All (IsSession layout) (removed_by o) → IsSessionChange layout o
one_session layout None put removed = tt
one_session layout (Some (Put s)) put removed = All-head (IsSession layout) s [] put
one_session layout (Some (Removed s)) put removed = All-head (IsSession layout) s [] removed

-- A call's change is one that a keeper may be told.
pub is_change : (a : Account) → IsReached a → IsLayout (layout_of a) → (call : Call) (c : ChangeState) → change_of c ≡ change_between a (after a call) → AreRising c.cells → IsChange (layout_of a) a.origin.site c
is_change a is layout call c of rising = record {
  rising = rising;
  listed = All-from_recursion (IsListed (layout_of a) a.origin.site) c.cells (all_weaker _ _ (λ x it. it.0) c.cells cells);
  small = All-from_recursion (λ x. x.value ≤ most_kept) c.cells (all_weaker _ _ (λ x it. it.1) c.cells cells);
  session = one_session (layout_of a) c.session put removed;
}
  where
    few : a.sites ≤ 16
    few = layout.few_sites

    b : Account
    b = after a call

    cells : AllByRecursion (IsGood a is few layout call) c.cells
    cells = subst (λ (x : List DurableCell). AllByRecursion (IsGood a is few layout call) x) (sym (ap (λ (x : Change). x.cells) of)) (all_good a is few layout call)

    fewer : b.sites ≤ 16
    fewer = omega (arith, few, sites_after a call)

    there : All (IsSession (layout_of a)) (sessions_of b)
    there = subst (λ (l : LayoutState). All (IsSession l) (sessions_of b)) (layout_after a call) (all_sessions b (reached_after a call is) fewer)

    put : All (IsSession (layout_of a)) (put_by c.session)
    put = subst (All (IsSession (layout_of a))) (sym (ap (λ (x : Change). x.put) of)) (All-filter _ (IsSession (layout_of a)) (sessions_of b) there)

    removed : All (IsSession (layout_of a)) (removed_by c.session)
    removed = subst (All (IsSession (layout_of a))) (sym (ap (λ (x : Change). x.removed) of)) (All-filter _ (IsSession (layout_of a)) (sessions_of a) (all_sessions a is few))
