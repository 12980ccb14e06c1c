-- A writer stays inside until it leaves; and any other session that comes later has a greater number.
use Rattle.std.proofs.Common.{◌≡◌, ◌≢◌, ℕ, ◌<◌, ◌⊎◌, inl, inr, true, false, cond, eqb, ltb, List, [], ◌∷◌, length, Option, Some, None, is_some, refl, sym, ap, subst, ◌∙◌, arith}
use Rattle.std.specs.Prelude.{slice_get}
use Rattle.std.proofs.lemmas.Bool.{cases_eq, cases_Bool, cond_both, eqb-true, eq-eqb, and_parts, and_from, ltb-true, cond-true, cond-false}
use Rattle.merge_core.specs.Delta.{DeltaState}
use Rattle.merge_core.specs.Layout.{LayoutState}
use Rattle.session_list.specs.declared.session.Phase.{Phase}
use Rattle.session_list.specs.declared.session.Phase.TheVariants.{Reader, Waiting, Writer}
use Rattle.admission_model.specs.declared.ask.Ask.{Ask}
use Rattle.admission_model.specs.declared.ask.Ask.TheVariants.{Read, Announce, Quill, Leave, Give, Help}
use Rattle.admission_model.specs.declared.ask.Call.TheVariants.{Ask as AskCall, Merge}
use Rattle.admission_model.specs.Account.{Account, is_key, phase_of}
use Rattle.admission_model.specs.Knowledge.{hears, grown, restarted}
use Rattle.admission_model.specs.View.{view_of}
use Rattle.admission_model.specs.Replies.{ask_lines, merge_lines}
use Rattle.admission_model.specs.Serving.{advanced, unless_refused, after}
use Rattle.admission_model.specs.declared.operation.Operation.TheVariants.{LeftRecord}
use Rattle.admission_model.proofs.CounterLemmas.{does}
use Rattle.admission_model.proofs.ServingLemmas.{first_both}
use Rattle.multi_site_world.specs.declared.event.Event.{Event}
use Rattle.multi_site_world.specs.declared.event.Event.TheVariants.{Call, Send, Take, Thin, Restart, Grow}
use Rattle.multi_site_world.specs.World.{World, account_at, with_account, world_taken, thin_message, world_here, place_of, happens, run}
use Rattle.multi_site_world.specs.Laws.{IsInside}
use Rattle.rebuild_laws.specs.Groups.{IsRebuiltWorld}
use Rattle.multi_site_world.proofs.FamilyLemmas.{writer_alone}
use Rattle.multi_site_world.proofs.WorldLemmas.{IsSoundWorld, same_account, other_account}
use Rattle.multi_site_world.proofs.EventLemmas.{sound_happens}
use Rattle.rebuild_laws.proofs.RebuildLaw.{sound_rebuilt_world}
use Rattle.multi_site_world.proofs.LawLemmas.{sent_before, run_layout}
use Rattle.fencing_laws.specs.Fences.{fence, AreWellTold, IsSameStay}
use Rattle.fencing_laws.proofs.FenceLemmas.{above_writer, number_rises}
use Rattle.fencing_laws.proofs.LeaveLemmas.{is_gone}

-- the same holder at the same record
pub same_key : (q k r h : ℕ) → is_key q k r h ≡ true → (q ≡ r) × (k ≡ h)
same_key q k r h e = let both = and_parts (eqb q r) (eqb k h) e in (eqb-true q r both.0, eqb-true k h both.1)

moved_phase : (a : Account) (q k r h : ℕ) → is_key q k r h ≡ true → phase_of a q k ≡ phase_of a r h
moved_phase a q k r h e =
    let same = same_key q k r h e in ap (λ x. phase_of a x k) same.0 ∙ ap (phase_of a r) same.1

-- who writes goes on to write, unless it leaves
stays_writer : (a : Account) (ask : Ask) (r h : ℕ) → phase_of a r h ≡ Some Writer → (ask ≡ Leave r h) ⊎ (phase_of (after a (AskCall ask)) r h ≡ Some Writer)
stays_writer a (Read q k) r h writes =
    inr (first_both (λ o. phase_of (unless_refused o a (advanced a (AskCall (Read q k)))) r h ≡ Some Writer) (ask_lines (view_of a) (Read q k)) (λ x. writes) (λ clear. at (cases_Bool (is_key q k r h)) clear.1.1.0))
  where
    at : (is_key q k r h ≡ true) ⊎ (is_key q k r h ≡ false) → is_some (phase_of a q k) ≡ false → cond (is_key q k r h) (Some Reader) (phase_of a r h) ≡ Some Writer
    at (inl e) none = let there : is_some (phase_of a q k) ≡ true = ap is_some (moved_phase a q k r h e ∙ writes) in cc
    at (inr e) none = cond-false (is_key q k r h) (Some Reader) (phase_of a r h) e ∙ writes
stays_writer a (Announce q k) r h writes =
    inr (first_both (λ o. phase_of (unless_refused o a (advanced a (AskCall (Announce q k)))) r h ≡ Some Writer) (ask_lines (view_of a) (Announce q k)) (λ x. writes) (λ clear. at (cases_Bool (is_key q k r h)) clear.1.1.0))
  where
    at : (is_key q k r h ≡ true) ⊎ (is_key q k r h ≡ false) → is_some (phase_of a q k) ≡ false → cond (is_key q k r h) (Some Waiting) (phase_of a r h) ≡ Some Writer
    at (inl e) none = let there : is_some (phase_of a q k) ≡ true = ap is_some (moved_phase a q k r h e ∙ writes) in cc
    at (inr e) none = cond-false (is_key q k r h) (Some Waiting) (phase_of a r h) e ∙ writes
stays_writer a (Quill q k) r h writes =
    inr (first_both (λ o. phase_of (unless_refused o a (advanced a (AskCall (Quill q k)))) r h ≡ Some Writer) (ask_lines (view_of a) (Quill q k)) (λ x. writes) (λ clear. at (cases_Bool (is_key q k r h))))
  where
    at : (is_key q k r h ≡ true) ⊎ (is_key q k r h ≡ false) → cond (is_key q k r h) (Some Writer) (phase_of a r h) ≡ Some Writer
    at (inl e) = cond-true (is_key q k r h) (Some Writer) (phase_of a r h) e
    at (inr e) = cond-false (is_key q k r h) (Some Writer) (phase_of a r h) e ∙ writes
stays_writer a (Leave q k) r h writes = at (cases_Bool (is_key q k r h))
  where
    at : (is_key q k r h ≡ true) ⊎ (is_key q k r h ≡ false) → (Leave q k ≡ Leave r h) ⊎ (phase_of (after a (AskCall (Leave q k))) r h ≡ Some Writer)
    at (inl e) = let same = same_key q k r h e in inl (ap (λ x. Leave x k) same.0 ∙ ap (λ x. Leave r x) same.1)
    at (inr e) =
        inr (first_both (λ o. phase_of (unless_refused o a (advanced a (AskCall (Leave q k)))) r h ≡ Some Writer) (ask_lines (view_of a) (Leave q k)) (λ x. writes)
        (λ clear. cond-false (is_key q k r h) None (phase_of a r h) e ∙ writes))
stays_writer a (Give q to seats) r h writes =
    inr (first_both (λ o. phase_of (unless_refused o a (advanced a (AskCall (Give q to seats)))) r h ≡ Some Writer) (ask_lines (view_of a) (Give q to seats)) (λ x. writes) (λ clear. writes))
stays_writer a (Help q) r h writes =
    inr (first_both (λ o. phase_of (unless_refused o a (advanced a (AskCall (Help q)))) r h ≡ Some Writer) (ask_lines (view_of a) (Help q)) (λ x. writes) (λ clear. writes))

-- what holds between a site's old account and its new one, and of each account and itself, holds at every site (as in
-- StepLaws of multi_site_world, which keeps it private)
pub at_each : (P : Account → Account → Type 0) → ((a : Account) → P a a) → (w : World) (j : ℕ) (a : Account) → j < length w.sites → P (account_at w j) a → (i : ℕ) → P (account_at w i) (account_at (with_account w j a) i)
at_each P same w j a below new i = at (cases_eq i j)
  where
    at : (i ≡ j) ⊎ (i ≡ j → ⊥) → P (account_at w i) (account_at (with_account w j a) i)
    at (inl e) =
        subst (λ (x : ℕ). P (account_at w x) (account_at (with_account w j a) x)) (sym e)
        (subst (λ (b : Account). P (account_at w j) b) (sym (same_account w j a below)) new)
    at (inr ne) = subst (λ (b : Account). P (account_at w i) b) (sym (other_account w j i a ne)) (same (account_at w i))

-- a merge moves no session
merged_phase : (a : Account) (delta : DeltaState) (r h : ℕ) → phase_of (after a (Merge delta)) r h ≡ phase_of a r h
merged_phase a delta r h =
    first_both (λ o. phase_of (unless_refused o a (hears a delta.rows)) r h ≡ phase_of a r h) (merge_lines (view_of a) delta) (λ x. refl) (λ clear. refl)

SamePhase : ℕ → ℕ → Account → Account → Type 0
SamePhase r h a b = phase_of b r h ≡ phase_of a r h

pub taken_phase : (w : World) (j i r h : ℕ) (o : Option DeltaState) → j < length w.sites → phase_of (account_at (world_taken w j o) i) r h ≡ phase_of (account_at w i) r h
unfolding SamePhase
taken_phase w j i r h None below = refl
taken_phase w j i r h (Some delta) below =
    at_each (SamePhase r h) (λ a. refl) w j (after (account_at w j) (Merge delta)) below (merged_phase (account_at w j) delta r h) i

-- an event at a site that there is: the writer leaves by it, or stays
stays_here : (w : World) (event : Event) (i r h : ℕ) → place_of event < length w.sites → phase_of (account_at w i) r h ≡ Some Writer → (event ≡ Call i (Leave r h)) ⊎ (phase_of (account_at (world_here w event) i) r h ≡ Some Writer)
unfolding SamePhase
stays_here w (Call j ask) i r h below writes = at (cases_eq j i)
  where
    b : Account
    b = after (account_at w j) (AskCall ask)

    here : (j ≡ i) → (ask ≡ Leave r h) ⊎ (phase_of (after (account_at w j) (AskCall ask)) r h ≡ Some Writer) → (Call j ask ≡ Call i (Leave r h)) ⊎ (phase_of (account_at (with_account w j (after (account_at w j) (AskCall ask))) i) r h ≡ Some Writer)
    here e (inl leaves) = inl (ap (λ x. Call x ask) e ∙ ap (Call i) leaves)
    here e (inr stays) =
        inr (at_each (λ a b. phase_of a r h ≡ Some Writer → phase_of b r h ≡ Some Writer) (λ a yes_it. yes_it) w j b below (λ yes_it. stays) i writes)

    at : (j ≡ i) ⊎ (j ≡ i → ⊥) → (Call j ask ≡ Call i (Leave r h)) ⊎ (phase_of (account_at (with_account w j (after (account_at w j) (AskCall ask))) i) r h ≡ Some Writer)
    at (inl e) = here e (stays_writer (account_at w j) ask r h (ap (λ x. phase_of (account_at w x) r h) e ∙ writes))
    at (inr ne) = inr (ap (λ a. phase_of a r h) (other_account w j i b (λ e. ne (sym e))) ∙ writes)
stays_here w (Send j) i r h below writes = inr writes
stays_here w (Take j k) i r h below writes = inr (taken_phase w j i r h (slice_get w.sent k) below ∙ writes)
stays_here w (Thin j k l) i r h below writes = inr (taken_phase w j i r h (thin_message (slice_get w.sent k) (slice_get w.sent l)) below ∙ writes)
stays_here w (Restart j) i r h below writes = inr (at_each (SamePhase r h) (λ a. refl) w j (restarted (account_at w j)) below refl i ∙ writes)
stays_here w (Grow j) i r h below writes =
    inr (cond_both (ltb (account_at w j).sites w.layout.sites) (with_account w j (grown w.layout.sites (account_at w j))) w (λ u. phase_of (account_at u i) r h ≡ Some Writer)
    (λ e. at_each (SamePhase r h) (λ a. refl) w j (grown w.layout.sites (account_at w j)) below refl i ∙ writes)
    (λ e. writes))

stays_inside : (w : World) (event : Event) (i r h : ℕ) → phase_of (account_at w i) r h ≡ Some Writer → (event ≡ Call i (Leave r h)) ⊎ (phase_of (account_at (happens w event) i) r h ≡ Some Writer)
stays_inside w event i r h writes =
    cond_both (ltb (place_of event) (length w.sites)) (world_here w event) w (λ u. (event ≡ Call i (Leave r h)) ⊎ (phase_of (account_at u i) r h ≡ Some Writer))
    (λ e. stays_here w event i r h (ltb-true (place_of event) (length w.sites) e) writes)
    (λ e. inr writes)

-- .. and once it left, it is gone
leaves_none : (w : World) (i r h : ℕ) → IsSoundWorld w → i < w.layout.sites → phase_of (account_at w i) r h ≡ Some Writer → phase_of (account_at (happens w (Call i (Leave r h))) i) r h ≡ None
leaves_none w i r h sound below writes =
    ap (λ u. phase_of (account_at u i) r h) (is_gone w r i h Writer sound below writes)
    ∙ (ap (λ a. phase_of a r h) (same_account w i (does (LeftRecord r h) (account_at w i)) (omega (arith, sound.number, below)))
    ∙ cond-true (is_key r h r h) None (phase_of (account_at w i) r h) (and_from (eqb r r) (eqb h h) (eq-eqb r r refl) (eq-eqb h h refl)))

other_later : (events : List Event) (w : World) → IsSoundWorld w → (i r h : ℕ) → i < w.layout.sites → phase_of (account_at w i) r h ≡ Some Writer → AreWellTold events w → (j k : ℕ) → j < w.layout.sites → IsInside (phase_of (account_at (run events w) j) r k) → IsSameStay r i h j k events (run events w) ⊎ (fence w i r < fence (run events w) j r)
other_later [] w sound i r h below writes well j k there inside_there =
    let alone = writer_alone w.layout (account_at w) r sound.layout sound.family (sent_before w r sound) i j h k below there writes inside_there in
    inl (record {
      same_site = alone.0;
      same_holder = alone.1;
      writes = ap (λ x. phase_of (account_at w j) r x) (sym alone.1) ∙ (ap (λ x. phase_of (account_at w x) r h) (sym alone.0) ∙ writes);
      never_leaves = tt;
    })
other_later (event ∷ events) w sound i r h below writes well j k there inside_there =
    at (stays_inside w event i r h writes) (other_later events (happens w event) (sound_happens w event sound) i r h (omega (arith, below, same)))
  where
    same : (happens w event).layout.sites ≡ w.layout.sites
    same = ap (λ (l : LayoutState). l.sites) (run_layout (event ∷ []) w)

    at : (event ≡ Call i (Leave r h)) ⊎ (phase_of (account_at (happens w event) i) r h ≡ Some Writer)
        → (phase_of (account_at (happens w event) i) r h ≡ Some Writer → AreWellTold events (happens w event) → (m n : ℕ) → m < (happens w event).layout.sites → IsInside (phase_of (account_at (run events (happens w event)) m) r n) → IsSameStay r i h m n events (run events (happens w event)) ⊎ (fence (happens w event) i r < fence (run events (happens w event)) m r))
        → IsSameStay r i h j k (event ∷ events) (run events (happens w event)) ⊎ (fence w i r < fence (run events (happens w event)) j r)
    at (inl leaves) later =
        inr (subst (λ (e : Event). AreWellTold events (happens w e) → IsInside (phase_of (account_at (run events (happens w e)) j) r k) → fence w i r < fence (run events (happens w e)) j r) (sym leaves)
        (λ told is. above_writer w sound i r h below writes events told j k there is) well.1 inside_there)
    at (inr stays) later = raise (later stays well.1 j k (omega (arith, there, same)) inside_there)
      where
        not_leave : event ≢ Call i (Leave r h)
        not_leave e =
            let gone : ◌≡◌ {A = Option Phase} None (Some Writer) =
            sym (leaves_none w i r h sound below writes) ∙ (ap (λ x. phase_of (account_at (happens w x) i) r h) (sym e) ∙ stays) in cc

        raise : IsSameStay r i h j k events (run events (happens w event)) ⊎ (fence (happens w event) i r < fence (run events (happens w event)) j r) → IsSameStay r i h j k (event ∷ events) (run events (happens w event)) ⊎ (fence w i r < fence (run events (happens w event)) j r)
        raise (inl it) = inl (record { same_site = it.same_site; same_holder = it.same_holder; writes = it.writes; never_leaves = (not_leave, it.never_leaves) })
        raise (inr above) = inr (omega (arith, above, number_rises w event i r))

pub other_above : (u : World) → IsRebuiltWorld u → (i r h : ℕ) → i < u.layout.sites → phase_of (account_at u i) r h ≡ Some Writer → (events : List Event) → AreWellTold events u → (j k : ℕ) → j < u.layout.sites → IsInside (phase_of (account_at (run events u) j) r k) → IsSameStay r i h j k events (run events u) ⊎ (fence u i r < fence (run events u) j r)
other_above u is i r h below writes events well j k there inside_there =
    other_later events u (sound_rebuilt_world u is) i r h below writes well j k there inside_there
