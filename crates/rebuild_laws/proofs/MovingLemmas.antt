-- What the sites did that have moved depends on no other one, and nobody is inside beside a writer in either group.
use Rattle.std.proofs.Common.{◌≡◌, ◌≢◌, ℕ, ◌<◌, ◌⊎◌, inl, inr, Bool, true, false, ltb, List, [], ◌∷◌, ◌++◌, length, Option, Some, None, refl, sym, ap, subst, ◌∙◌, arith}
use Rattle.std.specs.Prelude.{slice_get}
use Rattle.std.proofs.lemmas.Bool.{cases_eq, cases_Bool, cond-true, cond-false, ltb-true, false≢true}
use Rattle.std.proofs.lemmas.List.{length-set}
use Rattle.merge_core.specs.Delta.{DeltaState}
use Rattle.merge_core.specs.Layout.{LayoutState}
use Rattle.session_list.specs.declared.session.Phase.TheVariants.{Writer}
use Rattle.admission_model.specs.declared.ask.Call.TheVariants.{Ask as AskCall, Merge}
use Rattle.admission_model.specs.Account.{Account, phase_of}
use Rattle.admission_model.specs.Knowledge.{restarted, grown}
use Rattle.admission_model.specs.View.{view_of}
use Rattle.admission_model.specs.Merging.{snapshot_of}
use Rattle.admission_model.specs.Serving.{after}
use Rattle.admission_model.proofs.OrderLemmas.{move_all}
use Rattle.multi_site_world.specs.declared.event.Event.{Event}
use Rattle.multi_site_world.specs.declared.event.Event.TheVariants.{Call, Send, Take, Thin, Restart, Grow}
use Rattle.multi_site_world.specs.World.{World, account_at, with_account, world_taken, thin_message, world_here, place_of, happens, run}
use Rattle.multi_site_world.specs.Laws.{IsInside}
use Rattle.multi_site_world.proofs.WorldLemmas.{IsSoundWorld, same_account, other_account}
use Rattle.multi_site_world.proofs.EventLemmas.{sound_run}
use Rattle.multi_site_world.proofs.LawLemmas.{run_layout}
use Rattle.rebuild_laws.specs.Groups.{Losing, new_group, MayMove}
use Rattle.rebuild_laws.specs.Moving.{AreOfMoved, IsSameAt, IsSameFor}
use Rattle.rebuild_laws.proofs.GroupLemmas.{moved_number, moved_other, sound_group}
use Rattle.rebuild_laws.proofs.TellingLemmas.{run_silent}
use Rattle.rebuild_laws.proofs.RebuildLaw.{alone_in}

module _ (moved : ℕ → Bool) where
  -- the same account is put at a site in both worlds
  same_with : (u w : World) (j : ℕ) (a b : Account) → a ≡ b → j < length u.sites → IsSameAt moved u w → IsSameAt moved (with_account u j a) (with_account w j b)
  same_with u w j a b same below is = record {
    layout = is.layout;
    number = omega (arith, length-set u.sites j a, length-set w.sites j b, is.number);
    sites = λ i e. at i e (cases_eq i j);
  }
    where
      at : (i : ℕ) → moved i ≡ true → (i ≡ j) ⊎ (i ≡ j → ⊥) → account_at (with_account u j a) i ≡ account_at (with_account w j b) i
      at i e (inl here) =
          subst (λ (k : ℕ). account_at (with_account u j a) k ≡ account_at (with_account w j b) k) (sym here)
          (same_account u j a below ∙ (same ∙ sym (same_account w j b (omega (arith, below, is.number)))))
      at i e (inr ne) = other_account u j i a ne ∙ (is.sites i e ∙ sym (other_account w j i b ne))

  taken_same : (u w : World) (j : ℕ) (o p : Option DeltaState) → o ≡ p → moved j ≡ true → j < length u.sites → IsSameFor moved u w → IsSameFor moved (world_taken u j o) (world_taken w j p)
  taken_same u w j o p same here below is = subst (λ (q : Option DeltaState). IsSameFor moved (world_taken u j o) (world_taken w j q)) same (of o)
    where
      of : (q : Option DeltaState) → IsSameFor moved (world_taken u j q) (world_taken w j q)
      of None = is
      of (Some delta) = record {
        at = same_with u w j (after (account_at u j) (Merge delta)) (after (account_at w j) (Merge delta)) (ap (λ (a : Account). after a (Merge delta)) (is.at.sites j here)) below is.at;
        sent = is.sent;
      }

  here_same : (u w : World) (event : Event) → moved (place_of event) ≡ true → place_of event < length u.sites → IsSameFor moved u w → IsSameFor moved (world_here u event) (world_here w event)
  here_same u w (Call j ask) here below is = record {
    at = same_with u w j (after (account_at u j) (AskCall ask)) (after (account_at w j) (AskCall ask)) (ap (λ (a : Account). after a (AskCall ask)) (is.at.sites j here)) below is.at;
    sent = is.sent;
  }
  here_same u w (Send j) here below is = record {
    at = record { layout = is.at.layout; number = is.at.number; sites = is.at.sites };
    sent = ap (λ (ds : List DeltaState). ds ++ snapshot_of (view_of (account_at u j)) ∷ []) is.sent ∙ ap (λ (a : Account). w.sent ++ snapshot_of (view_of a) ∷ []) (is.at.sites j here);
  }
  here_same u w (Take j k) here below is =
      taken_same u w j (slice_get u.sent k) (slice_get w.sent k) (ap (λ (ds : List DeltaState). slice_get ds k) is.sent) here below is
  here_same u w (Thin j k l) here below is =
      taken_same u w j (thin_message (slice_get u.sent k) (slice_get u.sent l)) (thin_message (slice_get w.sent k) (slice_get w.sent l))
      (ap (λ (ds : List DeltaState). thin_message (slice_get ds k) (slice_get ds l)) is.sent) here below is
  here_same u w (Restart j) here below is = record {
    at = same_with u w j (restarted (account_at u j)) (restarted (account_at w j)) (ap (λ (a : Account). restarted a) (is.at.sites j here)) below is.at;
    sent = is.sent;
  }
  here_same u w (Grow j) here below is = at (cases_Bool (ltb (account_at u j).sites u.layout.sites))
    where
      same_test : ltb (account_at w j).sites w.layout.sites ≡ ltb (account_at u j).sites u.layout.sites
      same_test =
          ap (λ (a : Account). ltb a.sites w.layout.sites) (sym (is.at.sites j here))
          ∙ ap (λ (l : LayoutState). ltb (account_at u j).sites l.sites) (sym is.at.layout)

      at : (ltb (account_at u j).sites u.layout.sites ≡ true) ⊎ (ltb (account_at u j).sites u.layout.sites ≡ false) → IsSameFor moved (world_here u (Grow j)) (world_here w (Grow j))
      at (inl e) =
          subst (λ (v : World). IsSameFor moved (world_here u (Grow j)) v) (sym (cond-true (ltb (account_at w j).sites w.layout.sites) (with_account w j (grown w.layout.sites (account_at w j))) w (same_test ∙ e)))
          (subst (λ (v : World). IsSameFor moved v (with_account w j (grown w.layout.sites (account_at w j)))) (sym (cond-true (ltb (account_at u j).sites u.layout.sites) (with_account u j (grown u.layout.sites (account_at u j))) u e))
          (record {
            at = same_with u w j (grown u.layout.sites (account_at u j)) (grown w.layout.sites (account_at w j))
                (ap (λ (a : Account). grown u.layout.sites a) (is.at.sites j here) ∙ ap (λ (l : LayoutState). grown l.sites (account_at w j)) is.at.layout) below is.at;
            sent = is.sent;
          }))
      at (inr e) =
          subst (λ (v : World). IsSameFor moved (world_here u (Grow j)) v) (sym (cond-false (ltb (account_at w j).sites w.layout.sites) (with_account w j (grown w.layout.sites (account_at w j))) w (same_test ∙ e)))
          (subst (λ (v : World). IsSameFor moved v w) (sym (cond-false (ltb (account_at u j).sites u.layout.sites) (with_account u j (grown u.layout.sites (account_at u j))) u e)) is)

  happens_same : (u w : World) (event : Event) → moved (place_of event) ≡ true → IsSameFor moved u w → IsSameFor moved (happens u event) (happens w event)
  happens_same u w event here is = at (cases_Bool (ltb (place_of event) (length u.sites)))
    where
      same_test : ltb (place_of event) (length w.sites) ≡ ltb (place_of event) (length u.sites)
      same_test = ap (λ (n : ℕ). ltb (place_of event) n) (sym is.at.number)

      at : (ltb (place_of event) (length u.sites) ≡ true) ⊎ (ltb (place_of event) (length u.sites) ≡ false) → IsSameFor moved (happens u event) (happens w event)
      at (inl e) =
          subst (λ (v : World). IsSameFor moved (happens u event) v) (sym (cond-true (ltb (place_of event) (length w.sites)) (world_here w event) w (same_test ∙ e)))
          (subst (λ (v : World). IsSameFor moved v (world_here w event)) (sym (cond-true (ltb (place_of event) (length u.sites)) (world_here u event) u e))
          (here_same u w event here (ltb-true (place_of event) (length u.sites) e) is))
      at (inr e) =
          subst (λ (v : World). IsSameFor moved (happens u event) v) (sym (cond-false (ltb (place_of event) (length w.sites)) (world_here w event) w (same_test ∙ e)))
          (subst (λ (v : World). IsSameFor moved v w) (sym (cond-false (ltb (place_of event) (length u.sites)) (world_here u event) u e)) is)

  run_same : (events : List Event) (u w : World) → AreOfMoved moved events → IsSameFor moved u w → IsSameFor moved (run events u) (run events w)
  run_same [] u w all is = is
  run_same (event ∷ events) u w all is = run_same events (happens u event) (happens w event) all.1 (happens_same u w event all.0 is)

-- what moved sites did in the new group does not depend on what others did in the old one, nor on which of these are lost
pub independent : (moved : ℕ → Bool) (l m : Losing) (u w : World) → IsSameAt moved u w → ((i : ℕ) → moved i ≡ true → (i < u.layout.sites) × ((l.gone i ≡ false) × (m.gone i ≡ false))) → (events : List Event) → AreOfMoved moved events → IsSameFor moved (run events (new_group u l)) (run events (new_group w m))
independent moved l m u w same there events all = run_same moved events (new_group u l) (new_group w m) all (record { at = first; sent = refl })
  where
    first : IsSameAt moved (new_group u l) (new_group w m)
    first = record {
      layout = same.layout;
      number = moved_number u w l m same.layout;
      sites = λ i e.
          let it = there i e in
          moved_other u l i it.0 it.1.0
          ∙ (ap (λ (a : Account). restarted a) (same.sites i e)
          ∙ sym (moved_other w m i (subst (λ (x : LayoutState). i < x.sites) same.layout it.0) it.1.1));
    }

-- a site that has not moved is where it was
module _ (w : World) (sound : IsSoundWorld w) (l : Losing) (n : ℕ) (moves : MayMove w l n) (moved : ℕ → Bool) (events : List Event) (all : AreOfMoved moved events) where
  low : (i : ℕ) → l.gone i ≡ true → i < w.layout.sites
  low i e = omega (arith, moves.lost_there i e, moves.few)

  in_group : IsSoundWorld (run events (new_group w l))
  in_group = sound_run events (new_group w l) (sound_group w l sound low moves.settled moves.can_spare)

  same_number : (run events (new_group w l)).layout.sites ≡ w.layout.sites
  same_number = ap (λ (x : LayoutState). x.sites) (run_layout events (new_group w l))

  left_behind : (k : ℕ) → k < w.layout.sites → l.gone k ≡ false → moved k ≡ false → account_at (run events (new_group w l)) k ≡ restarted (account_at w k)
  left_behind k below left not_yet =
      run_silent k events (new_group w l)
      (move_all (λ event. moved (place_of event) ≡ true) (λ event. place_of event ≢ k) (λ event it same. false≢true (sym not_yet ∙ (ap moved (sym same) ∙ it))) events all)
      ∙ moved_other w l k below left

  pub behind_alone : (k i r h j : ℕ) → k < w.layout.sites → l.gone k ≡ false → moved k ≡ false → i < w.layout.sites → moved i ≡ true → phase_of (account_at w k) r h ≡ Some Writer → ¬ IsInside (phase_of (account_at (run events (new_group w l)) i) r j)
  behind_alone k i r h j below left not_yet there has writer inside =
      let both = alone_in (run events (new_group w l)) in_group r k i h j (omega (arith, below, same_number)) (omega (arith, there, same_number)) (ap (λ (a : Account). phase_of a r h) (left_behind k below left not_yet) ∙ writer) inside in
      false≢true (sym not_yet ∙ (ap moved both.0 ∙ has))

  pub moved_alone : (k i r h j : ℕ) → k < w.layout.sites → l.gone k ≡ false → moved k ≡ false → i < w.layout.sites → moved i ≡ true → phase_of (account_at (run events (new_group w l)) i) r h ≡ Some Writer → ¬ IsInside (phase_of (account_at w k) r j)
  moved_alone k i r h j below left not_yet there has writer inside =
      let both = alone_in (run events (new_group w l)) in_group r i k h j (omega (arith, there, same_number)) (omega (arith, below, same_number)) writer
      (subst (λ (a : Account). IsInside (phase_of a r j)) (sym (left_behind k below left not_yet)) inside) in
      false≢true (sym not_yet ∙ (ap moved (sym both.0) ∙ has))
