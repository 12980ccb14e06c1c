-- Every site hears every other one, and nothing else changes.
use Rattle.std.proofs.Common.{◌≡◌, ◌≢◌, ℕ, zero, suc, ◌<◌, ◌≤◌, ◌⊎◌, inl, inr, List, [], ◌∷◌, ◌++◌, length, Some, None, refl, sym, ap, subst, ◌∙◌, arith}
use Rattle.std.specs.Prelude.{slice_get}
use Rattle.std.proofs.lemmas.Bool.{cases_eq}
use Rattle.merge_core.specs.declared.cell.Cell.{Cell}
use Rattle.merge_core.specs.declared.cell.Cell.TheVariants.{Out, Taken, Ann, Fin}
use Rattle.merge_core.specs.Delta.{DeltaState}
use Rattle.merge_core.specs.declared.layout.RecordSpec.{RecordSpec}
use Rattle.merge_core.specs.Layout.{LayoutState}
use Rattle.merge_core.specs.Book.{HasCell}
use Rattle.admission_model.specs.declared.ask.Call.TheVariants.{Merge}
use Rattle.admission_model.specs.Account.{Account, Origin, layout_of, seats_in, own, own_after, phase_of, phase_after, sessions_after, session_total}
use Rattle.admission_model.specs.declared.operation.Operation.{Operation}
use Rattle.admission_model.specs.Knowledge.{known, hears}
use Rattle.admission_model.specs.View.{view_of}
use Rattle.admission_model.specs.Merging.{snapshot_of}
use Rattle.admission_model.specs.Serving.{reason, unless_refused, after}
use Rattle.admission_model.proofs.CounterLemmas.{known_own, known_other}
use Rattle.admission_model.proofs.NoticeLemmas.{known_after}
use Rattle.admission_model.proofs.SnapshotLemmas.{snapshot_shows}
use Rattle.multi_site_world.specs.declared.event.Event.TheVariants.{Send, Take}
use Rattle.multi_site_world.specs.World.{World, account_at, with_account, world_taken, happens, run}
use Rattle.multi_site_world.proofs.FamilyLemmas.{same_shown}
use Rattle.multi_site_world.proofs.WorldLemmas.{IsSoundWorld, same_account, other_account, rows_accepted, all_narrow}
use Rattle.multi_site_world.proofs.EventLemmas.{sound_happens, message_there}
use Rattle.fencing_laws.proofs.FenceLemmas.{happens_here}
use Rattle.fencing_laws.proofs.LeaveLemmas.{Leads, stays, leads_on, IsReady, AreCleared, left_at, goes}

-- what only hearing changes: no site did anything, and all know at least as much
pub record IsCalm (v x : World) : Type 0 where
  pub sound : IsSoundWorld x
  pub layout : x.layout ≡ v.layout
  pub origin : (y : ℕ) → (account_at x y).origin ≡ (account_at v y).origin
  pub done : (y : ℕ) → (account_at x y).done ≡ (account_at v y).done
  pub sites : (y : ℕ) → (account_at x y).sites ≡ (account_at v y).sites
  pub more : (y r s : ℕ) (cell : Cell) → known (account_at v y) r s cell ≤ known (account_at x y) r s cell

calm_same : (v : World) → IsSoundWorld v → IsCalm v v
calm_same v sound = record { sound = sound; layout = refl; origin = λ y. refl; done = λ y. refl; sites = λ y. refl; more = λ y r s cell. omega arith }

calm_then : (v x z : World) → IsCalm v x → IsCalm x z → IsCalm v z
calm_then v x z first second = record {
  sound = second.sound;
  layout = second.layout ∙ first.layout;
  origin = λ y. second.origin y ∙ first.origin y;
  done = λ y. second.done y ∙ first.done y;
  sites = λ y. second.sites y ∙ first.sites y;
  more = λ y r s cell. omega (arith, first.more y r s cell, second.more y r s cell);
}

pub same_phase : (v x : World) → IsCalm v x → (y r k : ℕ) → phase_of (account_at x y) r k ≡ phase_of (account_at v y) r k
same_phase v x calm y r k =
    ap (λ (o : Origin). phase_after o (account_at x y).done r k) (calm.origin y) ∙ ap (λ (done : List Operation). phase_after (account_at v y).origin done r k) (calm.done y)

pub same_own : (v x : World) → IsCalm v x → (y r : ℕ) (cell : Cell) → own (account_at x y) r cell ≡ own (account_at v y) r cell
same_own v x calm y r cell =
    ap (λ (o : Origin). own_after o (account_at x y).done r cell) (calm.origin y) ∙ ap (λ (done : List Operation). own_after (account_at v y).origin done r cell) (calm.done y)

same_left : (v x : World) → IsCalm v x → (r w y : ℕ) → left_at r w x y ≡ left_at r w v y
same_left v x calm r w y =
    ap (λ (o : Origin). session_total (goes w y) r (sessions_after o (account_at x y).done)) (calm.origin y)
    ∙ ap (λ (done : List Operation). session_total (goes w y) r (sessions_after (account_at v y).origin done)) (calm.done y)

calm_ready : (n r w h : ℕ) (v x : World) → IsReady n r w h v → IsCalm v x → IsReady n r w h x
calm_ready n r w h v x is calm = record {
  sound = calm.sound;
  sites = ap (λ (l : LayoutState). l.sites) calm.layout ∙ is.sites;
  there = is.there;
  record_there = subst (λ (l : LayoutState). r < length l.records) (sym calm.layout) is.record_there;
  waits = same_phase v x calm w r h ∙ is.waits;
  all_known = λ i below. calm.sites i ∙ is.all_known i below;
  room = omega (arith, is.room, same_own v x calm w r Taken, ap (λ (l : LayoutState). seats_in l r) calm.layout);
  rooms = λ i below apart. omega (arith, is.rooms i below apart, same_own v x calm i r (Out w), ap (λ (l : LayoutState). seats_in l r) calm.layout);
}

pub calm_cleared : (n r w h m : ℕ) (v x : World) → AreCleared n r w h m v → IsCalm v x → AreCleared n r w h m x
calm_cleared n r w h m v x cleared calm = record { ready = calm_ready n r w h v x cleared.ready calm; none = λ i below. same_left v x calm r w i ∙ cleared.none i below }

-- site i knows what site j gave it, and of the writers of j
pub record HasHeard (r : ℕ) (x : World) (i j : ℕ) : Type 0 where
  pub outs : own (account_at x j) r (Out i) ≤ known (account_at x i) r j (Out i)
  pub anns : own (account_at x j) r Ann ≤ known (account_at x i) r j Ann
  pub fins : own (account_at x j) r Fin ≤ known (account_at x i) r j Fin

calm_heard : (r : ℕ) (v x : World) (i j : ℕ) → IsCalm v x → HasHeard r v i j → HasHeard r x i j
calm_heard r v x i j calm heard = record {
  outs = omega (arith, heard.outs, same_own v x calm j r (Out i), calm.more i r j (Out i));
  anns = omega (arith, heard.anns, same_own v x calm j r Ann, calm.more i r j Ann);
  fins = omega (arith, heard.fins, same_own v x calm j r Fin, calm.more i r j Fin);
}

heard_itself : (r : ℕ) (x : World) (i : ℕ) → IsSoundWorld x → i < x.layout.sites → HasHeard r x i i
heard_itself r x i sound below = record { outs = mine (Out i); anns = mine Ann; fins = mine Fin }
  where
    mine : (cell : Cell) → own (account_at x i) r cell ≤ known (account_at x i) r i cell
    mine cell =
        omega (arith, known_own (account_at x i) r cell, ap (λ s. known (account_at x i) r s cell) (sound.family.same_site i below))

-- the last message is there (as in GatherLemmas of multi_site_world, which keeps it private)
last_message : (xs : List DeltaState) (d : DeltaState) → slice_get (xs ++ d ∷ []) (length xs) ≡ Some d
last_message [] d = refl
last_message (x ∷ xs) d = last_message xs d

-- site j tells, and site i takes it
abbrev pub told_by : World → ℕ → World
told_by v j = record v { sent = v.sent ++ snapshot_of (view_of (account_at v j)) ∷ [] }

module _ (n r w h i j : ℕ) (v : World) (is : IsReady n r w h v) (below : i < n) (there : j < n) (apart : j ≢ i) where
  abbrev d : DeltaState
  d = snapshot_of (view_of (account_at v j))

  abbrev heard_by : World
  heard_by = with_account (told_by v j) i (hears (account_at v i) d.rows)

  below_v : i < v.layout.sites
  below_v = omega (arith, is.sites)

  there_v : j < v.layout.sites
  there_v = omega (arith, is.sites)

  sent : happens v (Send j) ≡ told_by v j
  sent = happens_here v (Send j) is.sound there_v

  sound_told : IsSoundWorld (told_by v j)
  sound_told = subst IsSoundWorld sent (sound_happens v (Send j) is.sound)

  takes : reason (view_of (account_at v i)) (Merge d) ≡ None
  takes =
      let rows = (message_there (told_by v j) (length v.sent) d sound_told (last_message v.sent d)).rows in
      rows_accepted (told_by v j) i d sound_told below_v rows (all_narrow (told_by v j) i d.rows (is.all_known i below ∙ sym is.sites) rows)

  becomes : after (account_at v i) (Merge d) ≡ hears (account_at v i) d.rows
  becomes = ap (λ o. unless_refused o (account_at v i) (hears (account_at v i) d.rows)) takes

  both : run (Send j ∷ Take i (length v.sent) ∷ []) v ≡ heard_by
  both =
      ap (λ x. happens x (Take i (length v.sent))) sent
      ∙ (happens_here (told_by v j) (Take i (length v.sent)) sound_told below_v
      ∙ (ap (world_taken (told_by v j) i) (last_message v.sent d)
      ∙ ap (with_account (told_by v j) i) becomes))

  sound_heard : IsSoundWorld heard_by
  sound_heard =
      subst IsSoundWorld both (sound_happens (happens v (Send j)) (Take i (length v.sent)) (sound_happens v (Send j) is.sound))

  at_each_of : (P : Account → Account → Type 0) → ((a : Account) → P a a) → P (account_at v i) (hears (account_at v i) d.rows) → (y : ℕ) → P (account_at v y) (account_at heard_by y)
  at_each_of P same new y = at (cases_eq y i)
    where
      at : (y ≡ i) ⊎ (y ≡ i → ⊥) → P (account_at v y) (account_at heard_by y)
      at (inl e) =
          subst (λ (x : ℕ). P (account_at v x) (account_at heard_by x)) (sym e)
          (subst (P (account_at v i)) (sym (same_account (told_by v j) i (hears (account_at v i) d.rows) (omega (arith, is.sound.number, below_v)))) new)
      at (inr ne) = subst (P (account_at v y)) (sym (other_account (told_by v j) i y (hears (account_at v i) d.rows) ne)) (same (account_at v y))

  calm : IsCalm v heard_by
  calm = record {
    sound = sound_heard;
    layout = refl;
    origin = at_each_of (λ a b. b.origin ≡ a.origin) (λ a. refl) refl;
    done = at_each_of (λ a b. b.done ≡ a.done) (λ a. refl) refl;
    sites = at_each_of (λ a b. b.sites ≡ a.sites) (λ a. refl) refl;
    more = λ y q s cell. at_each_of (λ a b. known a q s cell ≤ known b q s cell) (λ a. omega arith)
        (omega (arith, known_after (account_at v i) (Merge d) q s cell, ap (λ b. known b q s cell) becomes)) y;
  }

  shows : (cell : Cell) → HasCell n cell → own (account_at v j) r cell ≤ known (account_at heard_by i) r j cell
  shows cell has =
      let b = account_at v j in
      let a = account_at v i in
      let same_b = is.sound.family.same_records j there_v in
      let same_a = is.sound.family.same_records i below_v in
      omega (
        arith,
        ap (λ c. known c r j cell) (same_account (told_by v j) i (hears a d.rows) (omega (arith, is.sound.number, below_v))),
        known_other (hears a d.rows) r j cell (λ e. apart (e ∙ is.sound.family.same_site i below_v)),
        same_shown a.origin.layout v.layout same_a d.rows r j cell,
        same_shown (layout_of b) v.layout same_b d.rows r j cell,
        snapshot_shows (view_of b) r j cell (subst (λ (records : List RecordSpec). r < length records) (sym same_b) is.record_there)
            (omega (arith, is.all_known j there)) (subst (λ (m : ℕ). HasCell m cell) (sym (is.all_known j there)) has),
        ap (λ x. known b r x cell) (is.sound.family.same_site j there_v),
        known_own b r cell,
      )

  heard : HasHeard r heard_by i j
  heard = record {
    outs = omega (arith, same_own v heard_by calm j r (Out i), shows (Out i) below);
    anns = omega (arith, same_own v heard_by calm j r Ann, shows Ann tt);
    fins = omega (arith, same_own v heard_by calm j r Fin, shows Fin tt);
  }

  hears_one : Leads r w (λ x. IsCalm v x × HasHeard r x i j) v
  hears_one = record {
    events = Send j ∷ Take i (length v.sent) ∷ [];
    fair = (tt, (tt, tt));
    reaches = subst (λ (x : World). IsCalm v x × HasHeard r x i j) (sym both) (calm, heard);
  }

hear : (n r w h i j : ℕ) (v : World) → IsReady n r w h v → i < n → j < n → Leads r w (λ x. IsCalm v x × HasHeard r x i j) v
hear n r w h i j v is below there = at (cases_eq j i)
  where
    at : (j ≡ i) ⊎ (j ≡ i → ⊥) → Leads r w (λ x. IsCalm v x × HasHeard r x i j) v
    at (inl e) =
        stays r w (λ x. IsCalm v x × HasHeard r x i j) v
        (calm_same v is.sound, subst (HasHeard r v i) (sym e) (heard_itself r v i is.sound (omega (arith, is.sites))))
    at (inr ne) = hears_one n r w h i j v is below there ne

-- site i has heard the first sites
hear_first : (m n r w h i : ℕ) (v : World) → IsReady n r w h v → i < n → m ≤ n → Leads r w (λ x. IsCalm v x × ((j : ℕ) → j < m → HasHeard r x i j)) v
hear_first zero n r w h i v is below few =
    stays r w (λ x. IsCalm v x × ((j : ℕ) → j < zero → HasHeard r x i j)) v (calm_same v is.sound, λ j lower. absurd (omega arith))
hear_first (suc m) n r w h i v is below few =
    leads_on r w (λ x. IsCalm v x × ((j : ℕ) → j < m → HasHeard r x i j)) (λ x. IsCalm v x × ((j : ℕ) → j < suc m → HasHeard r x i j)) v (hear_first m n r w h i v is below (omega arith)) (λ x before.
    leads_on r w (λ z. IsCalm x z × HasHeard r z i m) (λ x. IsCalm v x × ((j : ℕ) → j < suc m → HasHeard r x i j)) x (hear n r w h i m x (calm_ready n r w h v x is before.0) below (omega arith)) (λ z now.
    stays r w (λ x. IsCalm v x × ((j : ℕ) → j < suc m → HasHeard r x i j)) z (calm_then v x z before.0 now.0, λ j lower. each x z before.1 now.0 now.1 j lower (cases_eq j m))))
  where
    each : (x z : World) → ((j : ℕ) → j < m → HasHeard r x i j) → IsCalm x z → HasHeard r z i m → (j : ℕ) → j < suc m → (j ≡ m) ⊎ (j ≡ m → ⊥) → HasHeard r z i j
    each x z earlier calm here j lower (inl e) = subst (HasHeard r z i) (sym e) here
    each x z earlier calm here j lower (inr ne) = calm_heard r x z i j calm (earlier j (omega arith))

-- the first sites have heard all
pub hear_all : (m n r w h : ℕ) (v : World) → IsReady n r w h v → m ≤ n → Leads r w (λ x. IsCalm v x × ((i : ℕ) → i < m → (j : ℕ) → j < n → HasHeard r x i j)) v
hear_all zero n r w h v is few =
    stays r w (λ x. IsCalm v x × ((i : ℕ) → i < zero → (j : ℕ) → j < n → HasHeard r x i j)) v (calm_same v is.sound, λ i lower. absurd (omega arith))
hear_all (suc m) n r w h v is few =
    leads_on r w (λ x. IsCalm v x × ((i : ℕ) → i < m → (j : ℕ) → j < n → HasHeard r x i j)) (λ x. IsCalm v x × ((i : ℕ) → i < suc m → (j : ℕ) → j < n → HasHeard r x i j)) v (hear_all m n r w h v is (omega arith)) (λ x before.
    leads_on r w (λ z. IsCalm x z × ((j : ℕ) → j < n → HasHeard r z m j)) (λ x. IsCalm v x × ((i : ℕ) → i < suc m → (j : ℕ) → j < n → HasHeard r x i j)) x (hear_first n n r w h m x (calm_ready n r w h v x is before.0) (omega arith) (omega arith)) (λ z now.
    stays r w (λ x. IsCalm v x × ((i : ℕ) → i < suc m → (j : ℕ) → j < n → HasHeard r x i j)) z (calm_then v x z before.0 now.0, λ i lower. each x z before.1 now.0 now.1 i lower (cases_eq i m))))
  where
    each : (x z : World) → ((i : ℕ) → i < m → (j : ℕ) → j < n → HasHeard r x i j) → IsCalm x z → ((j : ℕ) → j < n → HasHeard r z m j) → (i : ℕ) → i < suc m → (i ≡ m) ⊎ (i ≡ m → ⊥) → (j : ℕ) → j < n → HasHeard r z i j
    each x z earlier calm here i lower (inl e) = subst (λ (y : ℕ). (j : ℕ) → j < n → HasHeard r z y j) (sym e) here
    each x z earlier calm here i lower (inr ne) = λ j below. calm_heard r x z i j calm (earlier i (omega arith) j below)
