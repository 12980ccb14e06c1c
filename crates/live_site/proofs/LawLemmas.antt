-- What a delta that is merged gives, and that no message gives too much.
use Rattle.std.proofs.Common.{◌≡◌, ℕ, ◌+◌, ◌-◌, ◌<◌, ◌≤◌, ◌⊎◌, inl, inr, Bool, true, false, cond, eqb, ltb, length, Option, Some, None, refl, sym, ap, subst, ◌∙◌, arith}
use Rattle.std.specs.Prelude.{slice_get}
use Rattle.std.proofs.lemmas.Bool.{cases_Bool, cases_eq, eq-eqb, ne_eqb, le-ltb, lt-ltb, ltb-false, cond-true, cond-false}
use Rattle.merge_core.specs.declared.cell.Cell.{Cell}
use Rattle.merge_core.specs.declared.cell.Cell.TheVariants.{Out, Taken}
use Rattle.merge_core.specs.Delta.{DeltaState}
use Rattle.merge_core.specs.Layout.{shape_of}
use Rattle.merge_core.specs.Naming.{shown_by}
use Rattle.merge_core.specs.Sums.{one_if, number_of_cells, least_below}
use Rattle.merge_core.proofs.SumLemmas.{total_same, total_add, total_member}
use Rattle.admission_model.specs.declared.ask.Call.TheVariants.{Merge}
use Rattle.admission_model.specs.declared.reply.Refusal.{Refusal}
use Rattle.admission_model.specs.Account.{Account, layout_of, own, seats_in}
use Rattle.admission_model.specs.Knowledge.{hears, known, told}
use Rattle.admission_model.specs.Merging.{tells_too_much}
use Rattle.admission_model.specs.Reached.{IsReached}
use Rattle.admission_model.specs.Serving.{after, reason, unless_refused}
use Rattle.admission_model.specs.Sound.{IsSound}
use Rattle.admission_model.specs.View.{gained, rights_of, spent, view_of}
use Rattle.admission_model.proofs.LawLemmas.{sound_reached}
use Rattle.admission_model.proofs.LeastLemmas.{least_below-none, least_below-some}
use Rattle.admission_core.proofs.JoiningLemmas.{reason-accepted}
use Rattle.multi_site_world.specs.declared.event.Event.{Event}
use Rattle.multi_site_world.specs.declared.event.Event.TheVariants.{Take, Thin}
use Rattle.multi_site_world.specs.World.{World, account_at, happens, place_of, thin_message, with_account, world_here, world_taken}
use Rattle.multi_site_world.proofs.EventLemmas.{sound_happens}
use Rattle.multi_site_world.proofs.FamilyLemmas.{conserved, same_seats, same_shown}
use Rattle.multi_site_world.proofs.LawLemmas.{sent_before}
use Rattle.multi_site_world.proofs.WorldLemmas.{IsSoundWorld, same_account}
use Rattle.rebuild_laws.specs.Groups.{IsRebuiltWorld}
use Rattle.rebuild_laws.proofs.RebuildLaw.{rebuilt_reached, sound_rebuilt_world}
use Rattle.live_site.specs.Overfull.{Fits, given, gives_too_much, lacking}

-- a delta that nothing refuses, at an account that steps lead to
module _ (a : Account) (reached : IsReached a) (d : DeltaState) (free : reason (view_of a) (Merge d) ≡ None) where
  sound : IsSound a
  sound = sound_reached a reached

  abbrev i : ℕ
  i = a.origin.site

  abbrev b : Account
  b = hears a d.rows

  heard : after a (Merge d) ≡ b
  heard = ap (λ (o : Option Refusal). unless_refused o a b) free

  -- the rows show no more of the site's own counter than it did
  not_ahead : (r : ℕ) → r < length a.origin.layout.records → shown_by (shape_of (layout_of a)) d.rows r i (Out i) ≤ known a r i (Out i)
  not_ahead r below = ltb-false (known a r i (Out i)) (shown_by (shape_of (layout_of a)) d.rows r i (Out i)) (at (cases_Bool (ltb (known a r i (Out i)) (shown_by (shape_of (layout_of a)) d.rows r i (Out i)))))
    where
      test : Cell → Bool
      test cell = ltb (known a r i cell) (shown_by (shape_of (layout_of a)) d.rows r i cell)

      quiet : number_of_cells a.sites (λ cell. ltb (known a r i cell) (shown_by (shape_of (layout_of a)) d.rows r i cell)) ≤ 0
      quiet = ltb-false 0 (number_of_cells a.sites (λ cell. ltb (known a r i cell) (shown_by (shape_of (layout_of a)) d.rows r i cell)))
          (least_below-none (length a.origin.layout.records) (tells_too_much (view_of a) d.rows) (reason-accepted (view_of a) d free).behind r below)

      none : one_if (ltb (known a r i (Out i)) (shown_by (shape_of (layout_of a)) d.rows r i (Out i))) ≤ 0
      none = omega (arith, quiet, total_member a.sites i (λ j. one_if (ltb (known a r i (Out j)) (shown_by (shape_of (layout_of a)) d.rows r i (Out j)))) sound.site_there)

      at : (ltb (known a r i (Out i)) (shown_by (shape_of (layout_of a)) d.rows r i (Out i)) ≡ true) ⊎ (ltb (known a r i (Out i)) (shown_by (shape_of (layout_of a)) d.rows r i (Out i)) ≡ false)
          → ltb (known a r i (Out i)) (shown_by (shape_of (layout_of a)) d.rows r i (Out i)) ≡ false
      at (inl e) = absurd (omega (arith, none, ap one_if e))
      at (inr e) = e

  -- each site's counter rises by what the rows show beyond it
  risen : (r : ℕ) → r < length a.origin.layout.records → (j : ℕ) → known b r j (Out i) ≡ known a r j (Out i) + (shown_by (shape_of (layout_of a)) d.rows r j (Out i) - known a r j (Out i))
  risen r below j = at (cases_eq j i)
    where
      at : (j ≡ i) ⊎ (j ≡ i → ⊥) → known b r j (Out i) ≡ known a r j (Out i) + (shown_by (shape_of (layout_of a)) d.rows r j (Out i) - known a r j (Out i))
      at (inl e) =
          let own_b = cond-true {A = ℕ} (eqb j i) (own b r (Out i)) (told b r j (Out i)) (eq-eqb j i e) in
          let own_a = cond-true {A = ℕ} (eqb j i) (own a r (Out i)) (told a r j (Out i)) (eq-eqb j i e) in
          let low : shown_by (shape_of (layout_of a)) d.rows r j (Out i) ≤ known a r j (Out i) =
          subst (λ (s : ℕ). shown_by (shape_of (layout_of a)) d.rows r s (Out i) ≤ known a r s (Out i)) (sym e) (not_ahead r below) in
          omega (arith, own_b, own_a, low)
      at (inr ne) =
          let told_b = cond-false {A = ℕ} (eqb j i) (own b r (Out i)) (told b r j (Out i)) (ne_eqb j i ne) in
          let told_a = cond-false {A = ℕ} (eqb j i) (own a r (Out i)) (told a r j (Out i)) (ne_eqb j i ne) in
          omega (arith, told_b, told_a, same_shown a.origin.layout (layout_of a) refl d.rows r j (Out i))

  gained_more : (r : ℕ) → r < length a.origin.layout.records → gained (view_of b) r ≡ gained (view_of a) r + given (view_of a) d.rows r
  gained_more r below =
      total_same a.sites (λ j. known b r j (Out i)) (λ j. known a r j (Out i) + (shown_by (shape_of (layout_of a)) d.rows r j (Out i) - known a r j (Out i))) (λ j there. risen r below j)
      ∙ total_add a.sites (λ j. known a r j (Out i)) (λ j. shown_by (shape_of (layout_of a)) d.rows r j (Out i) - known a r j (Out i))

  own_same : (r : ℕ) (cell : Cell) → known b r i cell ≡ known a r i cell
  own_same r cell =
      cond-true {A = ℕ} (eqb i i) (own b r cell) (told b r i cell) (eq-eqb i i refl)
      ∙ sym (cond-true {A = ℕ} (eqb i i) (own a r cell) (told a r i cell) (eq-eqb i i refl))

  spent_same : (r : ℕ) → spent (view_of b) r ≡ spent (view_of a) r
  spent_same r =
      omega (
        arith,
        total_same a.sites (λ j. cond (eqb j i) 0 (known b r i (Out j))) (λ j. cond (eqb j i) 0 (known a r i (Out j))) (λ j there. ap (λ (n : ℕ). cond (eqb j i) 0 n) (own_same r (Out j))),
        own_same r Taken,
      )

  pub rights_after : (r : ℕ) → r < length a.origin.layout.records → rights_of (view_of (after a (Merge d))) r ≡ rights_of (view_of a) r + given (view_of a) d.rows r
  rights_after r below =
      ap (λ (x : Account). rights_of (view_of x) r) heard
      ∙ omega (arith, gained_more r below, spent_same r, (sound.balanced r).affordable)

-- where no number below n passes
none_below : (n : ℕ) (test : ℕ → Bool) → ((j : ℕ) → j < n → test j ≡ false) → least_below n test ≡ None
none_below n test none = at (least_below n test) refl
  where
    at : (o : Option ℕ) → least_below n test ≡ o → least_below n test ≡ None
    at None e = e
    at (Some k) e =
        let is = least_below-some n test k e in
        let clash : true ≡ false = sym is.passes ∙ none k is.below in
        cc

-- a site of a sound world that takes a delta, which leaves the world sound
fits_sound : (w : World) (i : ℕ) (delta : DeltaState) → IsSoundWorld w → i < w.layout.sites → IsReached (account_at w i) → IsSoundWorld (world_taken w i (Some delta)) → Fits (account_at w i) (Merge delta)
fits_sound w i delta sound below reached next free = none_below (length a.origin.layout.records) (gives_too_much (view_of a) delta.rows) fits
  where
    a : Account
    a = account_at w i

    v : World
    v = with_account w i (after (account_at w i) (Merge delta))

    fits : (r : ℕ) → r < length (account_at w i).origin.layout.records → gives_too_much (view_of (account_at w i)) delta.rows r ≡ false
    fits r there =
        let b = after (account_at w i) (Merge delta) in
        let u = with_account w i b in
        let kept = conserved w.layout (account_at u) r next.layout next.family (sent_before u r next) in
        let mine = total_member w.layout.sites i (λ j. rights_of (view_of (account_at u j)) r) below in
        let here : rights_of (view_of (account_at u i)) r ≡ rights_of (view_of b) r =
        ap (λ (x : Account). rights_of (view_of x) r) (same_account w i b (omega (arith, sound.number, below))) in
        let seats : seats_in (layout_of (account_at w i)) r ≡ seats_in w.layout r = same_seats (layout_of (account_at w i)) w.layout (sound.family.same_records i below) r in
        le-ltb (lacking (view_of (account_at w i)) r) (given (view_of (account_at w i)) delta.rows r)
        (omega (arith, kept, mine, here, seats, rights_after (account_at w i) reached delta free r there))

-- the same of an event that brings the delta
fits_event : (w : World) (i : ℕ) (delta : DeltaState) (event : Event) → IsRebuiltWorld w → i < w.layout.sites → place_of event ≡ i
    → world_here w event ≡ world_taken w i (Some delta) → Fits (account_at w i) (Merge delta)
fits_event w i delta event is below place here =
    let sound = sound_rebuilt_world w is in
    let lower : place_of event < length w.sites = omega (arith, sound.number, below, place) in
    let taken : happens w event ≡ world_taken w i (Some delta) = cond-true (ltb (place_of event) (length w.sites)) (world_here w event) w (lt_ltb lower) ∙ here in
    fits_sound w i delta sound below (rebuilt_reached w is i below) (subst IsSoundWorld taken (sound_happens w event sound))
  where
    lt_ltb : place_of event < length w.sites → ltb (place_of event) (length w.sites) ≡ true
    lt_ltb lower = lt-ltb (place_of event) (length w.sites) lower

pub fits_message : (w : World) → IsRebuiltWorld w → (i k : ℕ) → i < w.layout.sites → (delta : DeltaState) → slice_get w.sent k ≡ Some delta → Fits (account_at w i) (Merge delta)
fits_message w is i k below delta there = fits_event w i delta (Take i k) is below refl (ap (world_taken w i) there)

pub fits_thin : (w : World) → IsRebuiltWorld w → (i k l : ℕ) → i < w.layout.sites → (delta : DeltaState) → thin_message (slice_get w.sent k) (slice_get w.sent l) ≡ Some delta
    → Fits (account_at w i) (Merge delta)
fits_thin w is i k l below delta there = fits_event w i delta (Thin i k l) is below refl (ap (world_taken w i) there)
