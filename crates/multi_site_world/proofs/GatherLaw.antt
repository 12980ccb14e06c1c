-- The law of gathering, from a reached world.
use Rattle.std.proofs.Common.{◌≡◌, ◌≢◌, ℕ, ◌<◌, ◌≤◌, ◌⊎◌, inl, inr, true, false, cond, eqb, List, [], ◌∷◌, length, Option, Some, None, refl, ap, ◌∙◌, arith}
use Rattle.std.proofs.lemmas.Bool.{cases_Bool, eqb-true, cond-true, cond-false, ne_eqb}
use Rattle.merge_core.specs.declared.cell.Cell.TheVariants.{Out}
use Rattle.session_list.specs.declared.session.Phase.{Phase}
use Rattle.session_list.specs.declared.session.Phase.TheVariants.{Reader, Waiting, Writer}
use Rattle.merge_core.specs.Sums.{total_others}
use Rattle.admission_model.specs.Account.{Account, Key, seats_in, own, inside, phase_of, arrivals, weight, on_phase}
use Rattle.admission_model.specs.Knowledge.{known}
use Rattle.admission_model.specs.View.{view_of, rights_of}
use Rattle.merge_core.proofs.SumLemmas.{total_member}
use Rattle.admission_model.proofs.KeyLemmas.{keys_total}
use Rattle.admission_model.proofs.SessionLemmas.{adds, sessions-keys}
use Rattle.multi_site_world.specs.World.{World, account_at, run, replies}
use Rattle.multi_site_world.specs.Laws.{IsReachedWorld, in_flight, all_in_flight, IsInside, gathering, AreGathered, MayGather, CanGather}
use Rattle.multi_site_world.proofs.WorldLemmas.{IsSoundWorld}
use Rattle.multi_site_world.proofs.EventLemmas.{sound_reached}
use Rattle.multi_site_world.proofs.GatherLemmas.{IsGathering}
use Rattle.multi_site_world.proofs.GatherSteps.{gather_all, gather_answers}

keys_none : (f : ℕ → ℕ → ℕ) → ((r h : ℕ) → f r h ≡ 0) → (ks : List Key) → keys_total f ks ≡ 0
keys_none f none [] = refl
keys_none f none (k ∷ ks) = omega (arith, none k.r k.h, keys_none f none ks)

-- where nobody is inside, no seats are
empty_inside : (a : Account) (r : ℕ) → ((h : ℕ) → ¬ IsInside (phase_of a r h)) → inside a r ≡ 0
empty_inside a r nobody =
    let value = weight (seats_in a.origin.layout r) in
    sessions-keys value r (phase_of a) (arrivals a.origin a.done)
    ∙ keys_none (adds value r (phase_of a)) (λ r2 h. at r2 h (cases_Bool (eqb r2 r))) (arrivals a.origin a.done)
  where
    outside : (o : Option Phase) → ¬ IsInside o → on_phase (weight (seats_in a.origin.layout r)) o ≡ 0
    outside None out = refl
    outside (Some Reader) out = absurd (out tt)
    outside (Some Waiting) out = refl
    outside (Some Writer) out = absurd (out tt)

    at : (r2 h : ℕ) → (eqb r2 r ≡ true) ⊎ (eqb r2 r ≡ false) → adds (weight (seats_in a.origin.layout r)) r (phase_of a) r2 h ≡ 0
    at r2 h (inl e) =
        cond-true (eqb r2 r) (on_phase (weight (seats_in a.origin.layout r)) (phase_of a r2 h)) 0 e
        ∙ (ap (λ x. on_phase (weight (seats_in a.origin.layout r)) (phase_of a x h)) (eqb-true r2 r e)
        ∙ outside (phase_of a r h) (nobody h))
    at r2 h (inr e) = cond-false (eqb r2 r) (on_phase (weight (seats_in a.origin.layout r)) (phase_of a r2 h)) 0 e

-- where nothing is in flight, nothing is between two sites
no_flight : (accounts : ℕ → Account) (n r i j : ℕ) → all_in_flight accounts n r ≡ 0 → i < n → j < n → j ≢ i → own (accounts j) r (Out i) ≤ known (accounts i) r j (Out i)
no_flight accounts n r i j none below there apart =
    let one = total_member n i (λ x. total_others n x (λ y. in_flight accounts r y x)) below in
    let two = total_member n j (λ y. cond (eqb y i) 0 (in_flight accounts r y i)) there in
    omega (arith, none, one, two, cond-false {A = ℕ} (eqb j i) 0 (in_flight accounts r j i) (ne_eqb j i apart))

begins : (u : World) (r w : ℕ) → IsSoundWorld u → MayGather u r w → IsGathering u r w
begins u r w sound may = record {
  sound = sound;
  record_there = may.record_there;
  site_there = may.site_there;
  all_known = may.all_known;
  empty = λ i below. empty_inside (account_at u i) r (λ h. may.nobody_inside i h below);
  quiet = λ i j below there apart. no_flight (account_at u) u.layout.sites r i j may.nothing_in_flight below there apart;
  shown = may.least_writer;
}

pub gathers : (u : World) → IsReachedWorld u → (r w : ℕ) (others : List ℕ) → CanGather u r w others → rights_of (view_of (account_at (run (gathering r w (length u.sent) others) u) w)) r ≡ seats_in u.layout r
gathers u is r w others can =
    gather_all others u r w (begins u r w (sound_reached u is) can.may) can.the_others.others_alone can.never_full (λ j there not_w. inr (can.the_others.all_others j there not_w))

pub gathers_answered : (u : World) → IsReachedWorld u → (r w : ℕ) (others : List ℕ) → CanGather u r w others → AreGathered (replies (gathering r w (length u.sent) others) u)
gathers_answered u is r w others can = gather_answers others u r w (begins u r w (sound_reached u is) can.may) can.the_others.others_alone can.never_full
