-- The premises of the law are met.
use Rattle.std.proofs.Common.{◌≡◌, ℕ, zero, suc, ◌<◌, ◌≤◌, ◌&&◌, inl, inr, Bool, cond, eqb, true, false, [], ◌∷◌, ◌++◌, ◌⊎◌, refl, sym, subst, ◌∙◌, arith}
use Rattle.std.specs.Prelude.{IsTrue}
use Rattle.std.proofs.lemmas.List.Elements.{All-from_recursion}
use Rattle.std.proofs.lemmas.Bool.{cases_eq, eqb-true, eq-eqb, ne_eqb, cond-false, cond_both, and_left, and_right, or_from, or_left, or_right, false≢true}
use Rattle.merge_core.specs.Counts.{counter_limit}
use Rattle.merge_core.specs.Layout.{IsLayout, has_good_name}
use Rattle.multi_site_world.specs.World.{account_at, run}
use Rattle.multi_site_world.specs.Laws.{IsReachedWorld}
use Rattle.multi_site_world.specs.declared.event.Event.TheVariants.{Send}
use Rattle.multi_site_world.specs.Examples.{writer_announced, writer_helped}
use Rattle.multi_site_world.specs.Instances.{three_sites, writer_there, third_message}
use Rattle.multi_site_world.proofs.EventLemmas.{sound_reached}
use Rattle.rebuild_laws.specs.Groups.{lost_alone, CanSpare, MayMove, MayLose, IsTeller, new_group}
use Rattle.rebuild_laws.specs.Instances.{site_1_lost, seats_handed_on, nothing_settled, seats_settled}
use Rattle.rebuild_laws.proofs.GroupLemmas.{settled_alone, spares_alone}

-- the world is reached
three_are : IsLayout three_sites
three_are = record {
  some_sites = omega arith;
  few_sites = omega arith;
  some_records = omega arith;
  few_records = omega arith;
  names = All-from_recursion (λ r. IsTrue (has_good_name r)) three_sites.records (refl, tt);
  apart = refl;
  seats = All-from_recursion (λ r. (1 ≤ r.seats) × (r.seats ≤ 65535)) three_sites.records ((omega arith, omega arith), tt);
  homes = All-from_recursion (λ r. r.home < 3) three_sites.records (omega arith, tt);
  problems = All-from_recursion (λ r. (r.problem ≡ 1) ⊎ (r.problem ≡ 2)) three_sites.records (inr refl, tt);
}

writer_reached : IsReachedWorld writer_there
writer_reached = record { whole = three_sites; is_layout = three_are; first = 3; events = writer_announced ++ writer_helped; reached = refl }

-- site 1 is lost, and may be built again from what the two others sent
pub may_lose : MayLose writer_there site_1_lost
may_lose = record {
  moves = record {
    few = omega arith;
    lost_there = λ i e. omega (arith, eqb-true i 1 e);
    unbegun = λ i past below. absurd (omega arith);
    settled = settled_alone writer_there 1;
    can_spare = λ i e. subst (λ (d : ℕ). CanSpare writer_there (lost_alone 1) d) (sym (eqb-true i 1 e)) (spares_alone writer_there 1 (sound_reached writer_there writer_reached) (omega arith));
  };
  stages = (
    record {
      there = omega arith;
      is_lost = refl;
      was_silent = refl;
      quiet = ((omega arith, refl), ((omega arith, refl), tt));
      none_more = none_more;
      told = record { sent = ((0, refl), ((1, refl), tt)); others = ((omega arith, refl), ((omega arith, refl), tt)); each = each };
    },
    tt,
  );
}
  where
    none_more : (i : ℕ) → i < 3 → eqb i 1 ≡ false → (account_at (run (Send 0 ∷ (Send 2 ∷ [])) (new_group writer_there site_1_lost.lost)) i).sites ≤ 3
    none_more zero below left = omega arith
    none_more (suc zero) below left = cc
    none_more (suc (suc zero)) below left = omega arith
    none_more (suc (suc (suc i))) below left = absurd (omega arith)

    each : (i : ℕ) → i < 3 → eqb i 1 ≡ false → IsTeller i (third_message ∷ (record { from = 2; rows = [] } ∷ []))
    each zero below left = inl refl
    each (suc zero) below left = cc
    each (suc (suc zero)) below left = inr (inl refl)
    each (suc (suc (suc i))) below left = absurd (omega arith)

-- site 1 gave on what site 0 had given to it
pub cannot_spare : ¬ CanSpare seats_handed_on nothing_settled 1
cannot_spare can = absurd (omega (arith, can 0))

-- .. and with what is settled each can spare what it gave
pub may_settle : MayMove seats_handed_on seats_settled 3
may_settle = record {
  few = omega arith;
  lost_there = lost_there;
  unbegun = λ i past below. absurd (omega arith);
  settled = record {
    by_lost = by_lost;
    to_lost = to_lost;
    to_others = to_others;
    of_records = of_records;
    few = few_settled;
  };
  can_spare = can_spare;
}
  where
    lost_there : (i : ℕ) → seats_settled.gone i ≡ true → i < 3
    lost_there i e = at (cases_eq i 0) (cases_eq i 1)
      where
        at : (i ≡ 0) ⊎ (i ≡ 0 → ⊥) → (i ≡ 1) ⊎ (i ≡ 1 → ⊥) → i < 3
        at (inl same) other = omega arith
        at (inr ne) (inl same) = omega arith
        at (inr ne) (inr far) = absurd (false≢true (sym (or_from (eqb i 0) (eqb i 1) (ne_eqb i 0 ne) (ne_eqb i 1 far)) ∙ e))

    -- seats are settled of record 0, from site 0 to site 1 alone
    none : (r d j : ℕ) → ((r ≡ 0) → (d ≡ 0) → (j ≡ 1) → ⊥) → seats_settled.settled r d j ≡ 0
    none r d j not_so = at (cases_eq r 0) (cases_eq d 0) (cases_eq j 1)
      where
        unless : ((eqb r 0) && ((eqb d 0) && (eqb j 1))) ≡ false → seats_settled.settled r d j ≡ 0
        unless f = cond-false {A = ℕ} ((eqb r 0) && ((eqb d 0) && (eqb j 1))) 3 0 f

        at : (r ≡ 0) ⊎ (r ≡ 0 → ⊥) → (d ≡ 0) ⊎ (d ≡ 0 → ⊥) → (j ≡ 1) ⊎ (j ≡ 1 → ⊥) → seats_settled.settled r d j ≡ 0
        at (inr ne) b c = unless (and_left (eqb r 0) ((eqb d 0) && (eqb j 1)) (ne_eqb r 0 ne))
        at (inl a) (inr ne) c = unless (and_right (eqb r 0) ((eqb d 0) && (eqb j 1)) (and_left (eqb d 0) (eqb j 1) (ne_eqb d 0 ne)))
        at (inl a) (inl b) (inr ne) = unless (and_right (eqb r 0) ((eqb d 0) && (eqb j 1)) (and_right (eqb d 0) (eqb j 1) (ne_eqb j 1 ne)))
        at (inl a) (inl b) (inl c) = absurd (not_so a b c)

    by_lost : (r d j : ℕ) → seats_settled.gone d ≡ false → seats_settled.settled r d j ≡ 0
    by_lost r d j e = none r d j (λ a b c. false≢true (sym e ∙ or_left (eqb d 0) (eqb d 1) (eq-eqb d 0 b)))

    to_lost : (r d j : ℕ) → seats_settled.gone j ≡ false → seats_settled.settled r d j ≡ 0
    to_lost r d j e = none r d j (λ a b c. false≢true (sym e ∙ or_right (eqb j 0) (eqb j 1) (eq-eqb j 1 c)))

    to_others : (r d : ℕ) → seats_settled.settled r d d ≡ 0
    to_others r d = none r d d (λ a b c. absurd (omega arith))

    of_records : (r d j : ℕ) → 1 ≤ r → seats_settled.settled r d j ≡ 0
    of_records r d j past = none r d j (λ a b c. absurd (omega arith))

    few_settled : (r d j : ℕ) → seats_settled.settled r d j ≤ counter_limit
    few_settled r d j = cond_both ((eqb r 0) && ((eqb d 0) && (eqb j 1))) 3 0 (λ x. x ≤ counter_limit) (λ e. omega arith) (λ e. omega arith)

    -- nothing is settled, given or granted of a record that is not there
    off : (r : ℕ) (b : Bool) (x y : ℕ) → cond {A = ℕ} (eqb 0 (suc r) && b) x y ≡ y
    off r b x y = cond-false {A = ℕ} (eqb 0 (suc r) && b) x y (and_left (eqb 0 (suc r)) b (ne_eqb 0 (suc r) (λ e. absurd (omega arith))))

    off_too : (r : ℕ) (b : Bool) (x y : ℕ) → cond {A = ℕ} (eqb (suc r) 0 && b) x y ≡ y
    off_too r b x y = cond-false {A = ℕ} (eqb (suc r) 0 && b) x y (and_left (eqb (suc r) 0) b (ne_eqb (suc r) 0 (λ e. absurd (omega arith))))

    can_0 : CanSpare seats_handed_on seats_settled 0
    can_0 zero = omega arith
    can_0 (suc r) = omega (arith, off_too r true 3 0, off_too r false 3 0, off r true 0 (cond (eqb 0 (suc r) && false) 3 0), off r false 3 0)

    can_1 : CanSpare seats_handed_on seats_settled 1
    can_1 zero = omega arith
    can_1 (suc r) = omega (arith, off_too r true 3 0, off_too r false 3 0, off r false 0 (cond (eqb 0 (suc r) && true) 3 0), off r true 3 0)

    can_spare : (i : ℕ) → seats_settled.gone i ≡ true → CanSpare seats_handed_on seats_settled i
    can_spare i e = at (cases_eq i 0) (cases_eq i 1)
      where
        at : (i ≡ 0) ⊎ (i ≡ 0 → ⊥) → (i ≡ 1) ⊎ (i ≡ 1 → ⊥) → CanSpare seats_handed_on seats_settled i
        at (inl same) other = subst (λ (k : ℕ). CanSpare seats_handed_on seats_settled k) (sym same) can_0
        at (inr ne) (inl same) = subst (λ (k : ℕ). CanSpare seats_handed_on seats_settled k) (sym same) can_1
        at (inr ne) (inr far) = absurd (false≢true (sym (or_from (eqb i 0) (eqb i 1) (ne_eqb i 0 ne) (ne_eqb i 1 far)) ∙ e))
