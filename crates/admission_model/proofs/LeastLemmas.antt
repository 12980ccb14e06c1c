-- The least number that passes a test, and the plan that rests on it.
use Rattle.std.proofs.Common.{◌≡◌, ◌≢◌, ℕ, zero, suc, ◌+◌, ◌-◌, ◌<◌, ◌≤◌, ◌⊎◌, inl, inr, Bool, true, false, ◌&&◌, ◌||◌, cond, eqb, ltb, leb, Option, Some, None, refl, sym, ap, subst, ◌∙◌, arith}
use Rattle.std.proofs.lemmas.Bool.{cases_eq, cases_Bool, cases_lt, eqb-false, leb-true, ltb-true, lt-ltb, le-ltb, and_parts, or_parts, cond-true, cond-false}
use Rattle.std.proofs.lemmas.Option.{same_Some}
use Rattle.admission_model.specs.declared.reply.Plan.{Plan}
use Rattle.merge_core.specs.Sums.{least_below, first_of_two}
use Rattle.admission_model.specs.Account.{seats_in}
use Rattle.admission_model.specs.Laws.{IsFeasible}
use Rattle.admission_model.specs.View.{View, rights_of, fair_share, next_site, plan_for, plan_of, first_unfinished, shows_writer}

-- k is the least number below n that passes the test
pub record IsLeast (n : ℕ) (test : ℕ → Bool) (k : ℕ) : Type 0 where
  pub below : k < n
  pub passes : test k ≡ true
  pub least : (j : ℕ) → j < k → test j ≡ false

pub least_below-none : (n : ℕ) (test : ℕ → Bool) → least_below n test ≡ None → (j : ℕ) → j < n → test j ≡ false
least_below-none zero test none j below = absurd (omega arith)
least_below-none (suc n) test none j below =
    at (least_below n test) refl none (cases_eq j n) (least_below-none n test)
  where
    last : (b : Bool) → cond b (Some n) None ≡ None → b ≡ false
    last true e = cc
    last false e = refl

    at : (o : Option ℕ) → least_below n test ≡ o → first_of_two o (cond (test n) (Some n) None) ≡ None → (j ≡ n) ⊎ (j ≡ n → ⊥) → (least_below n test ≡ None → (i : ℕ) → i < n → test i ≡ false) → test j ≡ false
    at (Some k) e gone place earlier = cc
    at None e gone (inl same) earlier = ap test same ∙ last (test n) gone
    at None e gone (inr apart) earlier = earlier e j (omega arith)

pub least_below-some : (n : ℕ) (test : ℕ → Bool) (k : ℕ) → least_below n test ≡ Some k → IsLeast n test k
least_below-some zero test k some = cc
least_below-some (suc n) test k some = at (least_below n test) refl some (least_below-some n test k)
  where
    last : (b : Bool) → test n ≡ b → cond b (Some n) None ≡ Some k → least_below n test ≡ None → IsLeast (suc n) test k
    last true here e none =
        let same : n ≡ k = same_Some n k e in
        record {
          below = omega arith;
          passes = ap test (sym same) ∙ here;
          least = λ j lower. least_below-none n test none j (omega arith);
        }
    last false here e none = cc

    at : (o : Option ℕ) → least_below n test ≡ o → first_of_two o (cond (test n) (Some n) None) ≡ Some k → (least_below n test ≡ Some k → IsLeast n test k) → IsLeast (suc n) test k
    at (Some m) e found earlier =
        let is = earlier (e ∙ found) in
        record { below = omega (arith, is.below); passes = is.passes; least = is.least }
    at None e found earlier = last (test n) refl found e

-- where one number below n passes the test, the least such one is found
pub least_below-found : (n : ℕ) (test : ℕ → Bool) (k : ℕ) → IsLeast n test k → least_below n test ≡ Some k
least_below-found n test k is = at (least_below n test) refl
  where
    at : (o : Option ℕ) → least_below n test ≡ o → least_below n test ≡ Some k
    at None e = let gone : test k ≡ false = least_below-none n test e k is.below in
        let passes : test k ≡ true = is.passes in cc
    at (Some m) e =
        let found = least_below-some n test m e in
        let same : m ≡ k = meet found (cases_lt m k) (cases_lt k m) in
        e ∙ ap {B = Option ℕ} Some same
      where
        meet : IsLeast n test m → (m < k) ⊎ (k ≤ m) → (k < m) ⊎ (m ≤ k) → m ≡ k
        meet found (inl lower) other =
            let no : test m ≡ false = is.least m lower in
            let yes_it : test m ≡ true = found.passes in cc
        meet found (inr upper) (inl lower) =
            let no : test k ≡ false = found.least k lower in
            let yes_it : test k ≡ true = is.passes in cc
        meet found (inr upper) (inr lower) = omega arith

next_there : (n i : ℕ) → i < n → 2 ≤ n → (next_site n i < n) × (next_site n i ≢ i)
next_there n i below two = at (cases_lt (i + 1) n)
  where
    at : (i + 1 < n) ⊎ (n ≤ i + 1) → (next_site n i < n) × (next_site n i ≢ i)
    at (inl more) =
        let e = cond-true {A = ℕ} (ltb (i + 1) n) (i + 1) 0 (lt-ltb (i + 1) n more) in
        (omega (arith, e), λ same. absurd (omega (arith, e)))
    at (inr last) =
        let e = cond-false {A = ℕ} (ltb (i + 1) n) (i + 1) 0 (le-ltb (i + 1) n last) in
        (omega (arith, e), λ same. absurd (omega (arith, e)))

plan_for-fits : (v : View) (r : ℕ) (p : Plan) → v.site < v.layout.sites → (o : Option ℕ) → ((w : ℕ) → o ≡ Some w → w < v.layout.sites) → plan_for v r o ≡ Some p → IsFeasible v r p
plan_for-fits v r p below (Some w) within e = at (cases_Bool ((eqb w v.site) || (eqb (rights_of v r) 0)))
  where
    all_rights : Plan
    all_rights = record { to = w; seats = rights_of v r }

    at : (((eqb w v.site) || (eqb (rights_of v r) 0)) ≡ true) ⊎ (((eqb w v.site) || (eqb (rights_of v r) 0)) ≡ false) → IsFeasible v r p
    at (inl t) =
        let gone : ◌≡◌ {A = Option Plan} None (Some p) = sym (cond-true ((eqb w v.site) || (eqb (rights_of v r) 0)) None (Some all_rights) t) ∙ e in cc
    at (inr f) =
        let same : all_rights ≡ p = same_Some all_rights p (sym (cond-false ((eqb w v.site) || (eqb (rights_of v r) 0)) None (Some all_rights) f) ∙ e) in
        let to : w ≡ p.to = ap (λ (q : Plan). q.to) same in
        let seats : rights_of v r ≡ p.seats = ap (λ (q : Plan). q.seats) same in
        let apart = eqb-false w v.site (or_parts (eqb w v.site) (eqb (rights_of v r) 0) f).0 in
        let some = eqb-false (rights_of v r) 0 (or_parts (eqb w v.site) (eqb (rights_of v r) 0) f).1 in
        let there = within w refl in
        record { there = omega arith; elsewhere = λ here. apart (to ∙ here); some = omega arith; enough = omega arith }
plan_for-fits v r p below None within e = at (cases_Bool (leb 2 v.layout.sites && ltb (fair_share (seats_in v.layout r) v.layout.sites) (rights_of v r)))
  where
    excess : Plan
    excess = record { to = next_site v.layout.sites v.site; seats = rights_of v r - fair_share (seats_in v.layout r) v.layout.sites }

    at : ((leb 2 v.layout.sites && ltb (fair_share (seats_in v.layout r) v.layout.sites) (rights_of v r)) ≡ true) ⊎ ((leb 2 v.layout.sites && ltb (fair_share (seats_in v.layout r) v.layout.sites) (rights_of v r)) ≡ false) → IsFeasible v r p
    at (inr f) =
        let gone : ◌≡◌ {A = Option Plan} None (Some p) = sym (cond-false (leb 2 v.layout.sites && ltb (fair_share (seats_in v.layout r) v.layout.sites) (rights_of v r)) (Some excess) None f) ∙ e in cc
    at (inl t) =
        let same : excess ≡ p = same_Some excess p (sym (cond-true (leb 2 v.layout.sites && ltb (fair_share (seats_in v.layout r) v.layout.sites) (rights_of v r)) (Some excess) None t) ∙ e) in
        let to : next_site v.layout.sites v.site ≡ p.to = ap (λ (q : Plan). q.to) same in
        let seats : rights_of v r - fair_share (seats_in v.layout r) v.layout.sites ≡ p.seats = ap (λ (q : Plan). q.seats) same in
        let two = leb-true 2 v.layout.sites (and_parts (leb 2 v.layout.sites) (ltb (fair_share (seats_in v.layout r) v.layout.sites) (rights_of v r)) t).0 in
        let above = ltb-true (fair_share (seats_in v.layout r) v.layout.sites) (rights_of v r) (and_parts (leb 2 v.layout.sites) (ltb (fair_share (seats_in v.layout r) v.layout.sites) (rights_of v r)) t).1 in
        let next = next_there v.layout.sites v.site below two in
        record { there = subst (λ (x : ℕ). x < v.layout.sites) to next.0; elsewhere = λ here. next.1 (to ∙ here); some = omega arith; enough = omega arith }

pub plan_of-fits : (v : View) (r : ℕ) (p : Plan) → v.site < v.layout.sites → plan_of v r ≡ Some p → IsFeasible v r p
plan_of-fits v r p below e =
    plan_for-fits v r p below (first_unfinished v r) (λ w some. (least_below-some v.layout.sites (shows_writer v r) w some).below) e
