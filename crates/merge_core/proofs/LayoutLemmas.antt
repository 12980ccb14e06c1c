-- What can be wrong with a layout's records at another number of sites: their homes alone.
use Rattle.std.proofs.Common.{◌≡◌, ◌↔◌, ℕ, ◌≤◌, ◌⊎◌, inl, inr, Bool, true, false, not, ◌||◌, ◌&&◌, cond, eqb, leb, ltb, All, List, length, Option, None, Some, refl, sym, ap, subst, ◌∙◌, arith}
use Rattle.std.specs.Prelude.{IsTrue}
use Rattle.std.specs.List.{list_all}
use Rattle.std.proofs.lemmas.List.Elements.{All-weaker}
use Rattle.std.proofs.lemmas.List.Sums.{list_all-from_AllPass}
use Rattle.std.proofs.lemmas.Bool.{cond-false, le-ltb, le-leb, ne_eqb}
use Rattle.merge_core.specs.declared.layout.RecordSpec.{RecordSpec}
use Rattle.merge_core.specs.declared.layout.LayoutError.{LayoutError}
use Rattle.merge_core.specs.declared.layout.LayoutError.TheVariants.{BadHome}
use Rattle.merge_core.specs.Layout.{LayoutState, IsLayout, layout_fault, names_differ, has_good_name, has_good_seats, has_good_home, has_good_problem}

and_true : (a b : Bool) → a ≡ true → b ≡ true → (a && b) ≡ true
and_true a b x y = subst (λ (p : Bool). (p && b) ≡ true) (sym x) y

all_true : {X : Type 0} → (p : X → Bool) (P : X → Type 0) → ((x : X) → P x → p x ≡ true) → (xs : List X) → All P xs → list_all p xs ≡ true
all_true p P tells xs all = list_all-from_AllPass p xs (All-weaker P (λ x. p x ≡ true) tells xs all)

seats : (r : RecordSpec) → (1 ≤ r.seats) × (r.seats ≤ 65535) → has_good_seats r ≡ true
seats r h = and_true (leb 1 r.seats) (leb r.seats 65535) (le-leb 1 r.seats h.0) (le-leb r.seats 65535 h.1)

problem : (r : RecordSpec) → (r.problem ≡ 1) ⊎ (r.problem ≡ 2) → has_good_problem r ≡ true
problem r (inl e) = subst (λ (n : ℕ). (eqb n 1 || eqb n 2) ≡ true) (sym e) refl
problem r (inr e) = subst (λ (n : ℕ). (eqb n 1 || eqb n 2) ≡ true) (sym e) refl

-- the fault of the homes, if they have one
home_fault : Bool → Option LayoutError
home_fault b = cond (not b) (Some BadHome) None

-- at 1 to 16 sites only a home can be wrong
fault_at : (l : LayoutState) (n : ℕ) → IsLayout l → 1 ≤ n → n ≤ 16
    → layout_fault n l.records ≡ home_fault (list_all (has_good_home n) l.records)
unfolding home_fault
fault_at l n is some few =
    cond-false (eqb n 0) _ _ (ne_eqb n 0 (λ e. absurd (omega (arith, some))))
    ∙ (cond-false (ltb 16 n) _ _ (le-ltb 16 n few)
    ∙ (cond-false (eqb (length l.records) 0) _ _ (ne_eqb (length l.records) 0 (λ e. absurd (omega (arith, is.some_records))))
    ∙ (cond-false (ltb 256 (length l.records)) _ _ (le-ltb 256 (length l.records) is.few_records)
    ∙ (cond-false (not (list_all has_good_name l.records)) _ _ (ap not (all_true has_good_name _ (λ r h. h) l.records is.names))
    ∙ (cond-false (not (names_differ l.records)) _ _ (ap not is.apart)
    ∙ (cond-false (not (list_all has_good_seats l.records)) _ _ (ap not (all_true has_good_seats _ seats l.records is.seats))
    ∙ ap (cond (not (list_all (has_good_home n) l.records)) (Some BadHome))
    (cond-false (not (list_all has_good_problem l.records)) _ _ (ap not (all_true has_good_problem _ problem l.records is.problems)))))))))

told : (b : Bool) → (b ≡ true) ↔ (home_fault b ≡ None)
unfolding home_fault
told true = (λ _. refl, λ _. refl)
told false = (λ e. cc, λ e. cc)

-- so the homes tell whether so many sites have these records
pub homes_tell : (l : LayoutState) (n : ℕ) → IsLayout l → 1 ≤ n → n ≤ 16
    → IsTrue (list_all (has_good_home n) l.records) ↔ (layout_fault n l.records ≡ None)
homes_tell l n is some few =
    let b = list_all (has_good_home n) l.records in
    (λ e. fault_at l n is some few ∙ (told b).0 e, λ e. (told b).1 (sym (fault_at l n is some few) ∙ e))
