-- The halves of rising cells, and which of them has a place.
use Rattle.std.proofs.Common.{◌≡◌, inl, inr, ℕ, zero, suc, ◌+◌, ◌-◌, ◌/◌, ◌<◌, Bool, true, false, ◌==◌, List, [], ◌∷◌, length, take, drop, get_or, Option, Some, IsTrue, refl, sym, ap, subst, ◌∙◌, arith, add-one, length-drop}
use Rattle.std.specs.List.{AllByRecursion}
use Rattle.std.proofs.lemmas.Bool.{cases_Bool}
use Rattle.std.proofs.lemmas.Bool.Decides.{nat_tests}
use Rattle.admission_model.specs.declared.durable.DurableCell.{DurableCell}
use Rattle.admission_model.specs.Durable.{AreRising, is_before}
use Rattle.admission_model.specs.Restoring.{stored_at}
use Rattle.durable_keeper.proofs.CellLists.{is_at, before_through, before_apart, later_all, stored_before}
use Rattle.durable_keeper.proofs.MergeLemmas.{take_past}

-- what the cell at an index says of the cells before it and behind it
pub record Halves (cs : List DurableCell) (i : ℕ) (d x : DurableCell) : Type 0 where
  pub low : AreRising (take i cs)
  pub high : AreRising (drop (suc i) cs)
  pub behind : is_before (get_or cs i d) x ≡ true → stored_at cs x.r x.slot ≡ stored_at (drop (suc i) cs) x.r x.slot
  pub before : is_before x (get_or cs i d) ≡ true → stored_at cs x.r x.slot ≡ stored_at (take i cs) x.r x.slot
  pub found : is_at x.r x.slot (get_or cs i d) ≡ true → stored_at cs x.r x.slot ≡ Some (get_or cs i d).value

take_all : (P : DurableCell → Type 0) (i : ℕ) (cs : List DurableCell) → AllByRecursion P cs → AllByRecursion P (take i cs)
take_all P zero cs all = tt
take_all P (suc i) [] all = tt
take_all P (suc i) (c ∷ cs) all = (all.0, take_all P i cs all.1)

get_all : (P : DurableCell → Type 0) (i : ℕ) (d : DurableCell) (cs : List DurableCell) → i < length cs → AllByRecursion P cs → P (get_or cs i d)
get_all P i d [] below all = absurd (omega arith)
get_all P zero d (c ∷ cs) below all = all.0
get_all P (suc i) d (c ∷ cs) below all = get_all P i d cs (omega arith) all.1

at_apart : (c d x : DurableCell) → is_before c d ≡ true → is_at x.r x.slot d ≡ true → is_at x.r x.slot c ≡ false
at_apart c d x p q = grind (arith, nat_tests)

pub halves : (cs : List DurableCell) (i : ℕ) (d x : DurableCell) → i < length cs → AreRising cs → Halves cs i d x
halves [] i d x below up = absurd (omega arith)
halves (c ∷ cs) zero d x below up = record {
  low = tt;
  high = up.1;
  behind = λ p. rw (before_apart c x p) refl;
  before = λ p. stored_before x (c ∷ cs) (p, later_all x c cs p up.0);
  found = λ p. rw p refl;
}
halves (c ∷ cs) (suc i) d x below up =
    let rest = halves cs i d x (omega arith) up.1 in
    let first : is_before c (get_or cs i d) ≡ true = get_all (λ e. IsTrue (is_before c e)) i d cs (omega arith) up.0 in
    record {
      low = (take_all (λ e. IsTrue (is_before c e)) i cs up.0, rest.low);
      high = rest.high;
      behind = λ p. rw (before_apart c x (before_through c (get_or cs i d) x first p)) (rest.behind p);
      before = λ p. elim (cases_Bool (is_at x.r x.slot c)) [ inl e ↦ rw e refl | inr e ↦ rw e (rest.before p) ];
      found = λ p. rw (at_apart c (get_or cs i d) x first p) (rest.found p);
    }

-- a cell neither before nor behind another is at its place
pub level : (c x : DurableCell) → is_before c x ≡ false → is_before x c ≡ false → is_at x.r x.slot c ≡ true
level c x p q = grind (arith, nat_tests)

-- an answer for a half is one for the whole
pub search_high : (cs rest : List DurableCell) (i : ℕ) (d x : DurableCell) (o : Option ℕ) → rest ≡ drop (suc i) cs → i < length cs → is_before (get_or cs i d) x ≡ true
    → (AreRising rest → o ≡ stored_at rest x.r x.slot) → AreRising cs → o ≡ stored_at cs x.r x.slot
search_high cs rest i d x o e below behind answer up =
    let h = halves cs i d x below up in
    answer (subst AreRising (sym e) h.high) ∙ (ap (λ l. stored_at l x.r x.slot) e ∙ sym (h.behind behind))

pub search_low : (cs rest : List DurableCell) (i : ℕ) (d x : DurableCell) (o : Option ℕ) → rest ≡ take i cs → i < length cs → is_before x (get_or cs i d) ≡ true
    → (AreRising rest → o ≡ stored_at rest x.r x.slot) → AreRising cs → o ≡ stored_at cs x.r x.slot
search_low cs rest i d x o e below before answer up =
    let h = halves cs i d x below up in
    answer (subst AreRising (sym e) h.low) ∙ (ap (λ l. stored_at l x.r x.slot) e ∙ sym (h.before before))

-- a range to the end is all that is behind
pub rest_of : (cs : List DurableCell) (i : ℕ) → take (length cs - (i + 1)) (drop (i + 1) cs) ≡ drop (suc i) cs
rest_of cs i = rw add-one (take_past (length cs - suc i) (drop (suc i) cs) (rw length-drop (omega arith)))

-- the middle of what is not empty is in it
pub middle_below : (cs : List DurableCell) (b : Bool) → b ≡ (length cs == 0) → b ≡ false → length cs / 2 < length cs
middle_below cs b is not_empty =
    let some : (length cs == 0) ≡ false = sym is ∙ not_empty in
    let positive : 0 < length cs = grind (arith, nat_tests) in
    omega arith
