-- The join of a book with a list of deltas, and the equality of books that name the same.
use Rattle.std.proofs.Common.{◌≡◌, ℕ, ◌+◌, ◌<◌, ◌≤◌, ◌⊎◌, ◌↔◌, inl, inr, max, All, List, [], ◌∷◌, ◌++◌, length, get_or, take, refl, sym, ap, ◌∙◌, subst, arith}
use Rattle.std.proofs.lemmas.List.{take_more, take_all}
use Rattle.merge_core.specs.declared.cell.Cell.{Cell}
use Rattle.merge_core.specs.Layout.{Shape}
use Rattle.merge_core.specs.Delta.{DeltaState}
use Rattle.merge_core.specs.Naming.{greatest_shown, shown_by, ReachesUnit}
use Rattle.merge_core.specs.Book.{BookState, counter_of, book_shape}
use Rattle.merge_core.specs.Check.{IsChecked}
use Rattle.merge_core.specs.Changes.{JoinsRows, JoinsAll}
use Rattle.merge_core.specs.Order.{Known, NamesKnown}
use Rattle.merge_core.proofs.UnitLemmas.{ReachesUnit-max}

pub greatest_shown-push : (shape : Shape) (known : ℕ) (ds : List DeltaState) (d : DeltaState) (r s : ℕ) (cell : Cell)
    → greatest_shown shape known (ds ++ d ∷ []) r s cell ≡ max (greatest_shown shape known ds r s cell) (shown_by shape d.rows r s cell)
greatest_shown-push shape known [] d r s cell = omega arith
greatest_shown-push shape known (e ∷ es) d r s cell = omega (arith, greatest_shown-push shape known es d r s cell)

pub JoinsAll-start : (b : BookState) → JoinsAll b b []
JoinsAll-start b = record { shape = refl; counters = λ r s cell. refl }

-- one delta more
pub JoinsAll-step : (old now new : BookState) (ds : List DeltaState) (i : ℕ) (d : DeltaState) → i < length ds → d ≡ get_or ds i d → JoinsAll old now (take i ds) → JoinsRows now new d.rows → JoinsAll old new (take (i + 1) ds)
JoinsAll-step old now new ds i d below read before joins = record {
  shape = joins.shape ∙ before.shape;
  counters = λ r s cell. at_place r s cell;
}
  where
    one_more : take (i + 1) ds ≡ take i ds ++ d ∷ []
    one_more = rw read (take_more ds i d below)

    at_place : (r s : ℕ) (cell : Cell) → counter_of new r s cell ≡ greatest_shown (book_shape old) (counter_of old r s cell) (take (i + 1) ds) r s cell
    at_place r s cell =
        let shown : shown_by (book_shape now) d.rows r s cell ≡ shown_by (book_shape old) d.rows r s cell =
        ap (λ (shape : Shape). shown_by shape d.rows r s cell) before.shape in
        rw one_more (omega (arith, joins.counters r s cell, before.counters r s cell, greatest_shown-push (book_shape old) (counter_of old r s cell) (take i ds) d r s cell, shown))

pub JoinsAll-whole : (old new : BookState) (ds : List DeltaState) (i : ℕ) → length ds ≤ i → JoinsAll old new (take i ds) → JoinsAll old new ds
JoinsAll-whole old new ds i past joins = subst (λ (es : List DeltaState). JoinsAll old new es) (take_all i ds past) joins

-- a checked delta is checked by every book of the shape
pub checked_at : (old now : BookState) (ds : List DeltaState) (i : ℕ) (d : DeltaState) → All (λ d. IsChecked (book_shape old) d.rows) ds → i < length ds → d ≡ get_or ds i d → book_shape now ≡ book_shape old → IsChecked (book_shape now) d.rows
checked_at old now ds i d all below read same =
    subst (λ (shape : Shape). IsChecked shape d.rows) (sym same)
    (subst (λ (x : DeltaState). IsChecked (book_shape old) x.rows) (sym read) (all i d below))

-- an equivalence under an alternative
or_rest : {A B C D : Type 0} → D ↔ (A ⊎ B) → B ↔ C → D ↔ (A ⊎ C)
or_rest {A} {B} {C} {D} both rest = (λ d. forth (both.0 d), back)
  where
    forth : A ⊎ B → A ⊎ C
    forth (inl here) = inl here
    forth (inr there) = inr (rest.0 there)

    back : A ⊎ C → D
    back (inl here) = both.1 (inl here)
    back (inr there) = both.1 (inr (rest.1 there))

-- the greatest counter names what the book or one of the deltas names
known_units : (b : BookState) (ds : List DeltaState) (r s : ℕ) (cell : Cell) (k : ℕ) → ReachesUnit (greatest_shown (book_shape b) (counter_of b r s cell) ds r s cell) k ↔ Known b ds r s cell k
known_units b [] r s cell k = (λ h. h, λ h. h)
known_units b (d ∷ ds) r s cell k =
    or_rest (ReachesUnit-max (shown_by (book_shape b) d.rows r s cell) (greatest_shown (book_shape b) (counter_of b r s cell) ds r s cell) k) (known_units b ds r s cell k)

pub NamesKnown-joined : (old new : BookState) (ds : List DeltaState) → JoinsAll old new ds → NamesKnown old ds new
NamesKnown-joined old new ds joins r s cell k =
    subst (λ (n : ℕ). ReachesUnit n k ↔ Known old ds r s cell k) (sym (joins.counters r s cell)) (known_units old ds r s cell k)
