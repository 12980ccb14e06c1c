-- The laws of the join of books.
use Rattle.std.proofs.Common.{◌≡◌, ◌↔◌, ℕ, ◌⊎◌, inl, inr, max, List, sym, ap, ◌∙◌, subst}
use Rattle.merge_core.specs.declared.cell.Cell.{Cell}
use Rattle.merge_core.specs.declared.delta.Row.{Row}
use Rattle.merge_core.specs.Layout.{Shape}
use Rattle.merge_core.specs.Delta.{DeltaState}
use Rattle.merge_core.specs.Naming.{ReachesUnit, shown_by}
use Rattle.merge_core.specs.Changes.{JoinsRows}
use Rattle.merge_core.specs.Book.{BookState, IsBook, Names, book_shape, counter_of}
use Rattle.merge_core.specs.Order.{IsBelow, NamesSame, NamesKnown, IsUnion, IsJoin, KnowsSame}
use Rattle.merge_core.proofs.SameLemmas.{same_from_names}
use Rattle.merge_core.proofs.UnitLemmas.{ReachesUnit-max}

below_trans : (a b c : BookState) → IsBelow a b → IsBelow b c → IsBelow a c
below_trans a b c first second r s cell k names = second r s cell k (first r s cell k names)

below_both : (a b : BookState) → IsBelow a b → IsBelow b a → NamesSame a b
below_both a b forth back r s cell k = (forth r s cell k, back r s cell k)

pub joins_commute : (a b j : BookState) → IsJoin a b j → IsJoin b a j
joins_commute a b j join = record { left = join.right; right = join.left; least = λ c above_b above_a. join.least c above_a above_b }

pub joins_repeat : (a : BookState) → IsJoin a a a
joins_repeat a = record { left = λ r s cell k names. names; right = λ r s cell k names. names; least = λ c above _. above }

pub joins_agree : (a b j k : BookState) → IsJoin a b j → IsJoin a b k → NamesSame j k
joins_agree a b j k one two = below_both j k (one.least k two.left two.right) (two.least j one.left one.right)

pub joins_associate : (a b c ab bc x y : BookState) → IsJoin a b ab → IsJoin ab c x → IsJoin b c bc → IsJoin a bc y → NamesSame x y
joins_associate a b c ab bc x y at_ab at_x at_bc at_y =
    below_both x y
    (at_x.least y (at_ab.least y at_y.left (below_trans b bc y at_bc.left at_y.right)) (below_trans c bc y at_bc.right at_y.right))
    (at_y.least x (below_trans a ab x at_ab.left at_x.left) (at_bc.least x (below_trans b ab x at_ab.right at_x.left) at_x.right))

pub IsJoin-union : (a b j : BookState) → IsUnion a b j → IsJoin a b j
IsJoin-union a b j union = record {
  left = λ r s cell k names. (union r s cell k).1 (inl names);
  right = λ r s cell k names. (union r s cell k).1 (inr names);
  least = λ c above_a above_b r s cell k names. either c above_a above_b r s cell k ((union r s cell k).0 names);
}
  where
    either : (c : BookState) → IsBelow a c → IsBelow b c → (r s : ℕ) (cell : Cell) (k : ℕ) → Names a r s cell k ⊎ Names b r s cell k → Names c r s cell k
    either c above_a above_b r s cell k (inl names) = above_a r s cell k names
    either c above_a above_b r s cell k (inr names) = above_b r s cell k names

pub equal_from_known : (a b x y : BookState) (ds es : List DeltaState) → IsBook x → IsBook y → book_shape y ≡ book_shape x → NamesKnown a ds x → NamesKnown b es y → KnowsSame a ds b es → x ≡ y
equal_from_known a b x y ds es book_x book_y shape knows_x knows_y same =
    same_from_names x y book_x book_y shape
    (λ r s cell k. (
      λ names. (knows_y r s cell k).1 ((same r s cell k).0 ((knows_x r s cell k).0 names)),
      λ names. (knows_x r s cell k).1 ((same r s cell k).1 ((knows_y r s cell k).0 names)),
    ))

-- a book joined with all that another one tells is the join of the two
pub IsJoin-told : (a b j : BookState) (rows : List Row) → book_shape b ≡ book_shape a → ((r s : ℕ) (cell : Cell) → shown_by (book_shape b) rows r s cell ≡ counter_of b r s cell) → JoinsRows a j rows → IsJoin a b j
IsJoin-told a b j rows shape told joins = IsJoin-union a b j (λ r s cell k. at r s cell k)
  where
    greater : (r s : ℕ) (cell : Cell) → counter_of j r s cell ≡ max (counter_of a r s cell) (counter_of b r s cell)
    greater r s cell =
        joins.counters r s cell
        ∙ ap (max (counter_of a r s cell)) (ap (λ (at : Shape). shown_by at rows r s cell) (sym shape) ∙ told r s cell)

    at : (r s : ℕ) (cell : Cell) (k : ℕ) → Names j r s cell k ↔ (Names a r s cell k ⊎ Names b r s cell k)
    at r s cell k =
        subst (λ (n : ℕ). ReachesUnit n k ↔ (ReachesUnit (counter_of a r s cell) k ⊎ ReachesUnit (counter_of b r s cell) k)) (sym (greater r s cell))
        (ReachesUnit-max (counter_of a r s cell) (counter_of b r s cell) k)
