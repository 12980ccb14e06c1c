-- The same deltas join to one book.
use Rattle.std.proofs.Common.{◌≡◌, ℕ, ◌≤◌, inl, inr, List, [], ◌∷◌, refl, sym, ap, ◌∙◌, subst, arith}
use Rattle.merge_core.specs.declared.cell.Cell.{Cell}
use Rattle.merge_core.specs.Layout.{Shape}
use Rattle.merge_core.specs.Delta.{DeltaState}
use Rattle.merge_core.specs.Rows.{start_counter}
use Rattle.merge_core.specs.Naming.{shown_by, ReachesUnit}
use Rattle.merge_core.specs.Book.{BookState, counter_of}
use Rattle.merge_core.specs.Order.{NamesSame}
use Rattle.merge_core.proofs.SameLemmas.{same_from_names}
use Rattle.join_engine.specs.Joins.{joined_counter, IsJoinOf, IsAmong, SameDeltas}

start_below : (shape : Shape) (ds : List DeltaState) (r s : ℕ) (cell : Cell) → start_counter shape r s cell ≤ joined_counter shape ds r s cell
start_below shape [] r s cell = omega arith
start_below shape (d ∷ ds) r s cell = omega (arith, start_below shape ds r s cell)

among_below : (shape : Shape) (d : DeltaState) (ds : List DeltaState) (r s : ℕ) (cell : Cell) → IsAmong d ds
    → shown_by shape d.rows r s cell ≤ joined_counter shape ds r s cell
among_below shape d [] r s cell among = absurd among
among_below shape d (e ∷ es) r s cell (inl is) =
    omega (arith, ap (λ (x : DeltaState). shown_by shape x.rows r s cell) is)
among_below shape d (e ∷ es) r s cell (inr among) = omega (arith, among_below shape d es r s cell among)

joined_below : (shape : Shape) (ds es : List DeltaState) (r s : ℕ) (cell : Cell) → ((d : DeltaState) → IsAmong d ds → IsAmong d es)
    → joined_counter shape ds r s cell ≤ joined_counter shape es r s cell
joined_below shape [] es r s cell within = start_below shape es r s cell
joined_below shape (d ∷ ds) es r s cell within =
    omega (arith, among_below shape d es r s cell (within d (inl refl)), joined_below shape ds es r s cell (λ x h. within x (inr h)))

pub one_join : (shape : Shape) (ds es : List DeltaState) (a b : BookState) → SameDeltas ds es → IsJoinOf shape ds a → IsJoinOf shape es b → a ≡ b
one_join shape ds es a b same join_a join_b =
    same_from_names a b join_a.book join_b.book (join_b.one_shape ∙ sym join_a.one_shape) names
  where
    counters : (r s : ℕ) (cell : Cell) → counter_of a r s cell ≡ counter_of b r s cell
    counters r s cell = omega (
      arith,
      join_a.counters r s cell,
      join_b.counters r s cell,
      joined_below shape ds es r s cell (λ d h. (same d).0 h),
      joined_below shape es ds r s cell (λ d h. (same d).1 h),
    )

    names : NamesSame a b
    names r s cell k = (
      λ h. subst (λ (n : ℕ). ReachesUnit n k) (counters r s cell) h,
      λ h. subst (λ (n : ℕ). ReachesUnit n k) (sym (counters r s cell)) h,
    )
