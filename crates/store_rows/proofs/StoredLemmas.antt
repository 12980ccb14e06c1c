-- The rows of a store are such as its tables take.
use Rattle.std.proofs.Common.{◌≡◌, ◌≢◌, ◌⊎◌, inl, inr, ℕ, zero, suc, ◌+◌, ◌*◌, ◌<◌, ◌≤◌, ◌^◌, ℤ, pos, negsuc, Bool, true, false, List, [], ◌∷◌, length, map, All, refl, sym, ap, subst, ◌∙◌, arith}
use Rattle.std.specs.List.{AllByRecursion, sum_by}
use Rattle.std.specs.Float.{NotNan}
use Rattle.std.specs.Int.{bit_at}
use Rattle.std.proofs.lemmas.Nat.Bits.{bit_at-zero}
use Rattle.std.proofs.lemmas.List.{length-map}
use Rattle.std.proofs.lemmas.List.Sums.{sum_by-cons}
use Rattle.std.proofs.lemmas.List.Elements.{All-from_recursion}
use Rattle.std.proofs.lemmas.Bool.{or_parts}
use Rattle.std.proofs.lemmas.Bool.Decides.{nat_tests}
use Rattle.std.specs.Ordering.{is_ge, int_cmp}
use Rattle.sqlite_value.specs.declared.value.Value.{Value}
use Rattle.sqlite_value.specs.declared.value.Value.TheVariants.{Int}
use Rattle.sqlite_value.specs.declared.keys.Collation.TheVariants.{Binary}
use Rattle.sqlite_value.specs.Order.{Row, number, bytes, exact}
use Rattle.sqlite_value.proofs.OrderLemmas.{value_cmp-Int}
use Rattle.sqlite_trees.specs.View.{IsStorable}
use Rattle.sqlite_sql.specs.Ops.{binary, is_false}
use Rattle.sqlite_sql.specs.declared.ops.BinaryOp.TheVariants.{Compare}
use Rattle.sqlite_sql.specs.declared.ops.CompareOp.TheVariants.{Ge}
use Rattle.sqlite_schema.specs.declared.schema.Index.{Index}
use Rattle.sqlite_schema.specs.declared.schema.Schema.{Schema}
use Rattle.sqlite_schema.specs.Names.{same_name}
use Rattle.sqlite_rules.specs.Lists.{Has}
use Rattle.sqlite_rules.specs.Edit.{IsOversized}
use Rattle.sqlite_rules.proofs.ListLemmas.{all_has}
use Rattle.store_schema.specs.Tables.{AreBehind, behind, schema_4, first_other_tree}
use Rattle.store_rows.specs.declared.content.StoredCell.{StoredCell}
use Rattle.store_rows.specs.declared.content.StoredNotice.{StoredNotice}
use Rattle.store_rows.specs.declared.content.StoredSession.{StoredSession}
use Rattle.store_rows.specs.Rows.{cell_row, notice_row, session_row, stage_number}
use Rattle.store_rows.proofs.PutLemmas.{cells_there, notices_there}
use Rattle.store_rows.proofs.SessionLemmas.{sessions_there}
use Rattle.store_rows.proofs.SafeLemmas.{IsOwn}
use Rattle.store_rows.proofs.StopPutLemmas.{IsGood}

-- ---- numbers can be stored

whole : (n : ℤ) → NotNan (exact n)
unfolding lib.Ieee.is_nan
whole (pos n) = tt
whole (negsuc n) = tt

whole_all : (ns : List ℤ) → AllByRecursion (λ (v : Value). NotNan (number v)) (map Int ns)
whole_all [] = tt
whole_all (n ∷ ns) = (whole n, whole_all ns)

short : (ns : List ℤ) → sum_by (λ (v : Value). 18 + length (bytes v)) (map Int ns) ≡ 18 * length ns
short [] = refl
short (n ∷ ns) = sum_by-cons (λ (v : Value). 18 + length (bytes v)) (Int n) (map Int ns) ∙ rw (short ns) (omega arith)

ints_stored : (reals : ℕ) (ns : List ℤ) → reals ≡ 0 → 0 < length ns → length ns ≤ 9 → IsStorable reals (map Int ns)
ints_stored reals ns none some few = record {
  typed = λ c bit. absurd (let z : bit_at reals c ≡ 0 = rw none (bit_at-zero c) in omega (arith, z, bit));
  columns = (rw (length-map ns Int) some, rw (length-map ns Int) (omega (arith, few)));
  numbers = All-from_recursion _ (map Int ns) (whole_all ns);
  short = rw (short ns) (omega (arith, few));
}

-- the index of a table that stands behind a store's is on none of its tables
far_index : (more : Schema) (i : Index) (tree : ℕ) → AreBehind more → tree < first_other_tree → Has more.indexes i → i.table ≡ tree → ⊥
far_index more i tree apart low there on = let past : first_other_tree ≤ i.table = all_has _ more.indexes i apart.indexes there in omega (arith, low, past, on)

stored_by : (i j : Index) (reals : ℕ) (row : Row) → i ≡ j → IsStorable (Rattle.sqlite_schema.specs.Rules.index_reals reals j.columns) (Rattle.sqlite_sql.specs.Catalog.entry_of j.columns row)
    → (IsStorable (Rattle.sqlite_schema.specs.Rules.index_reals reals i.columns) (Rattle.sqlite_sql.specs.Catalog.entry_of i.columns row) → ⊥) → ⊥
stored_by i j reals row same h not_it = not_it (subst (λ (k : Index). IsStorable (Rattle.sqlite_schema.specs.Rules.index_reals reals k.columns) (Rattle.sqlite_sql.specs.Catalog.entry_of k.columns row)) (sym same) h)

other_table : (i j : Index) (tree : ℕ) → i ≡ j → i.table ≡ tree → (j.table ≡ tree → ⊥) → ⊥
other_table i j tree same on not_it = not_it (ap (λ (k : Index). k.table) (sym same) ∙ on)

-- a column that has to be 0 or more
above : (n : ℕ) → is_ge (int_cmp (pos n) (pos 0)) ≡ true
above n = grind (arith, nat_tests)

least : (n : ℕ) → is_false (binary (Compare Ge Binary) (Int (pos n)) (Int (pos 0))) ≡ false
unfolding binary
least n = rw (value_cmp-Int (pos n) (pos 0), above n) refl

-- ---- cells

pub cells_own : IsOwn cells_there
cells_own = record {
  bare = refl;
  named = λ name other.
      (or_parts (same_name (Rattle.std.proofs.Common.codes "cells") name) _ (or_parts (same_name (Rattle.std.proofs.Common.codes "meta") name) _ other).1).0;
  low = omega arith;
}

pub cell_good : (more : Schema) → AreBehind more → (c : StoredCell) → IsGood (behind schema_4 more) cells_there (cell_row c)
cell_good more apart c = record {
  typed = λ id. refl;
  present = λ id. refl;
  checked = λ id. rw (least c.n) refl;
  stored = λ id big. by id big;
}
  where
    by : (id : ℤ) → IsOversized (behind schema_4 more) cells_there (Int id ∷ cell_row c) → ⊥
    by id (inl big) = big (ints_stored 0 (id ∷ pos c.r ∷ pos c.slot ∷ pos c.n ∷ []) refl (omega arith) (omega arith), omega arith)
    by id (inr (i, inl same, on, big)) = other_table i _ 2 same on (λ e. omega (arith, e))
    by id (inr (i, inr (inl same), on, big)) = stored_by i _ 0 (Int id ∷ cell_row c) same (ints_stored 0 (pos c.r ∷ pos c.slot ∷ id ∷ []) refl (omega arith) (omega arith)) big
    by id (inr (i, inr (inr (inl same)), on, big)) = other_table i _ 2 same on (λ e. omega (arith, e))
    by id (inr (i, inr (inr (inr (inl same))), on, big)) = other_table i _ 2 same on (λ e. omega (arith, e))
    by id (inr (i, inr (inr (inr (inr (inl same)))), on, big)) = other_table i _ 2 same on (λ e. omega (arith, e))
    by id (inr (i, inr (inr (inr (inr (inr there)))), on, big)) = far_index more i 2 apart (omega arith) there on

-- ---- notices

pub notices_own : IsOwn notices_there
notices_own = record {
  bare = refl;
  named = λ name other.
      (or_parts (same_name (Rattle.std.proofs.Common.codes "sessions") name) _ (or_parts (same_name (Rattle.std.proofs.Common.codes "cells") name) _ (or_parts (same_name (Rattle.std.proofs.Common.codes "meta") name) _ other).1).1).1;
  low = omega arith;
}

pub notice_good : (more : Schema) → AreBehind more → (n : StoredNotice) → IsGood (behind schema_4 more) notices_there (notice_row n)
notice_good more apart n = record {
  typed = λ id. refl;
  present = λ id. refl;
  checked = λ id. rw (least n.announced, least n.finished) refl;
  stored = λ id big. by id big;
}
  where
    by : (id : ℤ) → IsOversized (behind schema_4 more) notices_there (Int id ∷ notice_row n) → ⊥
    by id (inl big) = big (ints_stored 0 (id ∷ pos n.r ∷ pos n.site ∷ pos n.announced ∷ pos n.finished ∷ []) refl (omega arith) (omega arith), omega arith)
    by id (inr (i, inl same, on, big)) = other_table i _ 7 same on (λ e. omega (arith, e))
    by id (inr (i, inr (inl same), on, big)) = other_table i _ 7 same on (λ e. omega (arith, e))
    by id (inr (i, inr (inr (inl same)), on, big)) = other_table i _ 7 same on (λ e. omega (arith, e))
    by id (inr (i, inr (inr (inr (inl same))), on, big)) = other_table i _ 7 same on (λ e. omega (arith, e))
    by id (inr (i, inr (inr (inr (inr (inl same)))), on, big)) = stored_by i _ 0 (Int id ∷ notice_row n) same (ints_stored 0 (pos n.r ∷ pos n.site ∷ id ∷ []) refl (omega arith) (omega arith)) big
    by id (inr (i, inr (inr (inr (inr (inr there)))), on, big)) = far_index more i 7 apart (omega arith) there on

-- ---- sessions

pub sessions_own : IsOwn sessions_there
sessions_own = record {
  bare = refl;
  named = λ name other.
      (or_parts (same_name (Rattle.std.proofs.Common.codes "sessions") name) _ (or_parts (same_name (Rattle.std.proofs.Common.codes "cells") name) _ (or_parts (same_name (Rattle.std.proofs.Common.codes "meta") name) _ other).1).1).0;
  low = omega arith;
}

pub session_good : (more : Schema) → AreBehind more → (s : StoredSession) → IsGood (behind schema_4 more) sessions_there (session_row s)
session_good more apart s = record {
  typed = λ id. refl;
  present = λ id. refl;
  checked = λ id. refl;
  stored = λ id big. by id big;
}
  where
    by : (id : ℤ) → IsOversized (behind schema_4 more) sessions_there (Int id ∷ session_row s) → ⊥
    by id (inl big) = big (ints_stored 0 (id ∷ pos s.r ∷ pos s.h ∷ pos (stage_number s.stage) ∷ pos s.place ∷ []) refl (omega arith) (omega arith), omega arith)
    by id (inr (i, inl same, on, big)) = other_table i _ 4 same on (λ e. omega (arith, e))
    by id (inr (i, inr (inl same), on, big)) = other_table i _ 4 same on (λ e. omega (arith, e))
    by id (inr (i, inr (inr (inl same)), on, big)) = stored_by i _ 0 (Int id ∷ session_row s) same (ints_stored 0 (pos s.place ∷ id ∷ []) refl (omega arith) (omega arith)) big
    by id (inr (i, inr (inr (inr (inl same))), on, big)) = stored_by i _ 0 (Int id ∷ session_row s) same (ints_stored 0 (pos s.r ∷ pos s.h ∷ id ∷ []) refl (omega arith) (omega arith)) big
    by id (inr (i, inr (inr (inr (inr (inl same)))), on, big)) = other_table i _ 4 same on (λ e. omega (arith, e))
    by id (inr (i, inr (inr (inr (inr (inr there)))), on, big)) = far_index more i 4 apart (omega arith) there on
