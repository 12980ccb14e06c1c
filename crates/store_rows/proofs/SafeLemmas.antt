-- An edit that meets no rule of the tables is not refused.
use Rattle.std.proofs.Common.{◌≡◌, ◌≢◌, ◌⊎◌, inl, inr, ℕ, zero, suc, ◌+◌, ◌<◌, ◌≤◌, Bool, true, false, not, ◌&&◌, ◌||◌, ◌==◌, List, [], ◌∷◌, ◌++◌, length, Option, Some, None, Result, Ok, Err, refl, sym, ap, subst, ◌∙◌, length-append, arith}
use Rattle.std.specs.List.{AllByRecursion, list_all}
use Rattle.std.proofs.lemmas.Bool.{cases_Bool, both_ways, false_from_ne_true, not-true, not_from_false, and_parts, and_from, or_left, or_right}
use Rattle.std.proofs.lemmas.Bool.Decides.{nat_tests}
use Rattle.std.proofs.lemmas.Cmp.{tied_itself}
use Rattle.sqlite_value.specs.Order.{Row}
use Rattle.sqlite_value.specs.declared.value.Value.{Value}
use Rattle.sqlite_value.proofs.OrderLemmas.{value_cmp_total}
use Rattle.sqlite_trees.specs.Tree.{Trees, rowid, with_tree}
use Rattle.sqlite_sql.specs.Ops.{binary, fits_i64, is_null}
use Rattle.sqlite_schema.specs.declared.schema.Constraint.TheVariants.{Datatype, NotNull, Check, PrimaryKey, Unique, ForeignKey}
use Rattle.sqlite_schema.specs.declared.schema.Keys.{Keys}
use Rattle.sqlite_schema.specs.declared.schema.Among.TheVariants.{All}
use Rattle.sqlite_schema.specs.declared.schema.Reference.{Reference}
use Rattle.sqlite_schema.specs.declared.schema.Table.{Table}
use Rattle.sqlite_schema.specs.declared.schema.Index.{Index}
use Rattle.sqlite_schema.specs.declared.schema.Schema.{Schema}
use Rattle.sqlite_schema.specs.Names.{same_name}
use Rattle.sqlite_schema.specs.Rules.{passes, Keeps, guards, clashes, agree, differ, is_key_if_to, is_key_of, ParentKey, parent_key, has_parent, is_held, has_null, Refers}
use Rattle.sqlite_rules.specs.Lists.{Has}
use Rattle.sqlite_rules.specs.declared.error.Refusal.{Refusal}
use Rattle.sqlite_rules.specs.declared.error.Refusal.TheVariants.{Violates, Mismatch, NoRowid, BadReference, TooDeep}
use Rattle.sqlite_rules.specs.Edit.{Edit, IsRefused, IsOversized, are_fresh, left_by, edited, taken_by, have_rowids, id_in, is_referred}
use Rattle.sqlite_rules.specs.Action.{works, Leads, Writes}
use Rattle.sqlite_rules.proofs.ListLemmas.{all_has, all_from, test_has, test_from, some_has, some_from}
use Rattle.sqlite_rules.proofs.RuleLemmas.{keeps_at, keeps_from, parent_is_table}
use Rattle.sqlite_rules.proofs.KeyLemmas.{agree_back}
use Rattle.sqlite.specs.Rows.{Edited}
use Rattle.sqlite.specs.declared.error.Error.{Error}
use Rattle.store_schema.specs.Tables.{AreBehind, ReferElsewhere, behind, first_other_tree, is_own_name, schema_4}
use Rattle.store_rows.proofs.BesideLemmas.{IsTableTree, IsFar, far_key}

-- ---- an edit that breaks no rule

pub record IsSafe (schema : Schema) (keys : Keys) (db : Trees) (edit : Edit) : Type 0 where
  pub typed : list_all (passes Datatype schema db edit.table) edit.news ≡ true
  pub present : list_all (passes NotNull schema db edit.table) edit.news ≡ true
  pub checked : list_all (passes Check schema db edit.table) edit.news ≡ true
  pub fresh : are_fresh (left_by db edit) edit.news ≡ true
  pub unique : Keeps Unique schema (with_tree db edit.table.tree (edited db edit))
  pub keyed : have_rowids edit.news ≡ true
  pub small : list_all (λ r. fits_i64 (id_in (rowid r))) edit.news ≡ true
  pub referred : is_referred schema keys edit ≡ true
  pub stored : (row : Row) → Has edit.news row → IsOversized schema edit.table row → ⊥
  pub idle : works schema keys 0 edit.table.tree (taken_by db edit) edit.news ≡ []

module _ (schema : Schema) (keys : Keys) (db : Trees) (edit : Edit) (safe : IsSafe schema keys db edit) where
  not_refused : (why : Refusal) → IsRefused schema keys db edit why → ⊥
  not_refused (Violates Datatype) h = both_ways _ h safe.typed
  not_refused (Violates NotNull) h = both_ways _ h safe.present
  not_refused (Violates Check) h = both_ways _ h safe.checked
  not_refused (Violates PrimaryKey) h = both_ways _ h safe.fresh
  not_refused (Violates Unique) h = h safe.unique
  not_refused (Violates ForeignKey) h = h
  not_refused Mismatch h = both_ways _ h safe.keyed
  not_refused NoRowid h = both_ways _ h safe.small
  not_refused BadReference h = both_ways _ h safe.referred
  not_refused TooDeep h = h

  not_led : (n : ℕ) (next : Trees) (why : Option Refusal) → Leads schema keys n next [] (Err why) → ⊥
  not_led zero next why h = absurd (let e = h.1 in cc)
  not_led (suc n) next why h = absurd (omega (arith, ap length h.2, length-append h.0 (h.1 ∷ [])))

  not_written : (why : Option Refusal) → Writes schema keys db edit (Err why) → ⊥
  not_written why (inl refused) = not_refused refused.0 refused.1
  not_written why (inr (inl big)) = safe.stored big.0 big.1 big.2
  not_written why (inr (inr went)) = not_led went.2.0 went.0 why (rw safe.idle at went.2.1)

  pub not_stopped : (stop : Option Error) → Edited schema keys db edit (Err stop) → ⊥
  not_stopped stop h = not_written h.0 h.1

-- ---- keys

-- no other row of a table has the key of one, under an index of the table
abbrev pub IsClear : List Index → ℕ → List Row → Type 0
IsClear indexes tree rows = (i : Index) → Has indexes i → (i.is_unique && (i.table == tree)) ≡ true → (row : Row) → Has rows row → clashes i.order i.columns rows row ≡ false

pub clear_before : (schema : Schema) (db : Trees) (t : Table) → Has schema.tables t → Keeps Unique schema db → IsClear schema.indexes t.tree (db t.tree)
clear_before schema db t listed keeps i there on row had = false_from_ne_true _ (λ clash.
    both_ways _ (not-true _ (test_has _ schema.indexes i (keeps_at Unique schema db t row keeps listed had) there)) (and_from _ _ on clash))

pub clear_fewer : (indexes : List Index) (tree : ℕ) (rows less : List Row) → ((r : Row) → Has less r → Has rows r) → IsClear indexes tree rows → IsClear indexes tree less
clear_fewer indexes tree rows less from clear i there on row had = false_from_ne_true _ (λ clash.
    let other = some_has _ less clash in
    both_ways _ (clear i there on row (from row had)) (some_from _ rows other.0 (from other.0 other.1) other.2))

differs_itself : (a : Value) → differ a a ≡ false
unfolding binary
differs_itself a = rw (tied_itself value_cmp_total a) (either (is_null a))
  where
    either : (b : Bool) → Rattle.sqlite_sql.specs.Ops.is_true (Rattle.std.proofs.Common.cond (b || b) Rattle.sqlite_value.specs.declared.value.Value.TheVariants.Null (Rattle.sqlite_sql.specs.Ops.from_truth (Some false))) ≡ false
    either true = refl
    either false = refl

pub clear_with : (indexes : List Index) (tree : ℕ) (left rows : List Row) (new : Row) → ((r : Row) → Has rows r → (r ≡ new) ⊎ Has left r) → IsClear indexes tree left
    → ((i : Index) → Has indexes i → (i.is_unique && (i.table == tree)) ≡ true → (r : Row) → Has left r → agree i.order i.columns r i.columns new ≡ false) → IsClear indexes tree rows
clear_with indexes tree left rows new from clear apart i there on row had = false_from_ne_true _ (λ clash.
    let other = some_has _ rows clash in
    let parts = and_parts _ _ other.2 in
    go row other.0 (from row had) (from other.0 other.1) parts.0 parts.1)
  where
    go : (r o : Row) → (r ≡ new) ⊎ Has left r → (o ≡ new) ⊎ Has left o → agree i.order i.columns o i.columns r ≡ true → differ (rowid o) (rowid r) ≡ true → ⊥
    go r o (inl here) (inl also) same other = both_ways _ (differs_itself (rowid new)) (rw (here, also) at other)
    go r o (inl here) (inr old) same other = both_ways _ (apart i there on o old) (rw here at same)
    go r o (inr kept) (inl new_one) same other = both_ways _ (apart i there on r kept) (agree_back _ _ _ _ _ (rw new_one at same))
    go r o (inr kept) (inr old) same other = both_ways _ (clear i there on r kept) (some_from _ left o old (and_from _ _ same other))

-- where each other tree stays, so do the keys
pub unique_after : (schema : Schema) (db : Trees) (tree : ℕ) (rows : List Row) → Keeps Unique schema db → IsClear schema.indexes tree rows → Keeps Unique schema (with_tree db tree rows)
unique_after schema db tree rows keeps clear = keeps_from Unique schema (with_tree db tree rows) (λ t row listed there. elim (cases_Bool (t.tree == tree)) [
  | inl same ↦ let is : t.tree ≡ tree = grind (arith, nat_tests) in
      test_from _ schema.indexes (λ i known. rw same (not_from_false _ (false_from_ne_true _ (λ both.
      let parts = and_parts _ _ both in
      both_ways _ (clear i known (rw is at parts.0) row (rw same at there)) parts.1))))
  | inr other ↦ rw other (keeps_at Unique schema db t row keeps listed (rw other at there))
])

-- ---- the keys of other tables

-- a name that is none of a store's is not that of a table of a store
pub record IsOwn (table : Table) : Type 0 where
  pub bare : table.references ≡ []
  pub named : (name : List ℕ) → is_own_name name ≡ false → same_name table.name name ≡ false
  pub low : table.tree < first_other_tree

module _ (more : Schema) (apart : AreBehind more) (table : Table) (own : IsOwn table) where
  none_to : (t : Table) → ReferElsewhere t → list_all (is_key_if_to (behind schema_4 more) table) t.references ≡ true
  none_to t all = test_from _ t.references (λ ref there. or_left _ _ (not_from_false _ (own.named ref.parent (all_has _ t.references ref all there))))

  pub none_refers : list_all (λ t. list_all (is_key_if_to (behind schema_4 more) table) t.references) (behind schema_4 more).tables ≡ true
  none_refers = test_from _ more.tables (λ t there. none_to t (all_has _ more.tables t apart.references there))

  pub referred : (keys : Keys) (db : Trees) (gone : List Rattle.std.proofs.Common.ℤ) (news : List Row) → is_referred (behind schema_4 more) keys (record { table = table; gone = gone; news = news }) ≡ true
  referred keys db gone news =
      let adds : list_all (is_key_of (behind schema_4 more)) table.references ≡ true = ap (list_all (is_key_of (behind schema_4 more))) own.bare in
      or_right _ _ (and_from _ _ (or_right _ _ adds) (or_right _ _ none_refers))

-- ---- foreign keys

module _ (more : Schema) (apart : AreBehind more) (keys : Keys) (db next : Trees) (tree : ℕ) (low : tree < first_other_tree)
    (spares : (t : ℕ) → t ≢ tree → IsTableTree (behind schema_4 more) t → next t ≡ db t) where
  held_so : (ref : Reference) (row : Row) (key : Option ParentKey) → parent_key (behind schema_4 more).tables ref ≡ key → IsFar tree key → is_held next ref.columns row key ≡ is_held db ref.columns row key
  unfolding IsFar
  held_so ref row None is far = refl
  held_so ref row (Some key) is far =
      let t = parent_is_table (behind schema_4 more).tables ref key is in
      let other : key.0 ≢ tree = λ same. both_ways (key.0 == tree) far (grind (arith, nat_tests)) in
      rw (spares key.0 other (t.0, t.1, t.2)) refl

  row_refers : (t : Table) (row : Row) → ReferElsewhere t → list_all (has_parent (behind schema_4 more).tables db row) t.references ≡ true
      → list_all (λ ref. not (Rattle.sqlite_schema.specs.Rules.is_among All ref) || has_parent (behind schema_4 more).tables next row ref) t.references ≡ true
  row_refers t row elsewhere had = test_from _ t.references (λ ref there.
      let far = far_key more apart keys tree low [] [] ref (all_has _ t.references ref elsewhere there) in
      ap (λ b. has_null ref.columns row || b) (held_so ref row (parent_key (behind schema_4 more).tables ref) refl far) ∙ test_has _ t.references ref had there)

  pub refers_after : Keeps ForeignKey (behind schema_4 more) db → Refers All (behind schema_4 more) next
  refers_after keeps = (
    bare (next 0),
    (
      bare (next 2),
      (
        bare (next 4),
        (
          bare (next 7),
          all_from _ more.tables (λ t there.
              let past : first_other_tree ≤ t.tree = all_has _ more.tables t apart.trees there in
              let listed : Has (behind schema_4 more).tables t = inr (inr (inr (inr there))) in
              all_from _ (next t.tree) (λ row had.
              row_refers t row (all_has _ more.tables t apart.references there)
              (keeps_at ForeignKey (behind schema_4 more) db t row keeps listed (subst (λ (rows : List Row). Has rows row) (spares t.tree (λ e. omega (arith, e, low, past)) (t, listed, refl)) had)))),
        ),
      ),
    ),
  )
    where
      bare : (rows : List Row) → AllByRecursion (λ (row : Row). true ≡ true) rows
      bare [] = tt
      bare (r ∷ rows) = (refl, bare rows)
