-- What stands behind the tables of a store leaves its statements alone, and they leave it.
use Rattle.std.proofs.Common.{◌≡◌, ◌≢◌, ◌⊎◌, inl, inr, ℕ, ◌<◌, ◌≤◌, Bool, true, false, ◌&&◌, ◌||◌, ◌==◌, List, [], ◌∷◌, ◌++◌, Option, Some, None, find, codes, refl, sym, ap, subst, ◌∙◌, arith}
use Rattle.std.specs.List.{AllByRecursion, list_any, filter_map, flat_map}
use Rattle.std.specs.Prelude.{option_and_then, option_map}
use Rattle.std.proofs.lemmas.Bool.{cases_Bool, or_parts}
use Rattle.std.proofs.lemmas.Bool.Decides.{nat_tests}
use Rattle.sqlite_value.specs.Order.{Row}
use Rattle.sqlite_trees.specs.Tree.{Trees}
use Rattle.sqlite_schema.specs.declared.schema.Keys.{Keys}
use Rattle.sqlite_schema.specs.declared.schema.Reference.{Reference}
use Rattle.sqlite_schema.specs.declared.schema.Table.{Table}
use Rattle.sqlite_schema.specs.declared.schema.Index.{Index}
use Rattle.sqlite_schema.specs.declared.schema.Schema.{Schema}
use Rattle.sqlite_schema.specs.Names.{same_name}
use Rattle.sqlite_schema.specs.Rules.{ParentKey, parent_key, key_in, key_places, declared_order}
use Rattle.sqlite_catalog.specs.Change.{KeepsRows}
use Rattle.sqlite_rules.specs.Lists.{Has}
use Rattle.sqlite_rules.specs.Keys.{shares}
use Rattle.sqlite_rules.specs.Action.{pairs, deed_for, work_by, work_for, works}
use Rattle.sqlite_rules.specs.declared.action.Deed.{Deed}
use Rattle.sqlite_rules.proofs.ListLemmas.{all_has}
use Rattle.sqlite.specs.Effect.{Database}
use Rattle.store_schema.specs.Tables.{AreBehind, ReferElsewhere, behind, first_other_tree, is_own_name, others_in, schema_4}
use Rattle.store_rows.specs.Holding.{HasBeside}
use Rattle.store_rows.specs.Steps.{SparesBeside, beside}

-- a tree is that of a table
abbrev pub IsTableTree : Schema → ℕ → Type 0
IsTableTree schema t = (x : Table) × Has schema.tables x × (x.tree ≡ t)

-- what a step says of each table, for a tree
pub tables_spared : (tables : List Table) (tree : ℕ) (db next : Trees) → AllByRecursion (λ t. t.tree ≢ tree → next t.tree ≡ db t.tree) tables → (t : ℕ) → t ≢ tree
    → (x : Table) × Has tables x × (x.tree ≡ t) → next t ≡ db t
tables_spared tables tree db next all t other there =
    let x = there.0 in
    let is : x.tree ≡ t = there.2 in
    subst (λ n. next n ≡ db n) is (all_has (λ y. y.tree ≢ tree → next y.tree ≡ db y.tree) tables x all there.1 (λ same. other (sym is ∙ same)))

-- ---- no foreign key acts

-- a key is not that of a tree
unfoldable pub IsFar : ℕ → Option ParentKey → Type 0
IsFar tree None = Unit {0}
IsFar tree (Some key) = (key.0 == tree) ≡ false

far_in : (tree : ℕ) (t : Table) (places : Option (List ℕ)) → (t.tree == tree) ≡ false → IsFar tree (option_and_then (key_in t) places)
unfolding IsFar
far_in tree t None apart = tt
far_in tree t (Some ps) apart = elim (declared_order t ps) as (λ o. IsFar tree (option_map (λ order. (t.tree, ps, order)) o)) [ None ↦ tt | Some order ↦ apart ]

far_found : (tree : ℕ) (ref : Reference) (test : Table → Bool) (tables : List Table) → tree < first_other_tree → AllByRecursion (λ t. first_other_tree ≤ t.tree) tables
    → IsFar tree (option_and_then (λ t. option_and_then (key_in t) (key_places t ref.parent_columns)) (find test tables))
unfolding IsFar
far_found tree ref test [] own all = tt
far_found tree ref test (t ∷ tables) own all = elim (cases_Bool (test t)) [
  | inl e ↦ let past : first_other_tree ≤ t.tree = all.0 in
      let apart : (t.tree == tree) ≡ false = grind (arith, nat_tests) in
      rw e (far_in tree t (key_places t ref.parent_columns) apart)
  | inr e ↦ rw e (far_found tree ref test tables own all.1)
]

no_work : (depth tree : ℕ) (moves : List (Row × Row)) (child : Table) (ref : Reference) (deed : Option Deed) (key : Option ParentKey) → IsFar tree key → work_by depth tree moves child ref deed key ≡ None
unfolding IsFar
no_work depth tree moves child ref None key far = refl
no_work depth tree moves child ref (Some deed) None far = refl
no_work depth tree moves child ref (Some deed) (Some key) far = rw far refl

-- a name that is none of a store's is looked for behind its tables
found_behind : (more : Schema) (name : List ℕ) → is_own_name name ≡ false → find (λ t. same_name t.name name) (behind schema_4 more).tables ≡ find (λ t. same_name t.name name) more.tables
found_behind more name other =
    let a = or_parts (same_name (codes "meta") name) (same_name (codes "cells") name || (same_name (codes "sessions") name || same_name (codes "notices") name)) other in
    let b = or_parts (same_name (codes "cells") name) (same_name (codes "sessions") name || same_name (codes "notices") name) a.1 in
    let c = or_parts (same_name (codes "sessions") name) (same_name (codes "notices") name) b.1 in
    rw (a.0, b.0, c.0, c.1) refl

module _ (more : Schema) (apart : AreBehind more) (keys : Keys) (tree : ℕ) (own : tree < first_other_tree) (olds news : List Row) where
  pub far_key : (ref : Reference) → is_own_name ref.parent ≡ false → IsFar tree (parent_key (behind schema_4 more).tables ref)
  far_key ref other =
      subst (λ o. IsFar tree (option_and_then (λ t. option_and_then (key_in t) (key_places t ref.parent_columns)) o)) (sym (found_behind more ref.parent other))
      (far_found tree ref (λ t. same_name t.name ref.parent) more.tables own apart.trees)

  no_works_of : (child : Table) (refs : List Reference) → AllByRecursion (λ ref. is_own_name ref.parent ≡ false) refs → filter_map (work_for (behind schema_4 more) keys 0 tree olds news child) refs ≡ []
  no_works_of child [] all = refl
  no_works_of child (ref ∷ refs) all =
      let none = no_work 0 tree (pairs olds news) child ref (deed_for keys (Rattle.std.proofs.Common.length news == 0) ref) (parent_key (behind schema_4 more).tables ref) (far_key ref all.0) in
      rw none (no_works_of child refs all.1)

  no_works_in : (children : List Table) → AllByRecursion ReferElsewhere children → flat_map (λ child. filter_map (work_for (behind schema_4 more) keys 0 tree olds news child) child.references) children ≡ []
  no_works_in [] all = refl
  no_works_in (child ∷ children) all = rw (no_works_of child child.references all.0) (no_works_in children all.1)

  -- a write to a table of a store sets off nothing
  pub no_works : works (behind schema_4 more) keys 0 tree olds news ≡ []
  no_works = no_works_in more.tables apart.references

-- ---- no other index is on a table of a store

any_behind : {X : Type 0} (test : X → Bool) (xs ys : List X) → list_any test ys ≡ false → list_any test (xs ++ ys) ≡ list_any test xs
any_behind test [] ys none = none
any_behind test (x ∷ xs) ys none = ap (λ b. test x || b) (any_behind test xs ys none)

and_none : (a b c : Bool) → b ≡ false → ((a && b) && c) ≡ false
and_none true b c h = rw h refl
and_none false b c h = refl

no_shares : (table : Table) (new r : Row) (indexes : List Index) → table.tree < first_other_tree → AllByRecursion (λ i. first_other_tree ≤ i.table) indexes → list_any (shares None table new r) indexes ≡ false
no_shares table new r [] own all = refl
no_shares table new r (i ∷ indexes) own all =
    let past : first_other_tree ≤ i.table = all.0 in
    let apart : (i.table == table.tree) ≡ false = grind (arith, nat_tests) in
    rw (and_none i.is_unique (i.table == table.tree) _ apart) (no_shares table new r indexes own all.1)

-- a row has a key of a new one under the indexes of a store, or under none
pub shared : (more : Schema) (table : Table) (new r : Row) → AreBehind more → table.tree < first_other_tree
    → list_any (shares None table new r) (behind schema_4 more).indexes ≡ list_any (shares None table new r) schema_4.indexes
shared more table new r apart own = any_behind (shares None table new r) schema_4.indexes more.indexes (no_shares table new r more.indexes own apart.indexes)

-- ---- what stays

others_of : (more s : Schema) → s ≡ behind schema_4 more → others_in s ≡ more
others_of more s is = ap others_in is

-- a statement that writes to one table of a store leaves the rows of the other tables
pub spares_beside : (more : Schema) (tree : ℕ) (a b : Database) → AreBehind more → tree < first_other_tree → a.schema ≡ behind schema_4 more → b.schema ≡ behind schema_4 more
    → ((t : ℕ) → t ≢ tree → IsTableTree (behind schema_4 more) t → b.trees t ≡ a.trees t) → SparesBeside a b
spares_beside more tree a b apart own from to others = record {
  schema = others_of more b.schema to ∙ sym (others_of more a.schema from);
  rows = subst (λ s. KeepsRows s.tables a.trees b.trees) (sym (others_of more a.schema from)) (each more.tables apart.trees (λ x k. inr (inr (inr (inr k)))));
}
  where
    each : (tables : List Table) → AllByRecursion (λ t. first_other_tree ≤ t.tree) tables → ((x : Table) → Has tables x → Has (behind schema_4 more).tables x) → KeepsRows tables a.trees b.trees
    each [] all there = tt
    each (t ∷ tables) all there =
        let past : first_other_tree ≤ t.tree = all.0 in
        (others t.tree (λ e. omega (arith, e, own, past)) (t, there t (inl refl), refl), each tables all.1 (λ x k. there x (inr k)))

pub rows_then : (tables : List Table) (a b c : Trees) → KeepsRows tables a b → KeepsRows tables b c → KeepsRows tables a c
rows_then [] a b c one next = tt
rows_then (t ∷ tables) a b c one next = (next.0 ∙ one.0, rows_then tables a b c one.1 next.1)

pub rows_same : (tables : List Table) (a : Trees) → KeepsRows tables a a
rows_same [] a = tt
rows_same (t ∷ tables) a = (refl, rows_same tables a)

pub beside_then : (o a b : Database) → HasBeside o a → SparesBeside a b → HasBeside o b
beside_then o a b has spares = record {
  schema = spares.schema ∙ has.schema;
  rows = rows_then o.schema.tables o.trees a.trees b.trees has.rows (subst (λ s. KeepsRows s.tables a.trees b.trees) has.schema spares.rows);
}

pub spares_then : (a b c : Database) → SparesBeside a b → SparesBeside b c → SparesBeside a c
spares_then a b c one next = beside_then (beside a) b c one next

pub spares_same : (a : Database) → SparesBeside a a
spares_same a = record { schema = refl; rows = rows_same (others_in a.schema).tables a.trees }
