-- Other tables, indexes and views come behind those of a store.
use Rattle.std.proofs.Common.{◌≡◌, ℕ, ◌+◌, ◌≤◌, max, inl, inr, List, [], ◌∷◌, ◌++◌, fold, refl, sym, ap, subst, arith}
use Rattle.std.specs.List.{AllByRecursion}
use Rattle.sqlite_rules.specs.Lists.{Has}
use Rattle.sqlite_schema.specs.declared.schema.Table.{Table}
use Rattle.sqlite_schema.specs.declared.schema.Index.{Index}
use Rattle.sqlite_schema.specs.declared.schema.View.{View}
use Rattle.sqlite_schema.specs.declared.schema.Schema.{Schema}
use Rattle.sqlite_catalog.specs.Change.{created, indexed, with_view, next_tree, past_views, automatics}
use Rattle.store_schema.specs.Tables.{AreBehind, HasOthers, ReferElsewhere, behind, first_other_tree, others_in, schema_4}

all_more : {X : Type 0} (P : X → Type 0) (xs ys : List X) → AllByRecursion P xs → AllByRecursion P ys → AllByRecursion P (xs ++ ys)
all_more P [] ys all more = more
all_more P (x ∷ xs) ys all more = (all.0, all_more P xs ys all.1 more)

all_at : {X : Type 0} (P : X → Type 0) (xs : List X) (x : X) → AllByRecursion P xs → Has xs x → P x
all_at P [] x all there = absurd there
all_at P (y ∷ xs) x all (inl e) = subst P (sym e) all.0
all_at P (y ∷ xs) x all (inr there) = all_at P xs x all.1 there

-- the trees of indexes are behind where one starts
past_all : (indexes : List Index) (n : ℕ) → n ≤ fold (λ n i. max n (i.tree + 1)) n indexes
past_all [] n = omega arith
past_all (i ∷ indexes) n = let more : max n (i.tree + 1) ≤ fold (λ n i. max n (i.tree + 1)) (max n (i.tree + 1)) indexes = past_all indexes (max n (i.tree + 1)) in omega (arith, more)

next_behind : (more : Schema) → first_other_tree ≤ next_tree (behind schema_4 more)
next_behind more =
    let tables = fold (λ n t. max n (t.tree + 1)) (past_views (behind schema_4 more)) (behind schema_4 more).tables in
    let own = fold (λ n i. max n (i.tree + 1)) tables schema_4.indexes in
    let low : first_other_tree ≤ own = omega arith in
    let rest = past_all more.indexes own in
    omega (arith, low, rest)

automatics_on : (table : Table) (at tree : ℕ) (keys : List (List ℕ)) → first_other_tree ≤ table.tree → AllByRecursion (λ i. first_other_tree ≤ i.table) (automatics table at tree keys)
automatics_on table at tree [] far = tt
automatics_on table at tree (key ∷ keys) far = (far, automatics_on table (at + 1) (tree + 1) keys far)

next_far : (schema : Schema) → HasOthers schema → first_other_tree ≤ next_tree schema
next_far schema is = subst (λ s. first_other_tree ≤ next_tree s) (sym is.own) (next_behind (others_in schema))

-- what is made of a schema, where that is its own tables with what stands behind them
pub table_made : (schema : Schema) (table : Table) → HasOthers schema → ReferElsewhere table → HasOthers (created schema table)
table_made schema table is elsewhere = record {
  own = same schema is.own;
  apart = by (others_in schema) schema is.own is.apart;
}
  where
    same : (s : Schema) → s ≡ behind schema_4 (others_in s) → created s table ≡ behind schema_4 (others_in (created s table))
    same s e = subst (λ t. created t table ≡ behind schema_4 (others_in (created t table))) (sym e) refl

    by : (more : Schema) (s : Schema) → s ≡ behind schema_4 more → AreBehind more → AreBehind (others_in (created s table))
    by more s e apart =
        let far : first_other_tree ≤ next_tree s = subst (λ t. first_other_tree ≤ next_tree t) (sym e) (next_behind more) in
        let new : Table = record table { tree = next_tree s } in
        let plain : AreBehind (record { tables = more.tables ++ new ∷ []; indexes = more.indexes ++ automatics new 0 (new.tree + 1) new.uniques; views = more.views }) = record {
          trees = all_more (λ t. first_other_tree ≤ t.tree) more.tables (new ∷ []) apart.trees (far, tt);
          indexes = all_more (λ i. first_other_tree ≤ i.table) more.indexes (automatics new 0 (new.tree + 1) new.uniques) apart.indexes (automatics_on new 0 (new.tree + 1) new.uniques far);
          references = all_more ReferElsewhere more.tables (new ∷ []) apart.references (elsewhere, tt);
        } in
        let is : record { tables = more.tables ++ new ∷ []; indexes = more.indexes ++ automatics new 0 (new.tree + 1) new.uniques; views = more.views } ≡ others_in (created s table) =
        sym (ap others_in (ap (λ (t : Schema). record { tables = t.tables ++ new ∷ []; indexes = t.indexes ++ automatics new 0 (new.tree + 1) new.uniques; views = t.views }) e)) in
        subst AreBehind is plain

pub index_made : (schema : Schema) (table : Table) (index : Index) → HasOthers schema → Has (others_in schema).tables table → HasOthers (indexed schema table index)
index_made schema table index is there = record {
  own = subst (λ t. indexed t table index ≡ behind schema_4 (others_in (indexed t table index))) (sym is.own) refl;
  apart = by (others_in schema) schema is.own is.apart there;
}
  where
    by : (more : Schema) (s : Schema) → s ≡ behind schema_4 more → AreBehind more → Has more.tables table → AreBehind (others_in (indexed s table index))
    by more s e apart has =
        let new : Index = record index { tree = next_tree s; table = table.tree } in
        let far : first_other_tree ≤ table.tree = all_at (λ t. first_other_tree ≤ t.tree) more.tables table apart.trees has in
        let plain : AreBehind (record { tables = more.tables; indexes = more.indexes ++ new ∷ []; views = more.views }) = record {
          trees = apart.trees;
          indexes = all_more (λ i. first_other_tree ≤ i.table) more.indexes (new ∷ []) apart.indexes (far, tt);
          references = apart.references;
        } in
        let is : record { tables = more.tables; indexes = more.indexes ++ new ∷ []; views = more.views } ≡ others_in (indexed s table index) =
        sym (ap others_in (ap (λ (t : Schema). record { tables = t.tables; indexes = t.indexes ++ new ∷ []; views = t.views }) e)) in
        subst AreBehind is plain

pub view_made : (schema : Schema) (view : View) → HasOthers schema → HasOthers (with_view schema view)
view_made schema view is = record {
  own = subst (λ t. with_view t view ≡ behind schema_4 (others_in (with_view t view))) (sym is.own) refl;
  apart = record { trees = is.apart.trees; indexes = is.apart.indexes; references = is.apart.references };
}

pub as_made : HasOthers schema_4
as_made = record { own = refl; apart = record { trees = tt; indexes = tt; references = tt } }
