-- What a query on one table answers: the rows that pass its test, shown as asked, in some order.
use Rattle.std.proofs.Common.{◌≡◌, inl, inr, ℕ, pos, negsuc, Bool, true, false, cond, List, [], ◌∷◌, ◌++◌, map, flat_map, None, refl, sym, ap, subst, ◌∙◌}
use Rattle.std.specs.List.{list_all}
use Rattle.std.specs.List.Sorted.{IsPermutation}
use Rattle.std.proofs.lemmas.List.Elements.{All-from_recursion, recursion_from_All}
use Rattle.std.proofs.lemmas.List.Sorted.{All-permutation, IsPermutation-sym}
use Rattle.sqlite_value.specs.declared.keys.Key.{Key}
use Rattle.sqlite_value.specs.declared.value.Value.TheVariants.{Null, Int}
use Rattle.sqlite_value.specs.Order.{Row}
use Rattle.sqlite_trees.specs.Tree.{Trees}
use Rattle.sqlite_sql.specs.Term.{Term, Env, lit, eval_all, holds}
use Rattle.sqlite_sql.specs.Query.{Query, inner, end, IsAnswerAs, Output, output}
use Rattle.sqlite_sql.specs.Program.{overlay}
use Rattle.sqlite_schema.specs.declared.schema.Schema.{Schema}
use Rattle.sqlite_schema.specs.declared.command.Command.TheVariants.{Select}
use Rattle.sqlite.specs.Listing.{understood, reads_listing}
use Rattle.sqlite.specs.Clock.{timed}
use Rattle.sqlite.specs.State.{State, Shown, ShowsRows, IsUnchanged}
use Rattle.sqlite.proofs.Callers.{IsPlain, command_of, reads_as}
use Rattle.sqlite_rules.specs.Lists.{Has}
use Rattle.sqlite_rules.proofs.ListLemmas.{all_has, all_from}

-- ---- membership

module _ {X : Type 0} where
  pub permuted_has : (xs ys : List X) (y : X) → IsPermutation xs ys → Has ys y → Has xs y
  permuted_has xs ys y same h =
      all_has (Has xs) ys y (recursion_from_All (Has xs) ys (All-permutation (Has xs) xs ys same (All-from_recursion (Has xs) xs (all_from (Has xs) xs (λ x k. k))))) h

  module _ {A : Type 0} (f : A → X) where
    pub mapped_has : (xs : List A) (y : X) → Has (map f xs) y → (x : A) × Has xs x × (y ≡ f x)
    mapped_has [] y h = absurd h
    mapped_has (x ∷ xs) y (inl e) = (x, inl refl, e)
    mapped_has (x ∷ xs) y (inr h) = let k = mapped_has xs y h in (k.0, inr k.1, k.2)

    pub has_mapped : (xs : List A) (x : A) → Has xs x → Has (map f xs) (f x)
    has_mapped [] x h = absurd h
    has_mapped (y ∷ xs) x (inl e) = inl (ap f e)
    has_mapped (y ∷ xs) x (inr h) = inr (has_mapped xs x h)

-- ---- the rows of a table that pass a test

abbrev pub passes : List Term → Row → Row → Bool
passes filter params r = list_all (holds (params ∷ r ∷ [])) filter

abbrev pub found : List Term → Row → List Row → List Env
found filter params rows = flat_map (λ r. cond (passes filter params r) ((params ∷ r ∷ []) ∷ []) []) rows

pub found_has : (filter : List Term) (params : Row) (rows : List Row) (env : Env) → Has (found filter params rows) env → (r : Row) × Has rows r × (passes filter params r ≡ true) × (env ≡ params ∷ r ∷ [])
found_has filter params [] env h = absurd h
found_has filter params (r ∷ rows) env h = go (passes filter params r) refl h (found_has filter params rows env)
  where
    go : (b : Bool) → passes filter params r ≡ b → Has (cond b ((params ∷ r ∷ []) ∷ []) [] ++ found filter params rows) env
        → (Has (found filter params rows) env → (x : Row) × Has rows x × (passes filter params x ≡ true) × (env ≡ params ∷ x ∷ []))
        → (x : Row) × Has (r ∷ rows) x × (passes filter params x ≡ true) × (env ≡ params ∷ x ∷ [])
    go true is (inl e) later = (r, inl refl, is, e)
    go true is (inr more) later = let k = later more in (k.0, inr k.1, k.2, k.3)
    go false is more later = let k = later more in (k.0, inr k.1, k.2, k.3)

has_found : (filter : List Term) (params : Row) (rows : List Row) (r : Row) → Has rows r → passes filter params r ≡ true → Has (found filter params rows) (params ∷ r ∷ [])
has_found filter params [] r h is = absurd h
has_found filter params (y ∷ rows) r (inl e) is = let here : passes filter params y ≡ true = subst (λ (x : Row). passes filter params x ≡ true) e is in rw here (inl (ap (λ (x : Row). params ∷ x ∷ []) e))
has_found filter params (y ∷ rows) r (inr h) is = go (passes filter params y) (has_found filter params rows r h is)
  where
    go : (b : Bool) → Has (found filter params rows) (params ∷ r ∷ []) → Has (cond b ((params ∷ y ∷ []) ∷ []) [] ++ found filter params rows) (params ∷ r ∷ [])
    go true later = inr later
    go false later = later

-- a query on one table, with all its rows
abbrev pub query_on : ℕ → List Term → List Term → List (Term × Key) → Query
query_on tree filter project order = record {
  from = inner tree end;
  filter = filter;
  group = None;
  project = project;
  distinct = false;
  collations = [];
  order = order;
  limit = lit (Int (negsuc 0));
  offset = lit (Int (pos 0));
}

module _ (tree : ℕ) (filter project : List Term) (order : List (Term × Key)) (db : Trees) (params : Row) (rows : List Row) (a : IsAnswerAs Null (query_on tree filter project order) db params rows) where
  q : Query
  q = query_on tree filter project order

  pub outputs : a.kept ≡ map (output (query_on tree filter project order)) (found filter params (db tree))
  outputs = a.distinct ∙ ap (map (output (query_on tree filter project order))) a.grouped

  pub shown : rows ≡ map (λ (o : Output). o.1) a.ordered
  shown = a.shown

  pub answer_has : (x : Row) → Has rows x → (r : Row) × Has (db tree) r × (passes filter params r ≡ true) × (x ≡ eval_all project (params ∷ r ∷ []))
  answer_has x h =
      let o = mapped_has (λ (p : Output). p.1) a.ordered x (subst (λ (all : List Row). Has all x) shown h) in
      let k = permuted_has a.kept a.ordered o.0 a.same o.1 in
      let e = mapped_has (output (query_on tree filter project order)) (found filter params (db tree)) o.0 (subst (λ (all : List Output). Has all o.0) outputs k) in
      let r = found_has filter params (db tree) e.0 e.1 in
      (r.0, r.1, r.2, o.2 ∙ ap (λ (p : Output). p.1) (e.2 ∙ ap (output (query_on tree filter project order)) r.3))

  pub has_answer : (r : Row) → Has (db tree) r → passes filter params r ≡ true → Has rows (eval_all project (params ∷ r ∷ []))
  has_answer r h is =
      let env = has_found filter params (db tree) r h is in
      let o : Output = output (query_on tree filter project order) (params ∷ r ∷ []) in
      let k : Has a.kept o = subst (λ (all : List Output). Has all o) (sym outputs) (has_mapped (output (query_on tree filter project order)) (found filter params (db tree)) (params ∷ r ∷ []) env) in
      let there = permuted_has a.ordered a.kept o (IsPermutation-sym a.kept a.ordered a.same) k in
      subst (λ (all : List Row). Has all o.1) (sym shown) (has_mapped (λ (p : Output). p.1) a.ordered o there)

-- ---- what a statement that reads shows

module _ (sql : List ℕ) (old new : State) (schema : Schema) (has : old.now.schema ≡ schema) (tree : ℕ) (project : List Term) (order : List (Term × Key)) (names : List (List ℕ))
    (is : command_of (understood schema sql) ≡ Select (record { lets = []; body = query_on tree [] project order }) names) (plain : IsPlain (understood schema sql)) (unlisted : reads_listing schema sql ≡ false)
    (rows : List Row) (h : Shown sql [] old new rows) where
  pub answer : IsAnswerAs Null (query_on tree [] project order) (overlay old.now.trees []) [] rows
  answer = (reads_as sql [] old new schema has (Select (record { lets = []; body = query_on tree [] project order }) names) is plain unlisted rows h).answer Null

  pub shown_has : (x : Row) → Has rows x → (r : Row) × Has (overlay old.now.trees [] tree) r × (x ≡ eval_all project ([] ∷ r ∷ []))
  shown_has x k = let it = answer_has tree [] project order (overlay old.now.trees []) [] rows answer x k in (it.0, it.1, it.3)

  pub has_shown : (r : Row) → Has (overlay old.now.trees [] tree) r → Has rows (eval_all project ([] ∷ r ∷ []))
  has_shown r k = has_answer tree [] project order (overlay old.now.trees []) [] rows answer r k refl

-- a statement that reads changes nothing
pub shown_same : (sql : List ℕ) (params : Row) (old new : State) (rows : List Row) → IsPlain (understood old.now.schema sql) → Shown sql params old new rows → IsUnchanged old new
unfolding Shown
shown_same sql params old new rows plain h =
    let none = (subst IsPlain h.1.is plain).0 in
    let full = timed params h.0.formats h.1.now in
    (subst (ShowsRows old new sql h.0 full rows) none h.2).3
