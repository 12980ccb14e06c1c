-- A statement that finds rows of a table of a store, and takes them out or writes over them, is stopped by no rule.
use Rattle.std.proofs.Common.{◌≡◌, inl, inr, ℕ, ◌≤◌, ℤ, Bool, true, false, not, ◌&&◌, ◌==◌, List, [], ◌∷◌, drop, map, length, Option, Some, None, Ok, Err, Less, IsTrue, refl, sym, ap, subst, ◌∙◌, arith}
use Rattle.std.proofs.lemmas.List.{length-map}
use Rattle.std.specs.List.{AllByRecursion, list_any}
use Rattle.std.specs.Ordering.{is_eq}
use Rattle.std.proofs.lemmas.Bool.{cases_Bool, both_ways, not-true, false_from_ne_true, and_from}
use Rattle.std.proofs.lemmas.List.Sorted.{length_permutation}
use Rattle.sqlite_value.specs.declared.value.Value.TheVariants.{Null, Int}
use Rattle.sqlite_value.specs.Order.{Row, value_cmp}
use Rattle.sqlite_trees.specs.Tree.{Trees, IsTable, rowid, has_rowid}
use Rattle.sqlite_sql.specs.Ops.{binary, fits_i64}
use Rattle.sqlite_sql.specs.Term.{Term}
use Rattle.sqlite_sql.specs.Query.{IsAnswerAs, Output, output}
use Rattle.sqlite_sql.specs.Program.{overlay}
use Rattle.sqlite_schema.specs.declared.program.Program.{Program}
use Rattle.sqlite_schema.specs.declared.schema.Constraint.TheVariants.{Unique}
use Rattle.sqlite_schema.specs.declared.schema.Keys.TheVariants.{Enforced}
use Rattle.sqlite_schema.specs.declared.schema.Table.{Table}
use Rattle.sqlite_schema.specs.declared.schema.Index.{Index}
use Rattle.sqlite_schema.specs.declared.schema.Schema.{Schema}
use Rattle.sqlite_schema.specs.Rules.{Keeps, agree, differ}
use Rattle.sqlite_rules.specs.Lists.{Has}
use Rattle.sqlite_rules.specs.Cast.{cast_row}
use Rattle.sqlite_rules.specs.Calls.{ids_of}
use Rattle.sqlite_rules.specs.Keys.{shares}
use Rattle.sqlite_rules.specs.declared.error.Rowids.TheVariants.{Given}
use Rattle.sqlite_rules.specs.Edit.{Edit, edit_of, without_all, put_all, is_taken, id_in}
use Rattle.sqlite_rules.proofs.TableLemmas.{int_is, put_all_has, without_all_has}
use Rattle.sqlite_rules.proofs.ListLemmas.{all_has, any_has, some_has, some_from, has_filtered}
use Rattle.sqlite_typing.specs.Types.{accepts_program}
use Rattle.sqlite.specs.Effect.{Database}
use Rattle.sqlite.specs.declared.error.Error.{Error}
use Rattle.sqlite.specs.Rows.{Written, Task, Edited, Queried, Updates, Deletes}
use Rattle.store_schema.specs.Tables.{AreBehind, behind, schema_4}
use Rattle.store_rows.proofs.EditLemmas.{SparesOthers, IsKeyed, IsTaken, taken, as_given, went, same_value}
use Rattle.store_rows.proofs.ReadLemmas.{mapped_has, passes, found, query_on, outputs, shown}
use Rattle.store_rows.proofs.SafeLemmas.{IsOwn, IsClear, not_stopped}
use Rattle.store_rows.proofs.StopPutLemmas.{IsGood, task_on, safe_clear, safe_put, one_row, edit_spares, edit_rows}

-- ---- what a query finds

pub query_stop : (tree : ℕ) (filter project : List Term) (db : Database) (params : Row) → accepts_program db.schema [] (query_on tree filter project []) params ≡ true
    → (s : Option Error) → Queried None db (record { lets = []; body = query_on tree filter project [] }) params (Err s) → ⊥
query_stop tree filter project db params typed None h = h
query_stop tree filter project db params typed (Some e) (inl (mismatch, untyped)) = both_ways _ untyped typed
query_stop tree filter project db params typed (Some e) (inr (inl (overflow, inl sum))) = sum
query_stop tree filter project db params typed (Some e) (inr (inl (overflow, inr fold))) = (any_has (λ _. ⊥) (overlay db.trees [] tree) fold).2
query_stop tree filter project db params typed (Some e) (inr (inr (interrupted, limit))) = absurd (cc)

none_found : (filter : List Term) (params : Row) (rows : List Row) → ((r : Row) → Has rows r → passes filter params r ≡ false) → found filter params rows ≡ []
none_found filter params [] none = refl
none_found filter params (r ∷ rows) none = rw (none r (inl refl)) (none_found filter params rows (λ s h. none s (inr h)))

-- where no two rows are hit, at most one is found
few_found : (filter : List Term) (params : Row) (rows : List Row) → IsTable rows
    → ((r s : Row) → Has rows r → Has rows s → passes filter params r ≡ true → passes filter params s ≡ true → value_cmp (rowid r) (rowid s) ≡ Less → ⊥) → length (found filter params rows) ≤ 1
few_found filter params [] up one = omega arith
few_found filter params (r ∷ rows) up one = elim (cases_Bool (passes filter params r)) [
  | inl is ↦
      let rest = none_found filter params rows (λ s h. false_from_ne_true _ (λ struck. one r s (inl refl) (inr h) is struck (all_has _ rows s up.0 h))) in
      rw (is, rest) (omega arith)
  | inr not_it ↦ rw not_it (few_found filter params rows up.1 (λ a b h k. one a b (inr h) (inr k)))
]

pub few_answers : (tree : ℕ) (filter project : List Term) (db : Trees) (params : Row) (rows : List Row) → IsAnswerAs Null (query_on tree filter project []) db params rows → IsTable (db tree)
    → ((r s : Row) → Has (db tree) r → Has (db tree) s → passes filter params r ≡ true → passes filter params s ≡ true → value_cmp (rowid r) (rowid s) ≡ Less → ⊥) → length rows ≤ 1
few_answers tree filter project db params rows a up one =
    let few = few_found filter params (db tree) up one in
    let kept : length a.kept ≡ length (found filter params (db tree)) = ap length (outputs tree filter project [] db params rows a) ∙ length-map (found filter params (db tree)) (output (query_on tree filter project [])) in
    let ordered : length a.kept ≡ length a.ordered = sym (length_permutation a.kept a.ordered a.same) in
    let all : length rows ≡ length a.ordered = ap length (shown tree filter project [] db params rows a) ∙ length-map a.ordered (λ (o : Output). o.1) in
    omega (arith, few, kept, ordered, all)

-- ---- rows with one key

apart_values : (a b : ℤ) → value_cmp (Int a) (Int b) ≡ Less → differ (Int a) (Int b) ≡ true
unfolding binary
apart_values a b less = rw less refl

pub never_two : (indexes : List Index) (tree : ℕ) (rows : List Row) → IsClear indexes tree rows → AllByRecursion (λ r. IsTrue (Rattle.sqlite_trees.specs.View.is_int (rowid r))) rows → (i : Index) → Has indexes i → (i.is_unique && (i.table == tree)) ≡ true
    → (r s : Row) → Has rows r → Has rows s → agree i.order i.columns r i.columns s ≡ true → value_cmp (rowid r) (rowid s) ≡ Less → ⊥
never_two indexes tree rows clear ints i there on r s h k same less =
    let a = int_is (rowid r) (all_has _ rows r ints h) in
    let b = int_is (rowid s) (all_has _ rows s ints k) in
    let other : differ (rowid r) (rowid s) ≡ true = rw (a, b) (apart_values (id_in (rowid r)) (id_in (rowid s)) (rw (← a, ← b) less)) in
    both_ways _ (clear i there on s k) (some_from _ rows r h (and_from _ _ same other))

-- ---- DELETE and UPDATE

module _ (limit : Option ℕ) (more : Schema) (apart : AreBehind more) (table : Table) (own : IsOwn table) (listed : Has (behind schema_4 more).tables table) (params : Row) where
  abbrev schema : Schema
  schema = behind schema_4 more

  abbrev task : Task
  task = task_on limit more apart table own listed params

  pub delete_stop : (q : Program) (db : Trees) (stop : Option Error) → Keeps Unique schema db → ((s : Option Error) → Queried limit (record { schema = schema; trees = db }) q params (Err s) → ⊥)
      → Deletes task q db (Err stop) → ⊥
  delete_stop q db stop keeps goes (inl (s, queried, e)) = goes s queried
  delete_stop q db stop keeps goes (inr (rows, queried, inl (s, edited, e))) =
      not_stopped schema Enforced db (edit_of db table (ids_of rows) Given 0 []) (safe_clear limit more apart table own listed params (ids_of rows) db keeps) s edited
  delete_stop q db stop keeps goes (inr (rows, queried, inr (next, edited, e))) = absurd (cc)

  pub delete_spares : (q : Program) (db : Trees) (w : Written) → Deletes task q db (Ok w) → SparesOthers task db w.trees
  delete_spares q db w h =
      let queried = went h in
      let wrote = went queried.2 in
      let trees : wrote.0 ≡ w.trees = ap (λ (it : Written). it.trees) (sym (same_value wrote.2)) in
      subst (λ (next : Trees). SparesOthers task db next) trees (edit_spares limit more apart table own listed params db wrote.0 (ids_of queried.0) [] wrote.1)

  pub update_spares : (q : Program) (db : Trees) (w : Written) → Updates task q params db (Ok w) → SparesOthers task db w.trees
  update_spares q db w h =
      let queried = went h in
      let wrote = went queried.2 in
      let trees : wrote.0 ≡ w.trees = ap (λ (it : Written). it.trees) (sym (same_value wrote.2)) in
      subst (λ (next : Trees). SparesOthers task db next) trees
      (edit_spares limit more apart table own listed params db wrote.0 (ids_of queried.0) (edit_of db table (ids_of queried.0) Given 1 queried.0).news wrote.1)

  pub delete_from : (q : Program) (db : Trees) (w : Written) → Deletes task q db (Ok w) → (r : Row) → Has (w.trees table.tree) r → Has (db table.tree) r
  delete_from q db w h r there =
      let queried = went h in
      let wrote = went queried.2 in
      let trees : wrote.0 ≡ w.trees = ap (λ (it : Written). it.trees) (sym (same_value wrote.2)) in
      let rows : wrote.0 table.tree ≡ without_all (db table.tree) (ids_of queried.0) = edit_rows limit more apart table own listed params db wrote.0 (ids_of queried.0) [] wrote.1 in
      without_all_has (ids_of queried.0) (db table.tree) r (subst (λ (all : List Row). Has all r) rows (subst (λ (t : Trees). Has (t table.tree) r) (sym trees) there))

  -- each row has the rowid of one that was there
  pub update_from : (q : Program) (db : Trees) (w : Written)
      → ((rows : List Row) → Queried limit (record { schema = schema; trees = db }) q params (Ok rows) → (x : Row) → Has rows x → (r : Row) × Has (db table.tree) r × (id_in (rowid (cast_row table (drop 1 x))) ≡ id_in (rowid r)))
      → Updates task q params db (Ok w) → (n : Row) → Has (w.trees table.tree) n → (r : Row) × Has (db table.tree) r × (id_in (rowid n) ≡ id_in (rowid r))
  update_from q db w was h n there =
      let queried = went h in
      let wrote = went queried.2 in
      let trees : wrote.0 ≡ w.trees = ap (λ (it : Written). it.trees) (sym (same_value wrote.2)) in
      let left = without_all (db table.tree) (ids_of queried.0) in
      let news = map (λ s. cast_row table (drop 1 s)) queried.0 in
      let rows : wrote.0 table.tree ≡ put_all left news =
      edit_rows limit more apart table own listed params db wrote.0 (ids_of queried.0) (edit_of db table (ids_of queried.0) Given 1 queried.0).news wrote.1 ∙ ap (put_all left) (as_given left news) in
      elim (put_all_has news left n (subst (λ (all : List Row). Has all n) rows (subst (λ (t : Trees). Has (t table.tree) n) (sym trees) there))) [
        | inl new ↦ let x = mapped_has (λ s. cast_row table (drop 1 s)) queried.0 n new in let r = was queried.0 queried.1 x.0 x.1 in (r.0, r.1, ap (λ (y : Row). id_in (rowid y)) x.2 ∙ r.2)
        | inr old ↦ (n, without_all_has (ids_of queried.0) (db table.tree) n old, refl)
      ]

  -- no row that stays has the rowid of one that went
  gone_free : (id : ℤ) (values : Row) (rows : List Row) → is_taken (without_all rows (id ∷ [])) (Int id ∷ values) ≡ false
  gone_free id values rows = false_from_ne_true _ (λ took.
      let r = some_has (λ (x : Row). is_eq (value_cmp (rowid x) (Int id))) (without_all rows (id ∷ [])) took in
      both_ways _ (not-true _ (has_filtered (λ (x : Row). not (has_rowid id x)) rows r.0 r.1).1) r.2)

  module _ (values : Row) (good : IsGood schema table values) (hit : Row → Bool) (q : Program) (db : Trees) (keyed : IsKeyed (db table.tree)) (keeps : Keeps Unique schema db)
      (goes : (s : Option Error) → Queried limit (record { schema = schema; trees = db }) q params (Err s) → ⊥)
      (few : (rows : List Row) → Queried limit (record { schema = schema; trees = db }) q params (Ok rows) → length rows ≤ 1)
      (sound : (rows : List Row) → Queried limit (record { schema = schema; trees = db }) q params (Ok rows) → (x : Row) → Has rows x
      → (r : Row) × Has (db table.tree) r × (hit r ≡ true) × (id_in (rowid x) ≡ id_in (rowid r)) × (cast_row table (drop 1 x) ≡ Int (id_in (rowid r)) ∷ values))
      (complete : (rows : List Row) → Queried limit (record { schema = schema; trees = db }) q params (Ok rows) → (r : Row) → Has (db table.tree) r → hit r ≡ true → (x : Row) × Has rows x × (id_in (rowid x) ≡ id_in (rowid r)))
      (small : (r : Row) → Has (db table.tree) r → fits_i64 (id_in (rowid r)) ≡ true)
      (away : (id : ℤ) (r : Row) → Has (db table.tree) r → hit r ≡ false → list_any (shares None table (Int id ∷ values) r) schema.indexes ≡ false) where
    over_stop : (rows : List Row) (stop : Option Error) → Queried limit (record { schema = schema; trees = db }) q params (Ok rows) → length rows ≤ 1
        → Edited schema Enforced db (edit_of db table (ids_of rows) Given 1 rows) (Err stop) → ⊥
    over_stop [] stop queried one edited = not_stopped schema Enforced db (edit_of db table [] Given 0 []) (safe_clear limit more apart table own listed params [] db keeps) stop edited
    over_stop (x ∷ []) stop queried one edited =
        let it = sound (x ∷ []) queried x (inl refl) in
        let id = id_in (rowid x) in
        let cast : cast_row table (drop 1 x) ≡ Int id ∷ values = it.4 ∙ ap (λ (z : ℤ). Int z ∷ values) (sym it.3) in
        let news : (edit_of db table (id ∷ []) Given 1 (x ∷ [])).news ≡ (Int id ∷ values) ∷ [] = ap (λ (r : Row). r ∷ []) cast in
        let same : edit_of db table (id ∷ []) Given 1 (x ∷ []) ≡ one_row limit more apart table own listed params values good (id ∷ []) id = λ i. record { table = table; gone = id ∷ []; news = news i } in
        let left : IsTaken hit (db table.tree) (without_all (db table.tree) (id ∷ [])) =
        taken (db table.tree) keyed hit (x ∷ []) (λ y k. let r = sound (x ∷ []) queried y k in (r.0, r.1, r.2, r.3)) (complete (x ∷ []) queried) in
        not_stopped schema Enforced db (one_row limit more apart table own listed params values good (id ∷ []) id)
        (safe_put limit more apart table own listed params values good (id ∷ []) id db keeps (gone_free id values (db table.tree)) (rw it.3 (small it.0 it.1))
        (λ r had. let was = left.only r had in away id r was.0 was.1)) stop
        (subst (λ (e : Edit). Edited schema Enforced db e (Err stop)) same edited)
    over_stop (x ∷ (y ∷ rows)) stop queried one edited = absurd (omega (arith, one))

    pub update_stop : (stop : Option Error) → Updates task q params db (Err stop) → ⊥
    update_stop stop (inl (s, queried, e)) = goes s queried
    update_stop stop (inr (rows, queried, inl (s, edited, e))) = over_stop rows s queried (few rows queried) edited
    update_stop stop (inr (rows, queried, inr (next, edited, e))) = absurd (cc)
