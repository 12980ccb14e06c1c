-- A statement that puts a row into a table of a store is stopped by no rule.
use Rattle.std.proofs.Common.{◌≡◌, ◌⊎◌, inl, inr, ℕ, ℤ, Bool, true, false, ◌&&◌, ◌||◌, ◌==◌, List, [], ◌∷◌, fold, Option, Some, None, Result, Ok, Err, refl, sym, ap, subst, ◌∙◌}
use Rattle.std.specs.List.{list_any}
use Rattle.std.specs.Ordering.{is_eq}
use Rattle.std.proofs.lemmas.Bool.{both_ways, false_from_ne_true, not_from_false, and_from, or_parts}
use Rattle.sqlite_value.specs.declared.value.Value.TheVariants.{Null, Int}
use Rattle.sqlite_value.specs.Order.{Row, value_cmp}
use Rattle.sqlite_trees.specs.Tree.{Trees, rowid, put_row}
use Rattle.sqlite_sql.specs.Ops.{fits_i64}
use Rattle.sqlite_schema.specs.declared.command.Conflict.TheVariants.{Replace}
use Rattle.sqlite_schema.specs.declared.command.Source.{Source}
use Rattle.sqlite_schema.specs.declared.command.Source.TheVariants.{Values}
use Rattle.sqlite_schema.specs.declared.schema.Constraint.TheVariants.{Unique, ForeignKey}
use Rattle.sqlite_schema.specs.declared.schema.Keys.TheVariants.{Enforced}
use Rattle.sqlite_schema.specs.declared.schema.Table.{Table}
use Rattle.sqlite_schema.specs.declared.schema.Index.{Index}
use Rattle.sqlite_schema.specs.declared.schema.Schema.{Schema}
use Rattle.sqlite_schema.specs.Rules.{Keeps, agree, passes_checks}
use Rattle.sqlite_rules.specs.Lists.{Has}
use Rattle.sqlite_rules.specs.Steps.{IsJudged, is_typed, is_present}
use Rattle.sqlite_rules.specs.Cast.{cast_row}
use Rattle.sqlite_rules.specs.Calls.{ids_of}
use Rattle.sqlite_rules.specs.Keys.{AreConflicts, conflicts, shares}
use Rattle.sqlite_rules.specs.declared.error.Refusal.{Refusal}
use Rattle.sqlite_rules.specs.declared.error.Refusal.TheVariants.{Violates, Mismatch, NoRowid, BadReference, TooDeep}
use Rattle.sqlite_schema.specs.declared.schema.Constraint.TheVariants as rule
use Rattle.sqlite_rules.specs.declared.error.Rowids.TheVariants.{Given, Chosen}
use Rattle.sqlite_rules.specs.Edit.{Edit, IsOversized, edit_of, taken_by, without_all, put_all, is_taken, id_in, next_rowid, at_least, with_rowid}
use Rattle.sqlite_rules.proofs.ListLemmas.{some_has, some_from}
use Rattle.sqlite_rules.proofs.TableLemmas.{put_has, without_all_has}
use Rattle.sqlite.specs.declared.error.Error.{Error}
use Rattle.sqlite.specs.declared.run.Mode.{Mode}
use Rattle.sqlite.specs.Rows.{Written, Task, Edited, Puts, Clears, Tries, TriesEach, Inserts, InsertsOr, Counts, rowids_for, higher, Sourced, nothing, stamped, count_of}
use Rattle.sqlite.specs.Effect.{Database}
use Rattle.sqlite.specs.Does.{Concludes}
use Rattle.sqlite_typing.specs.Types.{accepts_terms}
use Rattle.sqlite_sql.specs.Term.{Term}
use Rattle.sqlite_value.specs.Keys.{plain as same_order}
use Rattle.sqlite_rules.proofs.PlaceLemmas.{next_is_free}
use Rattle.store_rows.proofs.PutLemmas.{IsPlainFor, numbered_row, tried, tried_each}
use Rattle.sqlite.proofs.Callers.{one_step}
use Rattle.store_schema.specs.Tables.{AreBehind, behind, schema_4}
use Rattle.store_rows.proofs.BesideLemmas.{no_works, tables_spared}
use Rattle.store_rows.proofs.EditLemmas.{SparesOthers, IsKeyed, IsTaken, taken, cleared, went, same_value}
use Rattle.store_rows.proofs.SafeLemmas.{IsSafe, IsOwn, not_stopped, clear_before, clear_fewer, clear_with, unique_after, referred, refers_after}

-- values that a table takes, whatever the rowid of their row
pub record IsGood (schema : Schema) (table : Table) (values : Row) : Type 0 where
  pub typed : (id : ℤ) → is_typed table (Int id ∷ values) ≡ true
  pub present : (id : ℤ) → is_present table (Int id ∷ values) ≡ true
  pub checked : (id : ℤ) → passes_checks table (Int id ∷ values) ≡ true
  pub stored : (id : ℤ) → IsOversized schema table (Int id ∷ values) → ⊥

-- a row has none of the keys of a new one
pub keys_apart : (indexes : List Index) (table : Table) (new r : Row) → list_any (shares None table new r) indexes ≡ false
    → (i : Index) → Has indexes i → (i.is_unique && (i.table == table.tree)) ≡ true → agree i.order i.columns r i.columns new ≡ false
keys_apart indexes table new r none i there on = false_from_ne_true _ (λ same. both_ways _ none (some_from (shares None table new r) indexes i there (rw (on, same) refl)))

-- as each statement runs, since no key waits for the commit
abbrev pub plain_mode : Mode
plain_mode = record { keys = Enforced; in_doubt = false; may_wait = false }

module _ (limit : Option ℕ) (more : Schema) (apart : AreBehind more) (table : Table) (own : IsOwn table) (listed : Has (behind schema_4 more).tables table) (params : Row) where
  abbrev schema : Schema
  schema = behind schema_4 more

  abbrev pub task_on : Task
  task_on = record { limit = limit; keys = Enforced; schema = behind schema_4 more; table = table; params = params }

  -- the keys of other tables still find their rows
  pub concludes : (db : Trees) (w : Written) (stop : Option Error) → Keeps ForeignKey schema db → SparesOthers task_on db w.trees → Concludes task_on plain_mode None w (Err stop) → ⊥
  concludes db w stop keeps spares (inl (s, tested, is)) = tested.0 (refers_after more apart Enforced db w.trees table.tree own.low spares keeps)
  concludes db w stop keeps spares (inr (b, tested, inl (s, returned, is))) = absurd (cc)
  concludes db w stop keeps spares (inr (b, tested, inr (rows, returned, is))) = absurd (cc)

  module _ (values : Row) (good : IsGood schema table values) where
    abbrev pub one_row : List ℤ → ℤ → Edit
    one_row gone id = record { table = table; gone = gone; news = (Int id ∷ values) ∷ [] }

    -- a row that has no key of those that stay
    pub safe_put : (gone : List ℤ) (id : ℤ) (db : Trees) → Keeps Unique schema db → is_taken (without_all (db table.tree) gone) (Int id ∷ values) ≡ false → fits_i64 id ≡ true
        → ((r : Row) → Has (without_all (db table.tree) gone) r → list_any (shares None table (Int id ∷ values) r) schema.indexes ≡ false) → IsSafe schema Enforced db (one_row gone id)
    safe_put gone id db keeps free small away =
        let left = without_all (db table.tree) gone in
        record {
          typed = and_from _ _ (good.typed id) refl;
          present = and_from _ _ (good.present id) refl;
          checked = and_from _ _ (good.checked id) refl;
          fresh = and_from _ _ (not_from_false _ free) refl;
          unique = unique_after schema db table.tree (put_row (Int id ∷ values) left) keeps
              (clear_with schema.indexes table.tree left (put_row (Int id ∷ values) left) (Int id ∷ values) (put_has (Int id ∷ values) left)
              (clear_fewer schema.indexes table.tree (db table.tree) left (without_all_has gone (db table.tree)) (clear_before schema db table listed keeps))
              (λ i there on r had. keys_apart schema.indexes table (Int id ∷ values) r (away r had) i there on));
          keyed = refl;
          small = and_from _ _ small refl;
          referred = referred more apart table own Enforced db gone ((Int id ∷ values) ∷ []);
          stored = λ row there big. elim there [ inl same ↦ good.stored id (subst (λ (r : Row). IsOversized schema table r) same big) | inr none ↦ none ];
          idle = no_works more apart Enforced table.tree own.low (taken_by db (one_row gone id)) (one_row gone id).news;
        }

    pub puts_stop : (id : ℤ) (db : Trees) (stop : Option Error) → cast_row table (Int id ∷ values) ≡ Int id ∷ values → Keeps Unique schema db → is_taken (db table.tree) (Int id ∷ values) ≡ false → fits_i64 id ≡ true
        → ((r : Row) → Has (db table.tree) r → list_any (shares None table (Int id ∷ values) r) schema.indexes ≡ false) → Puts task_on (Int id ∷ values) db (Err stop) → ⊥
    puts_stop id db stop cast keeps free small away (inl (s, edited, is)) =
        let news : (edit_of db table [] Given 0 ((Int id ∷ values) ∷ [])).news ≡ (Int id ∷ values) ∷ [] = ap (λ (r : Row). r ∷ []) cast in
        let same : edit_of db table [] Given 0 ((Int id ∷ values) ∷ []) ≡ one_row [] id = λ i. record { table = table; gone = []; news = news i } in
        not_stopped schema Enforced db (one_row [] id) (safe_put [] id db keeps free small away) s (subst (λ (e : Edit). Edited schema Enforced db e (Err s)) same edited)
    puts_stop id db stop cast keeps free small away (inr (next, edited, is)) = absurd (cc)

  -- rows that are taken out
  pub safe_clear : (ids : List ℤ) (db : Trees) → Keeps Unique schema db → IsSafe schema Enforced db (edit_of db table ids Given 0 [])
  safe_clear ids db keeps = record {
    typed = refl;
    present = refl;
    checked = refl;
    fresh = refl;
    unique = unique_after schema db table.tree (without_all (db table.tree) ids) keeps
        (clear_fewer schema.indexes table.tree (db table.tree) (without_all (db table.tree) ids) (without_all_has ids (db table.tree)) (clear_before schema db table listed keeps));
    keyed = refl;
    small = refl;
    referred = referred more apart table own Enforced db ids [];
    stored = λ row there big. there;
    idle = no_works more apart Enforced table.tree own.low (taken_by db (edit_of db table ids Given 0 [])) [];
  }

  -- a table that does not count its rows has nothing to count
  uncounted_left : table.is_counted ≡ false → (db next : Trees) (counter : Option Row) (top : ℤ) → Counts task_on db counter top (Ok next) → next ≡ db
  uncounted_left none db next counter top h = let same : ◌≡◌ {A = Result Trees (Option Error)} (Ok next) (Ok db) = rw none at h in same_value same

  -- the rows of an edit that went well
  pub edit_rows : (db next : Trees) (gone : List ℤ) (news : List Row) → Edited schema Enforced db (record { table = table; gone = gone; news = news }) (Ok next)
      → next table.tree ≡ put_all (without_all (db table.tree) gone) news
  edit_rows db next gone news h =
      let edit : Edit = record { table = table; gone = gone; news = news } in
      (one_step schema Enforced db next edit (no_works more apart Enforced table.tree own.low (taken_by db edit) edit.news) h).rows

  -- ---- INSERT OR REPLACE

  module _ (values : Row) (good : IsGood schema table values) (cast : (id : ℤ) → cast_row table (Int id ∷ values) ≡ Int id ∷ values) where
    abbrev hit : ℤ → Row → Bool
    hit id = conflicts None schema.indexes table (Int id ∷ values)

    free_fewer : (new : Row) (rows fewer : List Row) → ((r : Row) → Has fewer r → Has rows r) → is_taken rows new ≡ false → is_taken fewer new ≡ false
    free_fewer new rows fewer from free = false_from_ne_true _ (λ took.
        let r = some_has (λ (x : Row). is_eq (value_cmp (rowid x) (rowid new))) fewer took in both_ways _ free (some_from (λ (x : Row). is_eq (value_cmp (rowid x) (rowid new))) rows r.0 (from r.0 r.1) r.2))

    clears_stop : (id : ℤ) (db : Trees) (found : List Row) (stop : Option Error) → Keeps Unique schema db → IsKeyed (db table.tree) → is_taken (db table.tree) (Int id ∷ values) ≡ false → fits_i64 id ≡ true
        → AreConflicts None schema.indexes table (db table.tree) (Int id ∷ values) found → Clears task_on Replace (Int id ∷ values) db found (Err stop) → ⊥
    clears_stop id db [] stop keeps keyed free small these h =
        puts_stop values good id db stop (cast id) keeps free small
        (λ r had. (or_parts _ _ (false_from_ne_true (hit id r) (λ struck. these.complete r had struck))).1) h
    clears_stop id db (x ∷ found) stop keeps keyed free small these (inl (s, edited, is)) =
        not_stopped schema Enforced db (edit_of db table (ids_of (x ∷ found)) Given 0 []) (safe_clear (ids_of (x ∷ found)) db keeps) s edited
    clears_stop id db (x ∷ found) stop keeps keyed free small these (inr (mid, edited, puts)) =
        let edit = edit_of db table (ids_of (x ∷ found)) Given 0 [] in
        let a = one_step schema Enforced db mid edit (no_works more apart Enforced table.tree own.low (taken_by db edit) edit.news) edited in
        let rows : mid table.tree ≡ without_all (db table.tree) (ids_of (x ∷ found)) = a.rows in
        let gone : IsTaken (hit id) (db table.tree) (mid table.tree) = rw rows (taken (db table.tree) keyed (hit id) (x ∷ found)
        (λ y k. let r = these.sound y k in (r.0, r.1, r.2, ap (λ (z : Row). id_in (rowid z)) r.3))
        (λ r k struck. (rowid r ∷ [], these.complete r k struck, refl))) in
        puts_stop values good id mid stop (cast id) (a.fits.rules Unique (λ e. absurd (cc))) (free_fewer (Int id ∷ values) (db table.tree) (mid table.tree) (λ r k. (gone.only r k).0) free) small
        (λ r had. (or_parts _ _ (gone.only r had).1).1) puts

    judged_well : (id : ℤ) (why : Refusal) → IsJudged table (Int id ∷ values) (Some why) → ⊥
    judged_well id Mismatch h = absurd (cc)
    judged_well id NoRowid h = h
    judged_well id BadReference h = h
    judged_well id TooDeep h = h
    judged_well id (Violates rule.Datatype) h = both_ways _ h (good.typed id)
    judged_well id (Violates rule.NotNull) h = both_ways _ h (good.present id)
    judged_well id (Violates rule.Check) h = both_ways _ h (good.checked id)
    judged_well id (Violates rule.PrimaryKey) h = h
    judged_well id (Violates rule.Unique) h = h
    judged_well id (Violates rule.ForeignKey) h = h

    pub tries_stop : (id : ℤ) (db : Trees) (stop : Option Error) → Keeps Unique schema db → IsKeyed (db table.tree) → is_taken (db table.tree) (Int id ∷ values) ≡ false → fits_i64 id ≡ true
        → Tries task_on Replace [] (Int id ∷ values) db (Err stop) → ⊥
    tries_stop id db stop keeps keyed free small (inl (unfit, is)) = both_ways _ unfit small
    tries_stop id db stop keeps keyed free small (inr (None, judged, (found, these, h))) = clears_stop id db found stop keeps keyed free small these h
    tries_stop id db stop keeps keyed free small (inr (Some why, judged, h)) = judged_well id why judged

    module _ (plain : IsPlainFor task_on values) (some : Row → Bool)
        (meets : (id : ℤ) (r : Row) → conflicts None schema.indexes table (Int id ∷ values) r ≡ (agree same_order (0 ∷ []) r (0 ∷ []) (Int id ∷ values) || some r)) (uncounted : table.is_counted ≡ false) where
      each_stop : (sources : List Row) (top : ℤ) (db : Trees) (stop : Option Error) → sources ≡ (Null ∷ values) ∷ [] → Keeps Unique schema db → IsKeyed (db table.tree) → fits_i64 (next_rowid (db table.tree)) ≡ true
          → TriesEach task_on Replace [] sources top (nothing db) (Err stop) → ⊥
      each_stop sources top db stop is keeps keyed small h = by (subst (λ all. TriesEach task_on Replace [] all top (nothing db) (Err stop)) is h)
        where
          by : TriesEach task_on Replace [] ((Null ∷ values) ∷ []) top (nothing db) (Err stop) → ⊥
          by (inl (s, tries, e)) =
              tries_stop (at_least Chosen (next_rowid (db table.tree))) db s keeps keyed (next_is_free Chosen (db table.tree) values keyed.keyed keyed.numbered) small
              (subst (λ (new : Row). Tries task_on Replace [] new db (Err s)) (numbered_row task_on values plain top (db table.tree)) tries)
          by (inr (one, tries, e)) = absurd (cc)

      pub inserts_stop : (from : Source) (db : Trees) (stop : Option Error) → Keeps Unique schema db → IsKeyed (db table.tree) → fits_i64 (next_rowid (db table.tree)) ≡ true
          → ((s : Option Error) → Sourced limit (record { schema = schema; trees = db }) (stamped table params) from (Err s) → ⊥)
          → ((rows : List Row) → Sourced limit (record { schema = schema; trees = db }) (stamped table params) from (Ok rows) → rows ≡ (Null ∷ values) ∷ [])
          → InsertsOr task_on Replace [] from db (Err stop) → ⊥
      inserts_stop from db stop keeps keyed small goes are (inl (s, given, e)) = goes s given
      inserts_stop from db stop keeps keyed small goes are (inr (rows, given, inl (s, counter, e))) = absurd (let k = rw uncounted at counter in cc)
      inserts_stop from db stop keeps keyed small goes are (inr (rows, given, inr (counter, counted, inl (s, each, e)))) = each_stop rows (count_of counter) db s (are rows given) keeps keyed small each
      inserts_stop from db stop keeps keyed small goes are (inr (rows, given, inr (counter, counted, inr (done, each, inl (s, counts, e))))) = absurd (let k = rw uncounted at counts in cc)
      inserts_stop from db stop keeps keyed small goes are (inr (rows, given, inr (counter, counted, inr (done, each, inr (next, counts, e))))) = absurd (cc)

      -- what it wrote leaves the other tables
      pub inserts_spare : (from : Source) (db : Trees) (w : Written) → IsKeyed (db table.tree)
          → ((rows : List Row) → Sourced limit (record { schema = schema; trees = db }) (stamped table params) from (Ok rows) → rows ≡ (Null ∷ values) ∷ [])
          → InsertsOr task_on Replace [] from db (Ok w) → SparesOthers task_on db w.trees
      inserts_spare from db w keyed are h =
          let given = went h in
          let counted = went given.2 in
          let each = went counted.2 in
          let ends = went each.2 in
          let out = tried_each task_on values some plain meets given.0 (count_of counted.0) db each.0 (are given.0 given.1) keyed each.1 in
          let trees : each.0.0.trees ≡ w.trees = sym (uncounted_left uncounted each.0.0.trees ends.0 counted.0 each.0.1 ends.1) ∙ ap (λ (it : Written). it.trees) (sym (same_value ends.2)) in
          subst (λ (next : Trees). SparesOthers task_on db next) trees out.1

      -- where a row that was not there is
      puts_from : (id : ℤ) (db : Trees) (one : Written) → Puts task_on (Int id ∷ values) db (Ok one) → (r : Row) → Has (one.trees table.tree) r → (r ≡ Int id ∷ values) ⊎ Has (db table.tree) r
      puts_from id db one h r there =
          let it = went h in
          let trees : it.0 ≡ one.trees = ap (λ (w : Written). w.trees) (sym (same_value it.2)) in
          let rows : it.0 table.tree ≡ put_row (Int id ∷ values) (db table.tree) =
          edit_rows db it.0 [] (cast_row table (Int id ∷ values) ∷ []) it.1 ∙ ap (λ (n : Row). put_row n (db table.tree)) (cast id) in
          put_has (Int id ∷ values) (db table.tree) r (subst (λ (all : List Row). Has all r) rows (subst (λ (t : Trees). Has (t table.tree) r) (sym trees) there))

      pub inserts_from : (from : Source) (db : Trees) (w : Written)
          → ((rows : List Row) → Sourced limit (record { schema = schema; trees = db }) (stamped table params) from (Ok rows) → rows ≡ (Null ∷ values) ∷ [])
          → InsertsOr task_on Replace [] from db (Ok w) → (r : Row) → Has (w.trees table.tree) r → Has (db table.tree) r ⊎ (id_in (rowid r) ≡ next_rowid (db table.tree))
      inserts_from from db w are h r there =
          let id = at_least Chosen (next_rowid (db table.tree)) in
          let given = went h in
          let counted = went given.2 in
          let each = went counted.2 in
          let ends = went each.2 in
          let trees : each.0.0.trees ≡ w.trees = sym (uncounted_left uncounted each.0.0.trees ends.0 counted.0 each.0.1 ends.1) ∙ ap (λ (it : Written). it.trees) (sym (same_value ends.2)) in
          let one = went (subst (λ all. TriesEach task_on Replace [] all (count_of counted.0) (nothing db) (Ok each.0)) (are given.0 given.1) each.1) in
          let same : one.0.trees ≡ each.0.0.trees = ap (λ (p : Written × ℤ). p.0.trees) (sym (same_value one.2)) in
          let it = tried task_on (Int id ∷ values) db one.0 (subst (λ (new : Row). Tries task_on Replace [] new db (Ok one.0)) (numbered_row task_on values plain (count_of counted.0) (db table.tree)) one.1) in
          let step = cleared task_on (no_works more apart Enforced table.tree own.low) (Int id ∷ values) db it.0 one.0 it.2 in
          elim (puts_from id step.0 one.0 step.3 r (subst (λ (t : Trees). Has (t table.tree) r) (sym trees ∙ sym same) there)) [
            | inl new ↦ inr (ap (λ (x : Row). id_in (rowid x)) new)
            | inr old ↦ inl (without_all_has (ids_of it.0) (db table.tree) r (subst (λ (all : List Row). Has all r) step.1 old))
          ]

    -- ---- INSERT

    module _ (plain : IsPlainFor task_on values) (uncounted : table.is_counted ≡ false) where
      new_row : (counter : Option Row) (db : Trees) (rows : List Row) → rows ≡ (Null ∷ values) ∷ []
          → edit_of db table [] (rowids_for table (count_of counter)) 0 rows ≡ one_row values good [] (at_least Chosen (next_rowid (db table.tree)))
      new_row counter db rows is =
          let id = at_least Chosen (next_rowid (db table.tree)) in
          let one : with_rowid (rowids_for table (count_of counter)) (db table.tree) (cast_row table (Null ∷ values)) ≡ Int id ∷ values =
          ap (λ (s : Row). with_rowid (rowids_for table (count_of counter)) (db table.tree) (cast_row table s)) (sym plain.mended) ∙ numbered_row task_on values plain (count_of counter) (db table.tree) in
          let news : (edit_of db table [] (rowids_for table (count_of counter)) 0 rows).news ≡ (Int id ∷ values) ∷ [] =
          ap (λ (all : List Row). (edit_of db table [] (rowids_for table (count_of counter)) 0 all).news) is ∙ ap (λ (r : Row). r ∷ []) one in
          λ i. record { table = table; gone = []; news = news i }

      pub insert_stop : (from : Source) (db : Trees) (stop : Option Error) → Keeps Unique schema db → IsKeyed (db table.tree) → fits_i64 (next_rowid (db table.tree)) ≡ true
          → ((r : Row) → Has (db table.tree) r → list_any (shares None table (Int (next_rowid (db table.tree)) ∷ values) r) schema.indexes ≡ false)
          → ((s : Option Error) → Sourced limit (record { schema = schema; trees = db }) (stamped table params) from (Err s) → ⊥)
          → ((rows : List Row) → Sourced limit (record { schema = schema; trees = db }) (stamped table params) from (Ok rows) → rows ≡ (Null ∷ values) ∷ [])
          → Inserts task_on from db (Err stop) → ⊥
      insert_stop from db stop keeps keyed small away goes are (inl (s, given, e)) = goes s given
      insert_stop from db stop keeps keyed small away goes are (inr (rows, given, inl (s, counter, e))) = absurd (let k = rw uncounted at counter in cc)
      insert_stop from db stop keeps keyed small away goes are (inr (rows, given, inr (counter, counted, inl (s, edited, e)))) =
          let id = at_least Chosen (next_rowid (db table.tree)) in
          not_stopped schema Enforced db (one_row values good [] id)
          (safe_put values good [] id db keeps (next_is_free Chosen (db table.tree) values keyed.keyed keyed.numbered) small away) s
          (subst (λ (it : Edit). Edited schema Enforced db it (Err s)) (new_row counter db rows (are rows given)) edited)
      insert_stop from db stop keeps keyed small away goes are (inr (rows, given, inr (counter, counted, inr (next, edited, inl (s, counts, e))))) = absurd (let k = rw uncounted at counts in cc)
      insert_stop from db stop keeps keyed small away goes are (inr (rows, given, inr (counter, counted, inr (next, edited, inr (last, counts, e))))) = absurd (cc)

      pub insert_from : (from : Source) (db : Trees) (w : Written)
          → ((rows : List Row) → Sourced limit (record { schema = schema; trees = db }) (stamped table params) from (Ok rows) → rows ≡ (Null ∷ values) ∷ [])
          → Inserts task_on from db (Ok w) → (r : Row) → Has (w.trees table.tree) r → Has (db table.tree) r ⊎ (id_in (rowid r) ≡ next_rowid (db table.tree))
      insert_from from db w are h r there =
          let id = at_least Chosen (next_rowid (db table.tree)) in
          let given = went h in
          let counted = went given.2 in
          let wrote = went counted.2 in
          let ends = went wrote.2 in
          let edit = edit_of db table [] (rowids_for table (count_of counted.0)) 0 given.0 in
          let trees : wrote.0 ≡ w.trees = sym (uncounted_left uncounted wrote.0 ends.0 counted.0 (fold higher (count_of counted.0) edit.news) ends.1) ∙ ap (λ (it : Written). it.trees) (sym (same_value ends.2)) in
          let rows : wrote.0 table.tree ≡ put_row (Int id ∷ values) (db table.tree) =
          edit_rows db wrote.0 [] ((Int id ∷ values) ∷ []) (subst (λ (e : Edit). Edited schema Enforced db e (Ok wrote.0)) (new_row counted.0 db given.0 (are given.0 given.1)) wrote.1) in
          elim (put_has (Int id ∷ values) (db table.tree) r (subst (λ (all : List Row). Has all r) rows (subst (λ (t : Trees). Has (t table.tree) r) (sym trees) there))) [
            | inl new ↦ inr (ap (λ (x : Row). id_in (rowid x)) new)
            | inr old ↦ inl old
          ]

  -- an edit of the table leaves the other tables
  pub edit_spares : (db next : Trees) (gone : List ℤ) (news : List Row) → Edited schema Enforced db (record { table = table; gone = gone; news = news }) (Ok next) → SparesOthers task_on db next
  edit_spares db next gone news h =
      let edit : Edit = record { table = table; gone = gone; news = news } in
      let a = one_step schema Enforced db next edit (no_works more apart Enforced table.tree own.low (taken_by db edit) edit.news) h in
      tables_spared schema.tables table.tree db next a.tables

  pub insert_spares : table.is_counted ≡ false → (from : Source) (db : Trees) (w : Written) → Inserts task_on from db (Ok w) → SparesOthers task_on db w.trees
  insert_spares uncounted from db w h =
      let given = went h in
      let counted = went given.2 in
      let wrote = went counted.2 in
      let ends = went wrote.2 in
      let edit = edit_of db table [] (rowids_for table (count_of counted.0)) 0 given.0 in
      let trees : wrote.0 ≡ w.trees = sym (uncounted_left uncounted wrote.0 ends.0 counted.0 (fold higher (count_of counted.0) edit.news) ends.1) ∙ ap (λ (it : Written). it.trees) (sym (same_value ends.2)) in
      subst (λ (next : Trees). SparesOthers task_on db next) trees (edit_spares db wrote.0 [] edit.news wrote.1)

-- values that are given are of their types
pub given_stop : (terms : List Term) (width : ℕ) (db : Database) (params : Row) → accepts_terms terms params ≡ true → (s : Option Error) → Sourced None db params (Values terms width) (Err s) → ⊥
given_stop terms width db params typed None h = h
given_stop terms width db params typed (Some e) (inl (mismatch, untyped)) = both_ways _ untyped typed
given_stop terms width db params typed (Some e) (inr (interrupted, limit)) = absurd (cc)
