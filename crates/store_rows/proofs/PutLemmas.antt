-- What the statements that set a row do: INSERT OR REPLACE into meta, cells and notices.
use Rattle.std.proofs.Common.{◌≡◌, ◌≢◌, inl, inr, ℕ, ℤ, pos, Bool, true, false, ◌&&◌, ◌||◌, cond, List, [], ◌∷◌, Ok, Err, Option, Some, None, is_eq, refl, sym, ap, subst, ◌∙◌, arith}
use Rattle.std.specs.List.{list_any}
use Rattle.std.proofs.lemmas.Bool.{both_ways, false_from_ne_true}
use Rattle.sqlite_value.specs.declared.value.Value.{Value}
use Rattle.sqlite_value.specs.declared.value.Value.TheVariants.{Null, Int}
use Rattle.sqlite_value.specs.declared.keys.Collation.TheVariants.{Binary}
use Rattle.sqlite_value.specs.Order.{Row, value_cmp}
use Rattle.sqlite_value.specs.Keys.{plain, first_key}
use Rattle.sqlite_trees.specs.Tree.{Trees, rowid}
use Rattle.sqlite_sql.specs.Ops.{unary, binary, is_null, is_true, from_truth}
use Rattle.sqlite_sql.specs.Term.{Term, lit, col}
use Rattle.sqlite_schema.specs.declared.schema.Kind.TheVariants.{Integer}
use Rattle.sqlite_schema.specs.declared.schema.Table.{Table}
use Rattle.sqlite_schema.specs.declared.command.Command.{Command}
use Rattle.sqlite_schema.specs.declared.command.Command.TheVariants.{InsertOr}
use Rattle.sqlite_schema.specs.declared.command.Source.TheVariants.{Values}
use Rattle.sqlite_schema.specs.declared.command.Conflict.TheVariants.{Replace}
use Rattle.sqlite_schema.specs.Rules.{equal, agree}
use Rattle.sqlite_rules.specs.declared.error.Refusal.{Refusal}
use Rattle.sqlite_rules.specs.declared.error.Rowids.TheVariants.{Chosen}
use Rattle.sqlite_rules.specs.Lists.{Has}
use Rattle.sqlite_rules.specs.Cast.{cast, cast_row}
use Rattle.sqlite_rules.specs.Keys.{AreConflicts, conflicts, shares}
use Rattle.sqlite_rules.specs.Action.{works}
use Rattle.sqlite_rules.specs.Edit.{with_rowid, at_least, next_rowid, is_taken}
use Rattle.sqlite_rules.proofs.ListLemmas.{some_from}
use Rattle.sqlite_rules.proofs.PlaceLemmas.{next_is_free}
use Rattle.sqlite_tied.specs.Compute.{everything}
use Rattle.sqlite.specs.Effect.{Database, IsDatabase}
use Rattle.sqlite.specs.Rows.{Written, Task, Tries, Judged, Clears, TriesEach, nothing, count_of, mended, rowids_for}
use Rattle.sqlite.specs.Does.{Does, Tally}
use Rattle.sqlite.specs.State.{State, Executes, mode_of}
use Rattle.sqlite.specs.Listing.{understood}
use Rattle.sqlite.proofs.Callers.{IsPlain, command_of, statement_of, runs_as}
use Rattle.sqlite_schema.specs.declared.schema.Schema.{Schema}
use Rattle.store_schema.specs.Tables.{AreBehind, behind, schema_4, meta_table, meta_tree, cells_table, cells_tree, notices_table, notices_tree}
use Rattle.store_rows.specs.declared.content.StoredCell.{StoredCell}
use Rattle.store_rows.specs.declared.content.StoredNotice.{StoredNotice}
use Rattle.store_rows.specs.Texts.{put_mark_text, put_cell_text, put_notice_text}
use Rattle.store_rows.specs.Rows.{mark_row, cell_row, notice_row}
use Rattle.store_rows.proofs.BesideLemmas.{IsTableTree, no_works, shared}
use Rattle.store_rows.proofs.EditLemmas.{went, same_value, IsKeyed, IsPut, replaced, SparesOthers}

-- ---- values

either : (b : Bool) (x : Value) → cond b x x ≡ x
either true x = refl
either false x = refl

pub cast_null : cast Integer Null ≡ Null
unfolding unary
cast_null = either _ Null

pub cast_int : (n : ℤ) → cast Integer (Int n) ≡ Int n
unfolding unary
cast_int n = either _ (Int n)

pub compared_parts : (null test : Bool) → is_true (cond null Null (from_truth (Some test))) ≡ true → test ≡ true
compared_parts true test h = absurd (cc)
compared_parts false true h = refl
compared_parts false false h = absurd (cc)

equal_tied : (a b : Value) → equal Binary a b ≡ true → is_eq (value_cmp a b) ≡ true
unfolding binary
equal_tied a b h = compared_parts (is_null a || is_null b) (is_eq (value_cmp a b)) h

and_true : (b : Bool) → (b && true) ≡ b
and_true true = refl
and_true false = refl

-- a row does not have a rowid that is free
pub other_rowid : (rows : List Row) (new r : Row) → is_taken rows new ≡ false → Has rows r → agree plain (0 ∷ []) r (0 ∷ []) new ≡ false
unfolding first_key
other_rowid rows new r free h = false_from_ne_true _ (λ same.
    let tie = equal_tied (rowid r) (rowid new) (sym (and_true _) ∙ same) in
    both_ways _ free (some_from (λ x. is_eq (value_cmp (rowid x) (rowid new))) rows r h tie))

-- ---- the steps of a statement

judged : (task : Task) (new : Row) (db : Trees) (one : Written) (verdict : Option Refusal) → Judged task Replace [] new db verdict (Ok one)
    → (found : List Row) × AreConflicts None task.schema.indexes task.table (db task.table.tree) new found × Clears task Replace new db found (Ok one)
judged task new db one None h = h
judged task new db one (Some why) h = absurd (let e : Ok one ≡ Err _ = h in cc)

pub tried : (task : Task) (new : Row) (db : Trees) (one : Written) → Tries task Replace [] new db (Ok one)
    → (found : List Row) × AreConflicts None task.schema.indexes task.table (db task.table.tree) new found × Clears task Replace new db found (Ok one)
tried task new db one (inl refused) = absurd (let e = refused.1 in cc)
tried task new db one (inr h) = judged task new db one h.0 h.2

-- a table of a store after a row was set
pub record HasPut (more : Schema) (tree : ℕ) (hit : Row → Bool) (values : Row) (old new : Database) : Type 0 where
  pub schema : new.schema ≡ behind schema_4 more
  pub rows : IsPut hit values (old.trees tree) (new.trees tree)
  pub others : (t : ℕ) → t ≢ tree → IsTableTree (behind schema_4 more) t → new.trees t ≡ old.trees t
  pub sound : IsDatabase new

-- a row has a key of these values
abbrev pub hits : Table → Row → Row → Bool
hits table values r = list_any (shares None table (Int (pos 0) ∷ values) r) schema_4.indexes

-- the table of a task, with values that it stores as they are
pub record IsPlainFor (task : Task) (values : Row) : Type 0 where
  pub idle : (olds news : List Row) → works task.schema task.keys 0 task.table.tree olds news ≡ []
  pub chosen : (top : ℤ) → rowids_for task.table top ≡ Chosen
  pub mended : mended Replace task.table (Null ∷ values) ≡ Null ∷ values
  pub cast : (v : Value) → cast_row task.table (v ∷ values) ≡ cast Integer v ∷ values

-- such a row at the rowid after the last
module _ (task : Task) (values : Row) (fits : IsPlainFor task values) where
  open task use {table}

  pub numbered_row : (top : ℤ) (rows : List Row) → with_rowid (rowids_for table top) rows (cast_row table (Rattle.sqlite.specs.Rows.mended Replace table (Null ∷ values))) ≡ Int (at_least Chosen (next_rowid rows)) ∷ values
  numbered_row top rows =
      ap (λ k. with_rowid k rows (cast_row table (Rattle.sqlite.specs.Rows.mended Replace table (Null ∷ values)))) (fits.chosen top)
      ∙ ap (λ (s : Row). with_rowid Chosen rows (cast_row table s)) fits.mended
      ∙ ap (with_rowid Chosen rows) (fits.cast Null ∙ ap (λ (v : Value). v ∷ values) cast_null)

module _ (task : Task) (values : Row) (hit : Row → Bool) (fits : IsPlainFor task values)
    (meets : (id : ℤ) (r : Row) → conflicts None task.schema.indexes task.table (Int id ∷ values) r ≡ (agree plain (0 ∷ []) r (0 ∷ []) (Int id ∷ values) || hit r)) where
  open task use {table}

  tried_one : (db : Trees) (one : Written) → IsKeyed (db table.tree) → Tries task Replace [] (Int (at_least Chosen (next_rowid (db table.tree))) ∷ values) db (Ok one)
      → IsPut hit values (db table.tree) (one.trees table.tree) × SparesOthers task db one.trees
  tried_one db one was h =
      let id = at_least Chosen (next_rowid (db table.tree)) in
      let it = tried task (Int id ∷ values) db one h in
      let free = next_is_free Chosen (db table.tree) values was.keyed was.numbered in
      replaced task fits.idle id values hit db it.0 one (fits.cast (Int id) ∙ ap (λ (v : Value). v ∷ values) (cast_int id)) was
      (λ r k. meets id r ∙ ap (λ b. b || hit r) (other_rowid (db table.tree) (Int id ∷ values) r free k)) it.1 it.2

  pub tried_each : (sources : List Row) (top : ℤ) (db : Trees) (out : Written × ℤ) → sources ≡ (Null ∷ values) ∷ [] → IsKeyed (db table.tree) → TriesEach task Replace [] sources top (nothing db) (Ok out)
      → IsPut hit values (db table.tree) (out.0.trees table.tree) × SparesOthers task db out.0.trees
  tried_each sources top db out is was h =
      let each = went (subst (λ all. TriesEach task Replace [] all top (nothing db) (Ok out)) is h) in
      let one = tried_one db each.0 was (subst (λ (new : Row). Tries task Replace [] new db (Ok each.0)) (numbered_row task values fits top (db table.tree)) each.1) in
      let trees : each.0.trees ≡ out.0.trees = ap (λ (p : Written × ℤ). p.0.trees) (sym (same_value each.2)) in
      subst (λ (next : Trees). IsPut hit values (db table.tree) (next table.tree) × SparesOthers task db next) trees one

-- ---- cells

abbrev pub cell_terms : List Term
cell_terms = lit Null ∷ col 0 0 ∷ col 0 1 ∷ col 0 2 ∷ []

abbrev pub put_cell_command : Command
put_cell_command = InsertOr 1 Replace (Values cell_terms 4) []

pub put_cell_is : (more : Schema) → command_of (understood (behind schema_4 more) put_cell_text) ≡ put_cell_command
unfolding understood everything
put_cell_is more = refl

pub put_cell_plain : (more : Schema) → IsPlain (understood (behind schema_4 more) put_cell_text)
unfolding understood everything
put_cell_plain more = (refl, refl)

pub cast_three : (v : Value) (a b c : ℤ) → cast_row cells_table (v ∷ Int a ∷ Int b ∷ Int c ∷ []) ≡ cast Integer v ∷ Int a ∷ Int b ∷ Int c ∷ []
cast_three v a b c = rw (cast_int a, cast_int b, cast_int c)

abbrev pub cells_there : Table
cells_there = record cells_table { tree = cells_tree }

pub puts_cell : (more : Schema) → AreBehind more → (old new : State) (c : StoredCell) (count : ℕ) → old.now.schema ≡ behind schema_4 more → IsKeyed (old.now.trees cells_tree) → Executes put_cell_text (cell_row c) old new (Ok count)
    → HasPut more cells_tree (hits cells_there (cell_row c)) (cell_row c) old.now new.now
puts_cell more apart old new c count has keyed h =
    let params = cell_row c in
    let db = old.now.trees in
    let w = runs_as put_cell_text params old new (behind schema_4 more) has put_cell_command (put_cell_is more) (put_cell_plain more) count h in
    let text = statement_of put_cell_text (understood (behind schema_4 more) put_cell_text) in
    let done = went (subst (λ s. Does old.step_limit (mode_of old) params (record old.now { schema = s }) text None put_cell_command (Ok (w.tally, new.now))) has w.changed) in
    let now = ap (λ (p : Tally × Database). p.1) (same_value (went (went done.2).2).2) in
    let given = went done.1 in
    let counted = went given.2 in
    let each = went counted.2 in
    let ends = went each.2 in
    let task : Task = record { limit = old.step_limit; keys = (mode_of old).keys; schema = behind schema_4 more; table = cells_there; params = params } in
    let out = tried_each task params (hits cells_there params) (record { idle = no_works more apart (mode_of old).keys cells_tree (omega arith); chosen = λ _. refl; mended = refl; cast = λ v. cast_three v (pos c.r) (pos c.slot) (pos c.n) }) (λ id r. ap (λ b. agree plain (0 ∷ []) r (0 ∷ []) (Int id ∷ params) || b) (shared more cells_there (Int id ∷ params) r apart (omega arith)))
    given.0 (count_of counted.0) db each.0 given.1.1 keyed each.1 in
    let trees : each.0.0.trees ≡ new.now.trees = sym (same_value ends.1) ∙ ap (λ (it : Written). it.trees) (sym (same_value ends.2)) ∙ ap (λ (d : Database). d.trees) (sym now) in
    record {
      schema = ap (λ (d : Database). d.schema) now;
      rows = subst (λ (next : Trees). IsPut (hits cells_there params) params (db cells_tree) (next cells_tree)) trees out.0;
      others = subst (λ (next : Trees). (t : ℕ) → t ≢ cells_tree → IsTableTree (behind schema_4 more) t → next t ≡ db t) trees out.1;
      sound = w.sound;
    }

-- ---- marks

abbrev pub mark_terms : List Term
mark_terms = lit Null ∷ col 0 0 ∷ col 0 1 ∷ []

abbrev pub put_mark_command : Command
put_mark_command = InsertOr 0 Replace (Values mark_terms 3) []

pub put_mark_is : (more : Schema) → command_of (understood (behind schema_4 more) put_mark_text) ≡ put_mark_command
unfolding understood everything
put_mark_is more = refl

pub put_mark_plain : (more : Schema) → IsPlain (understood (behind schema_4 more) put_mark_text)
unfolding understood everything
put_mark_plain more = (refl, refl)

pub puts_mark : (more : Schema) → AreBehind more → (old new : State) (name value : List ℕ) (count : ℕ) → old.now.schema ≡ behind schema_4 more → IsKeyed (old.now.trees meta_tree) → Executes put_mark_text (mark_row name value) old new (Ok count)
    → HasPut more meta_tree (hits meta_table (mark_row name value)) (mark_row name value) old.now new.now
puts_mark more apart old new name value count has keyed h =
    let params = mark_row name value in
    let db = old.now.trees in
    let w = runs_as put_mark_text params old new (behind schema_4 more) has put_mark_command (put_mark_is more) (put_mark_plain more) count h in
    let text = statement_of put_mark_text (understood (behind schema_4 more) put_mark_text) in
    let done = went (subst (λ s. Does old.step_limit (mode_of old) params (record old.now { schema = s }) text None put_mark_command (Ok (w.tally, new.now))) has w.changed) in
    let now = ap (λ (p : Tally × Database). p.1) (same_value (went (went done.2).2).2) in
    let given = went done.1 in
    let counted = went given.2 in
    let each = went counted.2 in
    let ends = went each.2 in
    let task : Task = record { limit = old.step_limit; keys = (mode_of old).keys; schema = behind schema_4 more; table = meta_table; params = params } in
    let out = tried_each task params (hits meta_table params) (record { idle = no_works more apart (mode_of old).keys meta_tree (omega arith); chosen = λ _. refl; mended = refl; cast = λ v. refl }) (λ id r. ap (λ b. agree plain (0 ∷ []) r (0 ∷ []) (Int id ∷ params) || b) (shared more meta_table (Int id ∷ params) r apart (omega arith)))
    given.0 (count_of counted.0) db each.0 given.1.1 keyed each.1 in
    let trees : each.0.0.trees ≡ new.now.trees = sym (same_value ends.1) ∙ ap (λ (it : Written). it.trees) (sym (same_value ends.2)) ∙ ap (λ (d : Database). d.trees) (sym now) in
    record {
      schema = ap (λ (d : Database). d.schema) now;
      rows = subst (λ (next : Trees). IsPut (hits meta_table params) params (db meta_tree) (next meta_tree)) trees out.0;
      others = subst (λ (next : Trees). (t : ℕ) → t ≢ meta_tree → IsTableTree (behind schema_4 more) t → next t ≡ db t) trees out.1;
      sound = w.sound;
    }

-- ---- notices

abbrev pub notice_terms : List Term
notice_terms = lit Null ∷ col 0 0 ∷ col 0 1 ∷ col 0 2 ∷ col 0 3 ∷ []

abbrev pub put_notice_command : Command
put_notice_command = InsertOr 3 Replace (Values notice_terms 5) []

pub put_notice_is : (more : Schema) → command_of (understood (behind schema_4 more) put_notice_text) ≡ put_notice_command
unfolding understood everything
put_notice_is more = refl

pub put_notice_plain : (more : Schema) → IsPlain (understood (behind schema_4 more) put_notice_text)
unfolding understood everything
put_notice_plain more = (refl, refl)

pub cast_four : (v : Value) (a b c d : ℤ) → cast_row notices_table (v ∷ Int a ∷ Int b ∷ Int c ∷ Int d ∷ []) ≡ cast Integer v ∷ Int a ∷ Int b ∷ Int c ∷ Int d ∷ []
cast_four v a b c d = rw (cast_int a, cast_int b, cast_int c, cast_int d)

abbrev pub notices_there : Table
notices_there = record notices_table { tree = notices_tree }

pub puts_notice : (more : Schema) → AreBehind more → (old new : State) (n : StoredNotice) (count : ℕ) → old.now.schema ≡ behind schema_4 more → IsKeyed (old.now.trees notices_tree) → Executes put_notice_text (notice_row n) old new (Ok count)
    → HasPut more notices_tree (hits notices_there (notice_row n)) (notice_row n) old.now new.now
puts_notice more apart old new n count has keyed h =
    let params = notice_row n in
    let db = old.now.trees in
    let w = runs_as put_notice_text params old new (behind schema_4 more) has put_notice_command (put_notice_is more) (put_notice_plain more) count h in
    let text = statement_of put_notice_text (understood (behind schema_4 more) put_notice_text) in
    let done = went (subst (λ s. Does old.step_limit (mode_of old) params (record old.now { schema = s }) text None put_notice_command (Ok (w.tally, new.now))) has w.changed) in
    let now = ap (λ (p : Tally × Database). p.1) (same_value (went (went done.2).2).2) in
    let given = went done.1 in
    let counted = went given.2 in
    let each = went counted.2 in
    let ends = went each.2 in
    let task : Task = record { limit = old.step_limit; keys = (mode_of old).keys; schema = behind schema_4 more; table = notices_there; params = params } in
    let out = tried_each task params (hits notices_there params) (record { idle = no_works more apart (mode_of old).keys notices_tree (omega arith); chosen = λ _. refl; mended = refl; cast = λ v. cast_four v (pos n.r) (pos n.site) (pos n.announced) (pos n.finished) }) (λ id r. ap (λ b. agree plain (0 ∷ []) r (0 ∷ []) (Int id ∷ params) || b) (shared more notices_there (Int id ∷ params) r apart (omega arith)))
    given.0 (count_of counted.0) db each.0 given.1.1 keyed each.1 in
    let trees : each.0.0.trees ≡ new.now.trees = sym (same_value ends.1) ∙ ap (λ (it : Written). it.trees) (sym (same_value ends.2)) ∙ ap (λ (d : Database). d.trees) (sym now) in
    record {
      schema = ap (λ (d : Database). d.schema) now;
      rows = subst (λ (next : Trees). IsPut (hits notices_there params) params (db notices_tree) (next notices_tree)) trees out.0;
      others = subst (λ (next : Trees). (t : ℕ) → t ≢ notices_tree → IsTableTree (behind schema_4 more) t → next t ≡ db t) trees out.1;
      sound = w.sound;
    }
