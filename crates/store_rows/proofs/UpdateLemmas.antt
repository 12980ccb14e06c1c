-- What the statements that change a row where it stands do: UPDATE of cells and notices.
use Rattle.std.proofs.Common.{◌≡◌, ◌≢◌, ℕ, pos, true, ◌&&◌, ◌==◌, List, [], ◌∷◌, drop, length, unwrap_or, Ok, Option, Some, None, Bool, refl, sym, ap, subst, ◌∙◌, arith}
use Rattle.std.proofs.lemmas.Bool.Decides.{nat_tests}
use Rattle.sqlite_value.specs.declared.value.Value.{Value}
use Rattle.sqlite_value.specs.declared.value.Value.TheVariants.{Null, Int}
use Rattle.sqlite_value.specs.declared.keys.Collation.TheVariants.{Binary}
use Rattle.sqlite_value.specs.Order.{Row}
use Rattle.sqlite_trees.specs.Tree.{Trees, rowid}
use Rattle.sqlite_sql.specs.Ops.{unary}
use Rattle.sqlite_sql.specs.Term.{Term, col, op1, op2, eval_all}
use Rattle.sqlite_sql.specs.Query.{IsAnswerAs}
use Rattle.sqlite_sql.specs.Program.{overlay}
use Rattle.sqlite_sql.specs.declared.ops.BinaryOp.TheVariants.{Compare}
use Rattle.sqlite_sql.specs.declared.ops.CompareOp.TheVariants.{Eq}
use Rattle.sqlite_sql.specs.declared.ops.UnaryOp.TheVariants.{ToNumeric}
use Rattle.sqlite_schema.specs.declared.command.Command.{Command}
use Rattle.sqlite_schema.specs.declared.command.Command.TheVariants.{Update}
use Rattle.sqlite_rules.specs.Lists.{Has}
use Rattle.sqlite_rules.specs.Cast.{cast_row}
use Rattle.sqlite_rules.specs.Edit.{id_in}
use Rattle.sqlite_tied.specs.Compute.{everything}
use Rattle.sqlite.specs.Effect.{Database, IsDatabase}
use Rattle.sqlite.specs.Rows.{Written, Task}
use Rattle.sqlite.specs.Does.{Does, Tally}
use Rattle.sqlite.specs.State.{State, Executes, mode_of}
use Rattle.sqlite.specs.Listing.{understood}
use Rattle.sqlite.proofs.Callers.{IsPlain, command_of, statement_of, runs_as}
use Rattle.sqlite_schema.specs.declared.schema.Schema.{Schema}
use Rattle.store_schema.specs.Tables.{AreBehind, behind, schema_4, cells_tree, notices_tree}
use Rattle.store_rows.specs.declared.content.StoredCell.{StoredCell}
use Rattle.store_rows.specs.declared.content.StoredNotice.{StoredNotice}
use Rattle.store_rows.specs.Rows.{cell_row, notice_row}
use Rattle.store_rows.specs.Texts.{update_cell_text, update_notice_text}
use Rattle.store_rows.proofs.BesideLemmas.{IsTableTree, no_works}
use Rattle.store_rows.proofs.EditLemmas.{went, same_value, IsKeyed, IsUpdated, overwriting, updated}
use Rattle.store_rows.proofs.ReadLemmas.{mapped_has, passes, query_on, answer_has, has_answer}
use Rattle.store_rows.proofs.PutLemmas.{cast_int, cells_there, notices_there}
use Rattle.store_rows.proofs.ContentLemmas.{equal_whole}

-- the row whose first two columns are the first two parameters
abbrev pub key_filter : List Term
key_filter = op2 (Compare Eq Binary) (col 1 1) (op1 ToNumeric (col 0 0)) ∷ op2 (Compare Eq Binary) (col 1 2) (op1 ToNumeric (col 0 1)) ∷ []

key_passes : (a b x y : ℕ) (v : Value) (more rest : Row) → passes key_filter (Int (pos a) ∷ Int (pos b) ∷ more) (v ∷ Int (pos x) ∷ Int (pos y) ∷ rest) ≡ ((x == a) && ((y == b) && true))
unfolding unary
key_passes a b x y v more rest = rw (equal_whole x a, equal_whole y b) refl

pub both_are : (a b x y : ℕ) → ((x == a) && ((y == b) && true)) ≡ true → (x ≡ a) × (y ≡ b)
both_are a b x y h = (grind (arith, nat_tests), grind (arith, nat_tests))

-- a table of a store after the row at a key was changed, if it is there
pub record HasUpdated (more : Schema) (tree : ℕ) (hit : Row → Bool) (values : Row) (count : ℕ) (old new : Database) : Type 0 where
  pub schema : new.schema ≡ behind schema_4 more
  pub rows : IsUpdated count hit values (old.trees tree) (new.trees tree)
  pub others : (t : ℕ) → t ≢ tree → IsTableTree (behind schema_4 more) t → new.trees t ≡ old.trees t
  pub sound : IsDatabase new

-- ---- cells

abbrev pub cell_changes : List Term
cell_changes = col 1 0 ∷ col 1 0 ∷ col 1 1 ∷ col 1 2 ∷ col 0 2 ∷ []

abbrev pub update_cell_command : Command
update_cell_command = Update 1 (record { lets = []; body = query_on 2 key_filter cell_changes [] })

pub update_cell_is : (more : Schema) → command_of (understood (behind schema_4 more) update_cell_text) ≡ update_cell_command
unfolding understood everything
update_cell_is more = refl

pub update_cell_plain : (more : Schema) → IsPlain (understood (behind schema_4 more) update_cell_text)
unfolding understood everything
update_cell_plain more = (refl, refl)

pub cell_passes : (c d : StoredCell) (r : Row) → drop 1 r ≡ cell_row d → passes key_filter (cell_row c) r ≡ ((d.r == c.r) && ((d.slot == c.slot) && true))
cell_passes c d [] e = absurd (cc)
cell_passes c d (v ∷ r) e = rw e (key_passes c.r c.slot d.r d.slot v (Int (pos c.n) ∷ []) (Int (pos d.n) ∷ []))

pub written_cell : (c d : StoredCell) (r : Row) → drop 1 r ≡ cell_row d → passes key_filter (cell_row c) r ≡ true
    → drop 1 (cast_row cells_there (drop 1 (eval_all cell_changes (cell_row c ∷ r ∷ [])))) ≡ cell_row c
written_cell c d [] e hit = absurd (cc)
written_cell c d (v ∷ r) e hit =
    let same = both_are c.r c.slot d.r d.slot (sym (cell_passes c d (v ∷ r) e) ∙ hit) in
    rw (e, cast_int (pos d.r), cast_int (pos d.slot), cast_int (pos c.n), same.0, same.1) refl

pub updates_cell : (more : Schema) → AreBehind more → (old new : State) (c : StoredCell) (count : ℕ) → old.now.schema ≡ behind schema_4 more → IsKeyed (old.now.trees cells_tree)
    → ((r : Row) → Has (old.now.trees cells_tree) r → (d : StoredCell) × (drop 1 r ≡ cell_row d))
    → Executes update_cell_text (cell_row c) old new (Ok count) → HasUpdated more cells_tree (passes key_filter (cell_row c)) (cell_row c) count old.now new.now
updates_cell more apart old new c count has keyed cells ran =
    let params = cell_row c in
    let db = old.now.trees in
    let w = runs_as update_cell_text params old new (behind schema_4 more) has update_cell_command (update_cell_is more) (update_cell_plain more) count ran in
    let text = statement_of update_cell_text (understood (behind schema_4 more) update_cell_text) in
    let done = went (subst (λ s. Does old.step_limit (mode_of old) params (record old.now { schema = s }) text None update_cell_command (Ok (w.tally, new.now))) has w.changed) in
    let ended = same_value (went (went done.2).2).2 in
    let now = ap (λ (p : Tally × Database). p.1) ended in
    let told : w.tally.rows ≡ Some (length done.0.rows) = ap (λ (p : Tally × Database). p.0.rows) ended in
    let queried = went done.1 in
    let wrote = went queried.2 in
    let all = same_value wrote.2 in
    let task : Task = record { limit = old.step_limit; keys = (mode_of old).keys; schema = behind schema_4 more; table = cells_there; params = params } in
    let a : IsAnswerAs Null (query_on 2 key_filter cell_changes []) (overlay db []) params queried.0 = queried.1.answer Null in
    let news : done.0.rows ≡ (overwriting task (no_works more apart (mode_of old).keys cells_tree (omega arith)) db queried.0).news = ap (λ (it : Written). it.rows) all in
    let is : count ≡ length (overwriting task (no_works more apart (mode_of old).keys cells_tree (omega arith)) db queried.0).news = w.counted ∙ ap (λ (n : Option ℕ). unwrap_or n 0) told ∙ ap length news in
    let seen = λ (x : Row) (k : Has queried.0 x). answer_has 2 key_filter cell_changes [] (overlay db []) params queried.0 a x k in
    let out = updated task (no_works more apart (mode_of old).keys cells_tree (omega arith)) queried.0 params (passes key_filter params) db wrote.0 count is keyed
    (λ x k. let it = seen x k in (it.0, it.1, it.2, ap (λ (y : Row). id_in (rowid y)) it.3))
    (λ y k hit. let it = has_answer 2 key_filter cell_changes [] (overlay db []) params queried.0 a y k hit in (eval_all cell_changes (params ∷ y ∷ []), it, refl))
    (λ n k.
    let x = mapped_has (λ s. cast_row cells_there (drop 1 s)) queried.0 n k in
    let it = seen x.0 x.1 in
    let d = cells it.0 it.1 in
    ap (drop 1) x.2 ∙ ap (λ (s : Row). drop 1 (cast_row cells_there (drop 1 s))) it.3 ∙ written_cell c d.0 it.0 d.1 it.2) wrote.1 in
    let trees : wrote.0 ≡ new.now.trees = ap (λ (it : Written). it.trees) (sym all) ∙ ap (λ (d : Database). d.trees) (sym now) in
    record {
      schema = ap (λ (d : Database). d.schema) now;
      rows = subst (λ (next : Trees). IsUpdated count (passes key_filter params) params (db cells_tree) (next cells_tree)) trees out.0;
      others = subst (λ (next : Trees). (t : ℕ) → t ≢ cells_tree → IsTableTree (behind schema_4 more) t → next t ≡ db t) trees out.1;
      sound = w.sound;
    }

-- ---- notices

abbrev pub notice_changes : List Term
notice_changes = col 1 0 ∷ col 1 0 ∷ col 1 1 ∷ col 1 2 ∷ col 0 2 ∷ col 0 3 ∷ []

abbrev pub update_notice_command : Command
update_notice_command = Update 3 (record { lets = []; body = query_on 7 key_filter notice_changes [] })

pub update_notice_is : (more : Schema) → command_of (understood (behind schema_4 more) update_notice_text) ≡ update_notice_command
unfolding understood everything
update_notice_is more = refl

pub update_notice_plain : (more : Schema) → IsPlain (understood (behind schema_4 more) update_notice_text)
unfolding understood everything
update_notice_plain more = (refl, refl)

pub notice_passes : (c d : StoredNotice) (r : Row) → drop 1 r ≡ notice_row d → passes key_filter (notice_row c) r ≡ ((d.r == c.r) && ((d.site == c.site) && true))
notice_passes c d [] e = absurd (cc)
notice_passes c d (v ∷ r) e = rw e (key_passes c.r c.site d.r d.site v (Int (pos c.announced) ∷ Int (pos c.finished) ∷ []) (Int (pos d.announced) ∷ Int (pos d.finished) ∷ []))

pub written_notice : (c d : StoredNotice) (r : Row) → drop 1 r ≡ notice_row d → passes key_filter (notice_row c) r ≡ true
    → drop 1 (cast_row notices_there (drop 1 (eval_all notice_changes (notice_row c ∷ r ∷ [])))) ≡ notice_row c
written_notice c d [] e hit = absurd (cc)
written_notice c d (v ∷ r) e hit =
    let same = both_are c.r c.site d.r d.site (sym (notice_passes c d (v ∷ r) e) ∙ hit) in
    rw (e, cast_int (pos d.r), cast_int (pos d.site), cast_int (pos c.announced), cast_int (pos c.finished), same.0, same.1) refl

pub updates_notice : (more : Schema) → AreBehind more → (old new : State) (c : StoredNotice) (count : ℕ) → old.now.schema ≡ behind schema_4 more → IsKeyed (old.now.trees notices_tree)
    → ((r : Row) → Has (old.now.trees notices_tree) r → (d : StoredNotice) × (drop 1 r ≡ notice_row d))
    → Executes update_notice_text (notice_row c) old new (Ok count) → HasUpdated more notices_tree (passes key_filter (notice_row c)) (notice_row c) count old.now new.now
updates_notice more apart old new c count has keyed notices ran =
    let params = notice_row c in
    let db = old.now.trees in
    let w = runs_as update_notice_text params old new (behind schema_4 more) has update_notice_command (update_notice_is more) (update_notice_plain more) count ran in
    let text = statement_of update_notice_text (understood (behind schema_4 more) update_notice_text) in
    let done = went (subst (λ s. Does old.step_limit (mode_of old) params (record old.now { schema = s }) text None update_notice_command (Ok (w.tally, new.now))) has w.changed) in
    let ended = same_value (went (went done.2).2).2 in
    let now = ap (λ (p : Tally × Database). p.1) ended in
    let told : w.tally.rows ≡ Some (length done.0.rows) = ap (λ (p : Tally × Database). p.0.rows) ended in
    let queried = went done.1 in
    let wrote = went queried.2 in
    let all = same_value wrote.2 in
    let task : Task = record { limit = old.step_limit; keys = (mode_of old).keys; schema = behind schema_4 more; table = notices_there; params = params } in
    let a : IsAnswerAs Null (query_on 7 key_filter notice_changes []) (overlay db []) params queried.0 = queried.1.answer Null in
    let news : done.0.rows ≡ (overwriting task (no_works more apart (mode_of old).keys notices_tree (omega arith)) db queried.0).news = ap (λ (it : Written). it.rows) all in
    let is : count ≡ length (overwriting task (no_works more apart (mode_of old).keys notices_tree (omega arith)) db queried.0).news = w.counted ∙ ap (λ (n : Option ℕ). unwrap_or n 0) told ∙ ap length news in
    let seen = λ (x : Row) (k : Has queried.0 x). answer_has 7 key_filter notice_changes [] (overlay db []) params queried.0 a x k in
    let out = updated task (no_works more apart (mode_of old).keys notices_tree (omega arith)) queried.0 params (passes key_filter params) db wrote.0 count is keyed
    (λ x k. let it = seen x k in (it.0, it.1, it.2, ap (λ (y : Row). id_in (rowid y)) it.3))
    (λ y k hit. let it = has_answer 7 key_filter notice_changes [] (overlay db []) params queried.0 a y k hit in (eval_all notice_changes (params ∷ y ∷ []), it, refl))
    (λ n k.
    let x = mapped_has (λ s. cast_row notices_there (drop 1 s)) queried.0 n k in
    let it = seen x.0 x.1 in
    let d = notices it.0 it.1 in
    ap (drop 1) x.2 ∙ ap (λ (s : Row). drop 1 (cast_row notices_there (drop 1 s))) it.3 ∙ written_notice c d.0 it.0 d.1 it.2) wrote.1 in
    let trees : wrote.0 ≡ new.now.trees = ap (λ (it : Written). it.trees) (sym all) ∙ ap (λ (d : Database). d.trees) (sym now) in
    record {
      schema = ap (λ (d : Database). d.schema) now;
      rows = subst (λ (next : Trees). IsUpdated count (passes key_filter params) params (db notices_tree) (next notices_tree)) trees out.0;
      others = subst (λ (next : Trees). (t : ℕ) → t ≢ notices_tree → IsTableTree (behind schema_4 more) t → next t ≡ db t) trees out.1;
      sound = w.sound;
    }
