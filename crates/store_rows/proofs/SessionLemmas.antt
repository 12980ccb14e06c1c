-- What adding and dropping a session does.
use Rattle.std.proofs.Common.{◌≡◌, ◌≢◌, ℕ, ℤ, pos, Bool, false, List, [], ◌∷◌, Ok, None, refl, sym, ap, subst, ◌∙◌, arith}
use Rattle.sqlite_value.specs.declared.value.Value.{Value}
use Rattle.sqlite_value.specs.declared.value.Value.TheVariants.{Null, Int}
use Rattle.sqlite_value.specs.Order.{Row}
use Rattle.sqlite_trees.specs.Tree.{Trees, rowid}
use Rattle.sqlite_sql.specs.Term.{Term, lit, col, op1, op2}
use Rattle.sqlite_sql.specs.Query.{IsAnswerAs}
use Rattle.sqlite_sql.specs.Program.{overlay}
use Rattle.sqlite_sql.specs.declared.ops.BinaryOp.TheVariants.{Compare}
use Rattle.sqlite_sql.specs.declared.ops.CompareOp.TheVariants.{Eq}
use Rattle.sqlite_sql.specs.declared.ops.UnaryOp.TheVariants.{ToNumeric}
use Rattle.sqlite_value.specs.declared.keys.Collation.TheVariants.{Binary}
use Rattle.sqlite_schema.specs.declared.schema.Kind.TheVariants.{Integer}
use Rattle.sqlite_schema.specs.declared.schema.Table.{Table}
use Rattle.sqlite_schema.specs.declared.command.Command.{Command}
use Rattle.sqlite_schema.specs.declared.command.Command.TheVariants.{Insert, Delete}
use Rattle.sqlite_schema.specs.declared.command.Source.TheVariants.{Values}
use Rattle.sqlite_rules.specs.declared.error.Rowids.TheVariants.{Chosen}
use Rattle.sqlite_rules.specs.Cast.{cast, cast_row}
use Rattle.sqlite_rules.specs.Edit.{edit_of, at_least, next_rowid, id_in}
use Rattle.sqlite_tied.specs.Compute.{everything}
use Rattle.sqlite.specs.Effect.{Database, IsDatabase}
use Rattle.sqlite.specs.Rows.{Written, Task, count_of, rowids_for}
use Rattle.sqlite.specs.Does.{Does, Tally}
use Rattle.sqlite.specs.State.{State, Executes, mode_of}
use Rattle.sqlite.specs.Listing.{understood}
use Rattle.sqlite.proofs.Callers.{IsPlain, command_of, statement_of, runs_as}
use Rattle.sqlite_schema.specs.declared.schema.Schema.{Schema}
use Rattle.store_schema.specs.Tables.{AreBehind, behind, schema_4, sessions_table, sessions_tree}
use Rattle.store_rows.specs.declared.content.StoredSession.{StoredSession}
use Rattle.store_rows.specs.Texts.{add_session_text, drop_session_text}
use Rattle.store_rows.specs.Rows.{session_row, stage_number}
use Rattle.store_rows.proofs.BesideLemmas.{IsTableTree, no_works}
use Rattle.store_rows.proofs.EditLemmas.{went, same_value, IsKeyed, IsPut, IsTaken, inserted, deleted}
use Rattle.store_rows.proofs.ReadLemmas.{passes, query_on, answer_has, has_answer}
use Rattle.store_rows.proofs.PutLemmas.{cast_null, cast_int, HasPut}

abbrev pub session_terms : List Term
session_terms = lit Null ∷ col 0 0 ∷ col 0 1 ∷ col 0 2 ∷ col 0 3 ∷ []

abbrev pub add_command : Command
add_command = Insert 2 (Values session_terms 5)

pub add_is : (more : Schema) → command_of (understood (behind schema_4 more) add_session_text) ≡ add_command
unfolding understood everything
add_is more = refl

pub add_plain : (more : Schema) → IsPlain (understood (behind schema_4 more) add_session_text)
unfolding understood everything
add_plain more = (refl, refl)

abbrev pub sessions_there : Table
sessions_there = record sessions_table { tree = sessions_tree }

pub cast_session : (v : Value) (a b c d : ℤ) → cast_row sessions_there (v ∷ Int a ∷ Int b ∷ Int c ∷ Int d ∷ []) ≡ cast Integer v ∷ Int a ∷ Int b ∷ Int c ∷ Int d ∷ []
cast_session v a b c d = rw (cast_int a, cast_int b, cast_int c, cast_int d)

pub adds_session : (more : Schema) → AreBehind more → (old new : State) (s : StoredSession) (count : ℕ) → old.now.schema ≡ behind schema_4 more → IsKeyed (old.now.trees sessions_tree) → Executes add_session_text (session_row s) old new (Ok count)
    → HasPut more sessions_tree (λ _. false) (session_row s) old.now new.now
adds_session more apart old new s count has keyed h =
    let params = session_row s in
    let db = old.now.trees in
    let w = runs_as add_session_text params old new (behind schema_4 more) has add_command (add_is more) (add_plain more) count h in
    let text = statement_of add_session_text (understood (behind schema_4 more) add_session_text) in
    let done = went (subst (λ s. Does old.step_limit (mode_of old) params (record old.now { schema = s }) text None add_command (Ok (w.tally, new.now))) has w.changed) in
    let now = ap (λ (p : Tally × Database). p.1) (same_value (went (went done.2).2).2) in
    let given = went done.1 in
    let counted = went given.2 in
    let wrote = went counted.2 in
    let ends = went wrote.2 in
    let task : Task = record { limit = old.step_limit; keys = (mode_of old).keys; schema = behind schema_4 more; table = sessions_there; params = params } in
    let edit = edit_of db sessions_there [] (rowids_for sessions_there (count_of counted.0)) 0 given.0 in
    let id = at_least Chosen (next_rowid (db sessions_tree)) in
    let news : edit.news ≡ (Int id ∷ params) ∷ [] =
    ap (λ (rows : List Row). (edit_of db sessions_there [] Chosen 0 rows).news) given.1.1 ∙ rw (cast_null, cast_int (pos s.r), cast_int (pos s.h), cast_int (pos (stage_number s.stage)), cast_int (pos s.place)) in
    let out = inserted task (no_works more apart (mode_of old).keys sessions_tree (omega arith)) id params db wrote.0 edit refl refl news keyed wrote.1 in
    let trees : wrote.0 ≡ new.now.trees = sym (same_value ends.1) ∙ ap (λ (it : Written). it.trees) (sym (same_value ends.2)) ∙ ap (λ (d : Database). d.trees) (sym now) in
    record {
      schema = ap (λ (d : Database). d.schema) now;
      rows = subst (λ (next : Trees). IsPut (λ _. false) params (db sessions_tree) (next sessions_tree)) trees out.0;
      others = subst (λ (next : Trees). (t : ℕ) → t ≢ sessions_tree → IsTableTree (behind schema_4 more) t → next t ≡ db t) trees out.1;
      sound = w.sound;
    }

-- the session of a holder at a record
abbrev pub drop_filter : List Term
drop_filter = op2 (Compare Eq Binary) (col 1 1) (op1 ToNumeric (col 0 0)) ∷ op2 (Compare Eq Binary) (col 1 2) (op1 ToNumeric (col 0 1)) ∷ []

abbrev pub drop_command : Command
drop_command = Delete 2 (record { lets = []; body = query_on 4 drop_filter (col 1 0 ∷ []) [] })

pub drop_is : (more : Schema) → command_of (understood (behind schema_4 more) drop_session_text) ≡ drop_command
unfolding understood everything
drop_is more = refl

pub drop_plain : (more : Schema) → IsPlain (understood (behind schema_4 more) drop_session_text)
unfolding understood everything
drop_plain more = (refl, refl)

-- a table of a store after rows went
pub record HasTaken (more : Schema) (tree : ℕ) (hit : Row → Bool) (old new : Database) : Type 0 where
  pub schema : new.schema ≡ behind schema_4 more
  pub rows : IsTaken hit (old.trees tree) (new.trees tree)
  pub others : (t : ℕ) → t ≢ tree → IsTableTree (behind schema_4 more) t → new.trees t ≡ old.trees t
  pub sound : IsDatabase new

abbrev pub session_hits : Row → Row → Bool
session_hits = passes drop_filter

pub drops_session : (more : Schema) → AreBehind more → (old new : State) (r h : ℕ) (count : ℕ) → old.now.schema ≡ behind schema_4 more → IsKeyed (old.now.trees sessions_tree) → Executes drop_session_text (Int (pos r) ∷ Int (pos h) ∷ []) old new (Ok count)
    → HasTaken more sessions_tree (session_hits (Int (pos r) ∷ Int (pos h) ∷ [])) old.now new.now
drops_session more apart old new r h count has keyed ran =
    let params = Int (pos r) ∷ Int (pos h) ∷ [] in
    let db = old.now.trees in
    let w = runs_as drop_session_text params old new (behind schema_4 more) has drop_command (drop_is more) (drop_plain more) count ran in
    let text = statement_of drop_session_text (understood (behind schema_4 more) drop_session_text) in
    let done = went (subst (λ s. Does old.step_limit (mode_of old) params (record old.now { schema = s }) text None drop_command (Ok (w.tally, new.now))) has w.changed) in
    let now = ap (λ (p : Tally × Database). p.1) (same_value (went (went done.2).2).2) in
    let queried = went done.1 in
    let wrote = went queried.2 in
    let task : Task = record { limit = old.step_limit; keys = (mode_of old).keys; schema = behind schema_4 more; table = sessions_there; params = params } in
    let a : IsAnswerAs Null (query_on 4 drop_filter (col 1 0 ∷ []) []) (overlay db []) params queried.0 = queried.1.answer Null in
    let out = deleted task (no_works more apart (mode_of old).keys sessions_tree (omega arith)) queried.0 (session_hits params) db wrote.0 keyed
    (λ x k. let it = answer_has 4 drop_filter (col 1 0 ∷ []) [] (overlay db []) params queried.0 a x k in (it.0, it.1, it.2, ap (λ (y : Row). id_in (rowid y)) it.3))
    (λ y k is. let it = has_answer 4 drop_filter (col 1 0 ∷ []) [] (overlay db []) params queried.0 a y k is in (rowid y ∷ [], it, refl)) wrote.1 in
    let trees : wrote.0 ≡ new.now.trees = ap (λ (it : Written). it.trees) (sym (same_value wrote.2)) ∙ ap (λ (d : Database). d.trees) (sym now) in
    record {
      schema = ap (λ (d : Database). d.schema) now;
      rows = subst (λ (next : Trees). IsTaken (session_hits params) (db sessions_tree) (next sessions_tree)) trees out.0;
      others = subst (λ (next : Trees). (t : ℕ) → t ≢ sessions_tree → IsTableTree (behind schema_4 more) t → next t ≡ db t) trees out.1;
      sound = w.sound;
    }
