-- No statement that adds or drops a session is stopped by the database.
use Rattle.std.proofs.Common.{◌≡◌, inl, inr, ℕ, suc, ℤ, pos, true, false, ◌==◌, [], ◌∷◌, drop, Option, None, Ok, Err, refl, sym, ap, subst, ◌∙◌, arith}
use Rattle.std.proofs.lemmas.Bool.{and_parts}
use Rattle.std.proofs.lemmas.Bool.Decides.{nat_tests}
use Rattle.sqlite_value.specs.Keys.{first_key}
use Rattle.sqlite_schema.specs.declared.program.Program.{Program}
use Rattle.sqlite_rules.specs.Cast.{cast_row}
use Rattle.store_rows.proofs.ReadLemmas.{query_on}
use Rattle.store_rows.proofs.StopQueryLemmas.{query_stop, delete_stop, delete_spares, delete_from}
use Rattle.sqlite_value.specs.declared.value.Value.{Value}
use Rattle.sqlite_value.specs.declared.value.Value.TheVariants.{Int}
use Rattle.sqlite_value.specs.Order.{Row}
use Rattle.sqlite_trees.specs.Tree.{Trees}
use Rattle.sqlite_sql.specs.Ops.{fits_i64}
use Rattle.sqlite_typing.specs.Types.{accepts_terms, accepts_program}
use Rattle.sqlite_schema.specs.declared.schema.Keys.TheVariants.{Enforced}
use Rattle.sqlite_schema.specs.declared.schema.Schema.{Schema}
use Rattle.sqlite_schema.specs.declared.command.Source.TheVariants.{Values}
use Rattle.sqlite_rules.specs.Lists.{Has}
use Rattle.sqlite_rules.specs.Edit.{next_rowid}
use Rattle.sqlite_tied.specs.Compute.{everything}
use Rattle.sqlite.specs.declared.error.Error.{Error}
use Rattle.sqlite.specs.Does.{Does, Tally}
use Rattle.sqlite.specs.Effect.{Database, IsDatabase}
use Rattle.sqlite.specs.Listing.{understood}
use Rattle.sqlite.specs.State.{State, Executes, ExecutesInside, mode_of}
use Rattle.sqlite.proofs.Callers.{statement_of, runs_as}
use Rattle.store_schema.specs.Tables.{AreBehind, behind, others_in, schema_4, sessions_tree}
use Rattle.store_rows.specs.declared.content.StoredSession.{StoredSession}
use Rattle.store_rows.specs.Texts.{add_session_text, drop_session_text}
use Rattle.store_rows.specs.Rows.{session_row, session_before, stage_number}
use Rattle.store_rows.specs.Steps.{Any, Uses, IsStopped}
use Rattle.store_rows.specs.Rowids.{has_room}
use Rattle.store_rows.proofs.BesideLemmas.{no_works, shared}
use Rattle.store_rows.proofs.ContentLemmas.{has_own, rows_keyed, sessions_ordered, equal_whole}
use Rattle.store_rows.proofs.EditLemmas.{IsKeyed, went, same_value}
use Rattle.store_rows.proofs.PutLemmas.{cast_int, IsPlainFor}
use Rattle.store_rows.proofs.RoomLemmas.{room_parts, room_of_next, rooms_after, rooms_kept}
use Rattle.store_rows.proofs.StopLemmas.{IsFull, not_odd}
use Rattle.store_rows.proofs.StopPutLemmas.{task_on, concludes, insert_stop, insert_spares, insert_from, given_stop}
use Rattle.store_rows.proofs.StoredLemmas.{sessions_own, session_good}
use Rattle.store_rows.specs.Changes.{is_of}
use Rattle.store_rows.specs.Steps.{IsNewTo}
use Rattle.sqlite_sql.specs.Term.{col}
use Rattle.std.specs.List.{list_any}
use Rattle.sqlite_rules.specs.Keys.{shares}
use Rattle.store_rows.proofs.SessionLemmas.{session_terms, add_command, add_is, add_plain, sessions_there, cast_session, drop_filter, drop_command, drop_is, drop_plain}
use Rattle.store_rows.proofs.NeverLemmas.{rules_of, stops_as, one_more, as_much}

add_full : (more : Schema) (s : StoredSession) → IsFull add_session_text (session_row s) (understood (behind schema_4 more) add_session_text)
unfolding understood everything
add_full more s = (refl, refl)

add_typed : (s : StoredSession) → accepts_terms session_terms (session_row s) ≡ true
unfolding everything
add_typed s = refl

-- a session of another holder or record, with another place, has no key of a new one
session_away : (s x : StoredSession) (id : ℤ) (r : Row) → drop 1 r ≡ session_row x → is_of s.r s.h x ≡ false → (x.place == s.place) ≡ false
    → list_any (shares None sessions_there (Int id ∷ session_row s) r) schema_4.indexes ≡ false
unfolding first_key
session_away s x id [] e other place = absurd (cc)
session_away s x id (v ∷ r) e other place = rw (e, equal_whole x.r s.r, equal_whole x.h s.h, equal_whole x.place s.place, place) (grind (arith, nat_tests))

module _ (more : Schema) (apart : AreBehind more) (s : StoredSession) where
  session_plain : (limit : Option ℕ) → IsPlainFor (task_on limit more apart sessions_there sessions_own (inr (inr (inl refl))) (session_row s)) (session_row s)
  session_plain limit = record { idle = no_works more apart Enforced sessions_tree (omega arith); chosen = λ _. refl; mended = refl; cast = λ v. cast_session v (pos s.r) (pos s.h) (pos (stage_number s.stage)) (pos s.place) }

  session_cast : (id : ℤ) → cast_row sessions_there (Int id ∷ session_row s) ≡ Int id ∷ session_row s
  session_cast id = cast_session (Int id) (pos s.r) (pos s.h) (pos (stage_number s.stage)) (pos s.place) ∙ ap (λ (v : Value). v ∷ session_row s) (cast_int id)

  module _ (old : State) (has : old.now.schema ≡ behind schema_4 more) where
    add_does : (sound : IsDatabase old.now) (keyed : IsKeyed (old.now.trees sessions_tree)) (stop : Option Error) → fits_i64 (next_rowid (old.now.trees sessions_tree)) ≡ true
        → ((r : Row) → Has (old.now.trees sessions_tree) r → (x : StoredSession) × (drop 1 r ≡ session_row x) × (is_of s.r s.h x ≡ false) × ((x.place == s.place) ≡ false))
        → Does None (mode_of old) (session_row s) (record old.now { schema = behind schema_4 more }) (statement_of add_session_text (understood (behind schema_4 more) add_session_text)) None add_command (Err stop) → ⊥
    add_does sound keyed stop small fresh (inl (t, wrote, e)) =
        insert_stop None more apart sessions_there sessions_own (inr (inr (inl refl))) (session_row s) (session_row s) (session_good more apart s) session_cast (session_plain None) refl
        (Values session_terms 5) old.now.trees t (rules_of old.now (behind schema_4 more) has sound).0 keyed small
        (λ r there. let x = fresh r there in
        shared more sessions_there (Int (next_rowid (old.now.trees sessions_tree)) ∷ session_row s) r apart (omega arith) ∙ session_away s x.0 (next_rowid (old.now.trees sessions_tree)) r x.1 x.2 x.3)
        (λ u given. given_stop session_terms 5 (record old.now { schema = behind schema_4 more }) (session_row s) (add_typed s) u given)
        (λ rows given. given.1) wrote
    add_does sound keyed stop small fresh (inr (w, wrote, ends)) =
        concludes None more apart sessions_there sessions_own (inr (inr (inl refl))) (session_row s) old.now.trees w stop (rules_of old.now (behind schema_4 more) has sound).1
        (insert_spares None more apart sessions_there sessions_own (inr (inr (inl refl))) (session_row s) refl (Values session_terms 5) old.now.trees w wrote) ends

    add_uses : (new : State) (count : ℕ) (k : ℕ) → Executes add_session_text (session_row s) old new (Ok count) → has_room (suc k) old.now.trees ≡ true → has_room k new.now.trees ≡ true
    add_uses new count k ran room =
        let w = runs_as add_session_text (session_row s) old new (behind schema_4 more) has add_command (add_is more) (add_plain more) count ran in
        let text = statement_of add_session_text (understood (behind schema_4 more) add_session_text) in
        let done = went (subst (λ s'. Does old.step_limit (mode_of old) (session_row s) (record old.now { schema = s' }) text None add_command (Ok (w.tally, new.now))) has w.changed) in
        let now : done.0.trees ≡ new.now.trees = ap (λ (p : Tally × Database). p.1.trees) (sym (same_value (went (went done.2).2).2)) in
        let spares = insert_spares old.step_limit more apart sessions_there sessions_own (inr (inr (inl refl))) (session_row s) refl (Values session_terms 5) old.now.trees done.0 done.1 in
        let from = insert_from old.step_limit more apart sessions_there sessions_own (inr (inr (inl refl))) (session_row s) (session_row s) (session_good more apart s) session_cast (session_plain old.step_limit) refl
        (Values session_terms 5) old.now.trees done.0 (λ rows given. given.1) done.1 in
        subst (λ (t : Trees). has_room k t ≡ true) now (rooms_after more old.now.trees done.0.trees sessions_tree spares k from room)

pub add_stops : (old new : State) (s : StoredSession) (e : Error) → ExecutesInside 0 add_session_text (session_row s) old new (Err e) → IsStopped 1 (IsNewTo s) old new e
add_stops old new s e = stops_as add_session_text (session_row s) old new 1 (IsNewTo s) e (λ odd p two fits h k more_room.
    let more = others_in old.now.schema in
    let own = has_own p old.now new.now two h in
    let room = one_more k old.now.trees more_room in
    let parts = room_parts (suc k) old.now.trees room in
    not_odd add_session_text (session_row s) old (behind schema_4 more) own add_command (add_is more) (add_plain more) (add_full more s) tt (refl, refl) e
    (λ stop. add_does more h.apart s old own h.sound (rows_keyed session_row session_before sessions_ordered p.sessions (old.now.trees 4) h.sessions) stop
    (and_parts _ _ (room_of_next k (old.now.trees 4) parts.0 parts.3)).0
    (λ r there. let x = h.sessions.sound r there in let free = fits x.0 x.1 in (x.0, x.2, free.0, free.1))) odd)

pub added_uses : (old new : State) (s : StoredSession) (count : ℕ) → Executes add_session_text (session_row s) old new (Ok count) → Uses 1 Any old.now new.now
added_uses old new s count ran p two fits h k room =
    add_uses (others_in old.now.schema) h.apart s old (has_own p old.now new.now two h) new count k ran (one_more k old.now.trees room)

-- ---- a session that is dropped

drop_full : (more : Schema) (r h : ℕ) → IsFull drop_session_text (Int (pos r) ∷ Int (pos h) ∷ []) (understood (behind schema_4 more) drop_session_text)
unfolding understood everything
drop_full more r h = (refl, refl)

drop_typed : (more : Schema) (r h : ℕ) → accepts_program (behind schema_4 more) [] (query_on 4 drop_filter (col 1 0 ∷ []) []) (Int (pos r) ∷ Int (pos h) ∷ []) ≡ true
unfolding everything
drop_typed more r h = refl

module _ (more : Schema) (apart : AreBehind more) (r h : ℕ) (old : State) (has : old.now.schema ≡ behind schema_4 more) where
  abbrev which : Row
  which = Int (pos r) ∷ Int (pos h) ∷ []

  drop_does : (sound : IsDatabase old.now) (stop : Option Error)
      → Does None (mode_of old) which (record old.now { schema = behind schema_4 more }) (statement_of drop_session_text (understood (behind schema_4 more) drop_session_text)) None drop_command (Err stop) → ⊥
  drop_does sound stop (inl (t, wrote, e)) =
      delete_stop None more apart sessions_there sessions_own (inr (inr (inl refl))) which (record { lets = []; body = query_on 4 drop_filter (col 1 0 ∷ []) [] }) old.now.trees t (rules_of old.now (behind schema_4 more) has sound).0
      (λ u given. query_stop 4 drop_filter (col 1 0 ∷ []) (record old.now { schema = behind schema_4 more }) which (drop_typed more r h) u given) wrote
  drop_does sound stop (inr (w, wrote, ends)) =
      concludes None more apart sessions_there sessions_own (inr (inr (inl refl))) which old.now.trees w stop (rules_of old.now (behind schema_4 more) has sound).1
      (delete_spares None more apart sessions_there sessions_own (inr (inr (inl refl))) which (record { lets = []; body = query_on 4 drop_filter (col 1 0 ∷ []) [] }) old.now.trees w wrote) ends

  drop_uses : (new : State) (count : ℕ) (k : ℕ) → Executes drop_session_text which old new (Ok count) → has_room k old.now.trees ≡ true → has_room k new.now.trees ≡ true
  drop_uses new count k ran room =
      let w = runs_as drop_session_text which old new (behind schema_4 more) has drop_command (drop_is more) (drop_plain more) count ran in
      let text = statement_of drop_session_text (understood (behind schema_4 more) drop_session_text) in
      let done = went (subst (λ s'. Does old.step_limit (mode_of old) which (record old.now { schema = s' }) text None drop_command (Ok (w.tally, new.now))) has w.changed) in
      let now : done.0.trees ≡ new.now.trees = ap (λ (p : Tally × Database). p.1.trees) (sym (same_value (went (went done.2).2).2)) in
      let q : Program = record { lets = []; body = query_on 4 drop_filter (col 1 0 ∷ []) [] } in
      let spares = delete_spares old.step_limit more apart sessions_there sessions_own (inr (inr (inl refl))) which q old.now.trees done.0 done.1 in
      let from = delete_from old.step_limit more apart sessions_there sessions_own (inr (inr (inl refl))) which q old.now.trees done.0 done.1 in
      subst (λ (t : Trees). has_room k t ≡ true) now (rooms_kept more old.now.trees done.0.trees sessions_tree spares k (λ x there. (x, from x there, refl)) room)

pub drop_stops : (old new : State) (r k : ℕ) (e : Error) → ExecutesInside 0 drop_session_text (Int (pos r) ∷ Int (pos k) ∷ []) old new (Err e) → IsStopped 0 Any old new e
drop_stops old new r k e = stops_as drop_session_text (Int (pos r) ∷ Int (pos k) ∷ []) old new 0 Any e (λ odd p two fits h n room.
    let more = others_in old.now.schema in
    let own = has_own p old.now new.now two h in
    not_odd drop_session_text (Int (pos r) ∷ Int (pos k) ∷ []) old (behind schema_4 more) own drop_command (drop_is more) (drop_plain more) (drop_full more r k) tt (refl, refl) e
    (drop_does more h.apart r k old own h.sound) odd)

pub dropped_uses : (old new : State) (r k : ℕ) (count : ℕ) → Executes drop_session_text (Int (pos r) ∷ Int (pos k) ∷ []) old new (Ok count) → Uses 0 Any old.now new.now
dropped_uses old new r k count ran p two fits h n room =
    drop_uses (others_in old.now.schema) h.apart r k old (has_own p old.now new.now two h) new count n ran (as_much n old.now.trees room)
