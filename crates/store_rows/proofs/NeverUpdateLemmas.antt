-- No statement that changes a row of a store where it stands is stopped by the database.
use Rattle.std.proofs.Common.{◌≡◌, inl, inr, ℕ, pos, true, List, [], ◌∷◌, drop, Option, None, Ok, Err, Less, refl, sym, ap, subst, ◌∙◌, arith}
use Rattle.std.proofs.lemmas.Bool.{and_parts}
use Rattle.std.proofs.lemmas.Bool.Decides.{nat_tests}
use Rattle.sqlite_value.specs.Keys.{first_key}
use Rattle.sqlite_trees.specs.View.{is_int}
use Rattle.sqlite_sql.specs.Term.{eval_all}
use Rattle.sqlite_sql.specs.Program.{overlay}
use Rattle.sqlite_schema.specs.declared.program.Program.{Program}
use Rattle.sqlite_schema.specs.declared.schema.Kind.TheVariants.{Integer}
use Rattle.sqlite_rules.specs.Cast.{cast, cast_row}
use Rattle.sqlite_rules.proofs.ListLemmas.{all_has, test_has}
use Rattle.sqlite_rules.proofs.TableLemmas.{int_is}
use Rattle.store_rows.proofs.ReadLemmas.{passes, query_on, answer_has, has_answer}
use Rattle.store_rows.proofs.SafeLemmas.{clear_before}
use Rattle.store_rows.proofs.StopQueryLemmas.{query_stop, few_answers, never_two, update_stop, update_spares, update_from}
use Rattle.store_rows.proofs.UpdateLemmas.{key_filter, both_are, cell_changes, update_cell_command, update_cell_is, update_cell_plain, cell_passes, written_cell, notice_changes, update_notice_command, update_notice_is, update_notice_plain, notice_passes, written_notice}
use Rattle.sqlite_value.specs.declared.value.Value.TheVariants.{Null, Int}
use Rattle.sqlite_value.specs.Keys.{plain}
use Rattle.sqlite_value.specs.Order.{Row, value_cmp}
use Rattle.sqlite_trees.specs.Tree.{Trees, rowid}
use Rattle.sqlite_sql.specs.Ops.{fits_i64}
use Rattle.sqlite_typing.specs.Types.{accepts_program}
use Rattle.sqlite_schema.specs.declared.schema.Constraint.TheVariants.{Unique, ForeignKey}
use Rattle.sqlite_schema.specs.declared.schema.Schema.{Schema}
use Rattle.sqlite_schema.specs.Rules.{Keeps, agree}
use Rattle.sqlite_rules.specs.Lists.{Has}
use Rattle.sqlite_rules.specs.Edit.{id_in}
use Rattle.sqlite_tied.specs.Compute.{everything}
use Rattle.sqlite.specs.declared.error.Error.{Error}
use Rattle.sqlite.specs.Does.{Does, Tally}
use Rattle.sqlite.specs.Effect.{Database, IsDatabase}
use Rattle.sqlite.specs.Listing.{understood}
use Rattle.sqlite.specs.Rows.{Queried}
use Rattle.sqlite.specs.State.{State, Executes, ExecutesInside, mode_of}
use Rattle.sqlite.proofs.Callers.{statement_of, runs_as}
use Rattle.store_schema.specs.Tables.{AreBehind, behind, others_in, schema_4, cells_tree, notices_tree}
use Rattle.store_rows.specs.declared.content.StoredCell.{StoredCell}
use Rattle.store_rows.specs.declared.content.StoredNotice.{StoredNotice}
use Rattle.store_rows.specs.Texts.{update_cell_text, update_notice_text}
use Rattle.store_rows.specs.Rows.{cell_row, cell_before, notice_row, notice_before}
use Rattle.store_rows.specs.Steps.{Any, Uses, IsStopped}
use Rattle.store_rows.specs.Rowids.{has_room}
use Rattle.store_rows.proofs.BesideLemmas.{shared}
use Rattle.store_rows.proofs.ContentLemmas.{has_own, rows_keyed, cells_ordered, notices_ordered, notices_of, equal_whole, cell_hit, cell_finds, notice_hit, notice_finds}
use Rattle.store_rows.proofs.EditLemmas.{IsKeyed, went, same_value}
use Rattle.store_rows.proofs.PutLemmas.{cells_there, notices_there, cast_int}
use Rattle.store_rows.proofs.RoomLemmas.{room_parts, rooms_kept}
use Rattle.store_rows.proofs.StopLemmas.{IsFull, not_odd}
use Rattle.store_rows.proofs.StopPutLemmas.{concludes}
use Rattle.store_rows.proofs.StoredLemmas.{cells_own, cell_good, notices_own, notice_good}
use Rattle.store_rows.proofs.NeverLemmas.{rules_of, stops_as, as_much}

-- ---- a row that is changed where it stands

-- two rows with one key, in the first two columns
keys_agree : (a b : ℕ) (r s more rest : Row) → drop 1 r ≡ Int (pos a) ∷ Int (pos b) ∷ more → drop 1 s ≡ Int (pos a) ∷ Int (pos b) ∷ rest → agree plain (1 ∷ 2 ∷ []) r (1 ∷ 2 ∷ []) s ≡ true
unfolding first_key
keys_agree a b [] s more rest e f = absurd (cc)
keys_agree a b (v ∷ r) [] more rest e f = absurd (cc)
keys_agree a b (v ∷ r) (w ∷ s) more rest e f = rw (e, f, equal_whole a a, equal_whole b b) (grind (arith, nat_tests))

update_cell_full : (more : Schema) (c : StoredCell) → IsFull update_cell_text (cell_row c) (understood (behind schema_4 more) update_cell_text)
unfolding understood everything
update_cell_full more c = (refl, refl)

update_cell_typed : (more : Schema) (c : StoredCell) → accepts_program (behind schema_4 more) [] (query_on 2 key_filter cell_changes []) (cell_row c) ≡ true
unfolding everything
update_cell_typed more c = refl

over_cell : (c d : StoredCell) (r : Row) → drop 1 r ≡ cell_row d → is_int (rowid r) ≡ true → passes key_filter (cell_row c) r ≡ true
    → cast_row cells_there (drop 1 (eval_all cell_changes (cell_row c ∷ r ∷ []))) ≡ Int (id_in (rowid r)) ∷ cell_row c
over_cell c d r e int hit =
    let first : cast Integer (rowid r) ≡ Int (id_in (rowid r)) = ap (cast Integer) (int_is (rowid r) int) ∙ cast_int (id_in (rowid r)) in
    let rest = written_cell c d r e hit in
    λ i. first i ∷ rest i

module _ (more : Schema) (apart : AreBehind more) (c : StoredCell) (old : State) (has : old.now.schema ≡ behind schema_4 more) (sound : IsDatabase old.now) (keyed : IsKeyed (old.now.trees cells_tree))
    (known : (r : Row) → Has (old.now.trees cells_tree) r → (d : StoredCell) × (drop 1 r ≡ cell_row d)) where
  cell_keeps : (Keeps Unique (behind schema_4 more) old.now.trees) × Keeps ForeignKey (behind schema_4 more) old.now.trees
  cell_keeps = rules_of old.now (behind schema_4 more) has sound

  cell_one : (r s : Row) → Has (old.now.trees 2) r → Has (old.now.trees 2) s → passes key_filter (cell_row c) r ≡ true → passes key_filter (cell_row c) s ≡ true → value_cmp (rowid r) (rowid s) ≡ Less → ⊥
  cell_one r s h k a b less =
      let d = known r h in
      let e = known s k in
      let one = both_are c.r c.slot d.0.r d.0.slot (sym (cell_passes c d.0 r d.1) ∙ a) in
      let two = both_are c.r c.slot e.0.r e.0.slot (sym (cell_passes c e.0 s e.1) ∙ b) in
      let left : drop 1 r ≡ Int (pos c.r) ∷ Int (pos c.slot) ∷ Int (pos d.0.n) ∷ [] = d.1 ∙ (λ i. Int (pos (one.0 i)) ∷ Int (pos (one.1 i)) ∷ Int (pos d.0.n) ∷ []) in
      let right : drop 1 s ≡ Int (pos c.r) ∷ Int (pos c.slot) ∷ Int (pos e.0.n) ∷ [] = e.1 ∙ (λ i. Int (pos (two.0 i)) ∷ Int (pos (two.1 i)) ∷ Int (pos e.0.n) ∷ []) in
      never_two (behind schema_4 more).indexes 2 (old.now.trees 2) (clear_before (behind schema_4 more) old.now.trees cells_there (inr (inl refl)) cell_keeps.0) keyed.numbered
      _ (inr (inl refl)) refl r s h k (keys_agree c.r c.slot r s (Int (pos d.0.n) ∷ []) (Int (pos e.0.n) ∷ []) left right) less

  update_cell_does : (stop : Option Error) → ((r : Row) → Has (old.now.trees cells_tree) r → fits_i64 (id_in (rowid r)) ≡ true)
      → Does None (mode_of old) (cell_row c) (record old.now { schema = behind schema_4 more }) (statement_of update_cell_text (understood (behind schema_4 more) update_cell_text)) None update_cell_command (Err stop) → ⊥
  update_cell_does stop small (inl (s, wrote, e)) =
      let params = cell_row c in
      let db = old.now.trees in
      let seen = λ (rows : List Row) (queried : Queried None (record old.now { schema = behind schema_4 more }) (record { lets = []; body = query_on 2 key_filter cell_changes [] }) params (Ok rows)) (x : Row) (k : Has rows x).
      answer_has 2 key_filter cell_changes [] (overlay db []) params rows (queried.answer Null) x k in
      update_stop None more apart cells_there cells_own (inr (inl refl)) params params (cell_good more apart c) (passes key_filter params) (record { lets = []; body = query_on 2 key_filter cell_changes [] }) db keyed cell_keeps.0
      (λ t given. query_stop 2 key_filter cell_changes (record old.now { schema = behind schema_4 more }) params (update_cell_typed more c) t given)
      (λ rows queried. few_answers 2 key_filter cell_changes (overlay db []) params rows (queried.answer Null) keyed.keyed cell_one)
      (λ rows queried x k.
      let it = seen rows queried x k in
      let d = known it.0 it.1 in (
        it.0,
        it.1,
        it.2,
        ap (λ (y : Row). id_in (rowid y)) it.3,
        ap (λ (y : Row). cast_row cells_there (drop 1 y)) it.3 ∙ over_cell c d.0 it.0 d.1 (all_has _ (db 2) it.0 keyed.numbered it.1) it.2,
      ))
      (λ rows queried r k hit. let it = has_answer 2 key_filter cell_changes [] (overlay db []) params rows (queried.answer Null) r k hit in (eval_all cell_changes (params ∷ r ∷ []), it, refl))
      small
      (λ id r k miss. let d = known r k in shared more cells_there (Int id ∷ params) r apart (omega arith) ∙ cell_hit c r d.0 d.1 ∙ sym (cell_passes c d.0 r d.1 ∙ cell_finds c d.0) ∙ miss)
      s wrote
  update_cell_does stop small (inr (w, wrote, ends)) =
      concludes None more apart cells_there cells_own (inr (inl refl)) (cell_row c) old.now.trees w stop cell_keeps.1
      (update_spares None more apart cells_there cells_own (inr (inl refl)) (cell_row c) (record { lets = []; body = query_on 2 key_filter cell_changes [] }) old.now.trees w wrote) ends

  update_cell_uses : (new : State) (count : ℕ) (k : ℕ) → Executes update_cell_text (cell_row c) old new (Ok count) → has_room k old.now.trees ≡ true → has_room k new.now.trees ≡ true
  update_cell_uses new count k ran room =
      let params = cell_row c in
      let db = old.now.trees in
      let w = runs_as update_cell_text params old new (behind schema_4 more) has update_cell_command (update_cell_is more) (update_cell_plain more) count ran in
      let text = statement_of update_cell_text (understood (behind schema_4 more) update_cell_text) in
      let done = went (subst (λ s. Does old.step_limit (mode_of old) params (record old.now { schema = s }) text None update_cell_command (Ok (w.tally, new.now))) has w.changed) in
      let now : done.0.trees ≡ new.now.trees = ap (λ (p : Tally × Database). p.1.trees) (sym (same_value (went (went done.2).2).2)) in
      let q : Program = record { lets = []; body = query_on 2 key_filter cell_changes [] } in
      let spares = update_spares old.step_limit more apart cells_there cells_own (inr (inl refl)) params q db done.0 done.1 in
      let from = update_from old.step_limit more apart cells_there cells_own (inr (inl refl)) params q db done.0
      (λ rows queried x k.
      let it = answer_has 2 key_filter cell_changes [] (overlay db []) params rows (queried.answer Null) x k in
      let d = known it.0 it.1 in
      (it.0, it.1, ap (λ (y : Row). id_in (rowid (cast_row cells_there (drop 1 y)))) it.3 ∙ ap (λ (y : Row). id_in (rowid y)) (over_cell c d.0 it.0 d.1 (all_has _ (db 2) it.0 keyed.numbered it.1) it.2))) done.1 in
      subst (λ (t : Trees). has_room k t ≡ true) now (rooms_kept more db done.0.trees cells_tree spares k from room)

pub cell_update_stops : (old new : State) (c : StoredCell) (e : Error) → ExecutesInside 0 update_cell_text (cell_row c) old new (Err e) → IsStopped 0 Any old new e
cell_update_stops old new c e = stops_as update_cell_text (cell_row c) old new 0 Any e (λ odd p two fits h k more_room.
    let more = others_in old.now.schema in
    let own = has_own p old.now new.now two h in
    let parts = room_parts k old.now.trees (as_much k old.now.trees more_room) in
    not_odd update_cell_text (cell_row c) old (behind schema_4 more) own update_cell_command (update_cell_is more) (update_cell_plain more) (update_cell_full more c) tt (refl, refl) e
    (λ stop. update_cell_does more h.apart c old own h.sound (rows_keyed cell_row cell_before cells_ordered p.cells (old.now.trees 2) h.cells) (λ r there. let d = h.cells.sound r there in (d.0, d.2)) stop
    (λ r there. (and_parts _ _ (test_has _ (old.now.trees 2) r parts.2 there)).0)) odd)

pub cell_update_uses : (old new : State) (c : StoredCell) (count : ℕ) → Executes update_cell_text (cell_row c) old new (Ok count) → Uses 0 Any old.now new.now
cell_update_uses old new c count ran p two fits h k room =
    update_cell_uses (others_in old.now.schema) h.apart c old (has_own p old.now new.now two h) h.sound (rows_keyed cell_row cell_before cells_ordered p.cells (old.now.trees 2) h.cells)
    (λ r there. let d = h.cells.sound r there in (d.0, d.2)) new count k ran (as_much k old.now.trees room)

-- ---- notices

update_notice_full : (more : Schema) (c : StoredNotice) → IsFull update_notice_text (notice_row c) (understood (behind schema_4 more) update_notice_text)
unfolding understood everything
update_notice_full more c = (refl, refl)

update_notice_typed : (more : Schema) (c : StoredNotice) → accepts_program (behind schema_4 more) [] (query_on 7 key_filter notice_changes []) (notice_row c) ≡ true
unfolding everything
update_notice_typed more c = refl

over_notice : (c d : StoredNotice) (r : Row) → drop 1 r ≡ notice_row d → is_int (rowid r) ≡ true → passes key_filter (notice_row c) r ≡ true
    → cast_row notices_there (drop 1 (eval_all notice_changes (notice_row c ∷ r ∷ []))) ≡ Int (id_in (rowid r)) ∷ notice_row c
over_notice c d r e int hit =
    let first : cast Integer (rowid r) ≡ Int (id_in (rowid r)) = ap (cast Integer) (int_is (rowid r) int) ∙ cast_int (id_in (rowid r)) in
    let rest = written_notice c d r e hit in
    λ i. first i ∷ rest i

module _ (more : Schema) (apart : AreBehind more) (c : StoredNotice) (old : State) (has : old.now.schema ≡ behind schema_4 more) (sound : IsDatabase old.now) (keyed : IsKeyed (old.now.trees notices_tree))
    (known : (r : Row) → Has (old.now.trees notices_tree) r → (d : StoredNotice) × (drop 1 r ≡ notice_row d)) where
  notice_keeps : (Keeps Unique (behind schema_4 more) old.now.trees) × Keeps ForeignKey (behind schema_4 more) old.now.trees
  notice_keeps = rules_of old.now (behind schema_4 more) has sound

  notice_one : (r s : Row) → Has (old.now.trees 7) r → Has (old.now.trees 7) s → passes key_filter (notice_row c) r ≡ true → passes key_filter (notice_row c) s ≡ true → value_cmp (rowid r) (rowid s) ≡ Less → ⊥
  notice_one r s h k a b less =
      let d = known r h in
      let e = known s k in
      let one = both_are c.r c.site d.0.r d.0.site (sym (notice_passes c d.0 r d.1) ∙ a) in
      let two = both_are c.r c.site e.0.r e.0.site (sym (notice_passes c e.0 s e.1) ∙ b) in
      let left : drop 1 r ≡ Int (pos c.r) ∷ Int (pos c.site) ∷ Int (pos d.0.announced) ∷ Int (pos d.0.finished) ∷ [] = d.1 ∙ (λ i. Int (pos (one.0 i)) ∷ Int (pos (one.1 i)) ∷ Int (pos d.0.announced) ∷ Int (pos d.0.finished) ∷ []) in
      let right : drop 1 s ≡ Int (pos c.r) ∷ Int (pos c.site) ∷ Int (pos e.0.announced) ∷ Int (pos e.0.finished) ∷ [] = e.1 ∙ (λ i. Int (pos (two.0 i)) ∷ Int (pos (two.1 i)) ∷ Int (pos e.0.announced) ∷ Int (pos e.0.finished) ∷ []) in
      never_two (behind schema_4 more).indexes 7 (old.now.trees 7) (clear_before (behind schema_4 more) old.now.trees notices_there (inr (inr (inr (inl refl)))) notice_keeps.0) keyed.numbered
      _ (inr (inr (inr (inr (inl refl))))) refl r s h k (keys_agree c.r c.site r s (Int (pos d.0.announced) ∷ Int (pos d.0.finished) ∷ []) (Int (pos e.0.announced) ∷ Int (pos e.0.finished) ∷ []) left right) less

  update_notice_does : (stop : Option Error) → ((r : Row) → Has (old.now.trees notices_tree) r → fits_i64 (id_in (rowid r)) ≡ true)
      → Does None (mode_of old) (notice_row c) (record old.now { schema = behind schema_4 more }) (statement_of update_notice_text (understood (behind schema_4 more) update_notice_text)) None update_notice_command (Err stop) → ⊥
  update_notice_does stop small (inl (s, wrote, e)) =
      let params = notice_row c in
      let db = old.now.trees in
      let seen = λ (rows : List Row) (queried : Queried None (record old.now { schema = behind schema_4 more }) (record { lets = []; body = query_on 7 key_filter notice_changes [] }) params (Ok rows)) (x : Row) (k : Has rows x).
      answer_has 7 key_filter notice_changes [] (overlay db []) params rows (queried.answer Null) x k in
      update_stop None more apart notices_there notices_own (inr (inr (inr (inl refl)))) params params (notice_good more apart c) (passes key_filter params) (record { lets = []; body = query_on 7 key_filter notice_changes [] }) db keyed notice_keeps.0
      (λ t given. query_stop 7 key_filter notice_changes (record old.now { schema = behind schema_4 more }) params (update_notice_typed more c) t given)
      (λ rows queried. few_answers 7 key_filter notice_changes (overlay db []) params rows (queried.answer Null) keyed.keyed notice_one)
      (λ rows queried x k.
      let it = seen rows queried x k in
      let d = known it.0 it.1 in (
        it.0,
        it.1,
        it.2,
        ap (λ (y : Row). id_in (rowid y)) it.3,
        ap (λ (y : Row). cast_row notices_there (drop 1 y)) it.3 ∙ over_notice c d.0 it.0 d.1 (all_has _ (db 7) it.0 keyed.numbered it.1) it.2,
      ))
      (λ rows queried r k hit. let it = has_answer 7 key_filter notice_changes [] (overlay db []) params rows (queried.answer Null) r k hit in (eval_all notice_changes (params ∷ r ∷ []), it, refl))
      small
      (λ id r k miss. let d = known r k in shared more notices_there (Int id ∷ params) r apart (omega arith) ∙ notice_hit c r d.0 d.1 ∙ sym (notice_passes c d.0 r d.1 ∙ notice_finds c d.0) ∙ miss)
      s wrote
  update_notice_does stop small (inr (w, wrote, ends)) =
      concludes None more apart notices_there notices_own (inr (inr (inr (inl refl)))) (notice_row c) old.now.trees w stop notice_keeps.1
      (update_spares None more apart notices_there notices_own (inr (inr (inr (inl refl)))) (notice_row c) (record { lets = []; body = query_on 7 key_filter notice_changes [] }) old.now.trees w wrote) ends

  update_notice_uses : (new : State) (count : ℕ) (k : ℕ) → Executes update_notice_text (notice_row c) old new (Ok count) → has_room k old.now.trees ≡ true → has_room k new.now.trees ≡ true
  update_notice_uses new count k ran room =
      let params = notice_row c in
      let db = old.now.trees in
      let w = runs_as update_notice_text params old new (behind schema_4 more) has update_notice_command (update_notice_is more) (update_notice_plain more) count ran in
      let text = statement_of update_notice_text (understood (behind schema_4 more) update_notice_text) in
      let done = went (subst (λ s. Does old.step_limit (mode_of old) params (record old.now { schema = s }) text None update_notice_command (Ok (w.tally, new.now))) has w.changed) in
      let now : done.0.trees ≡ new.now.trees = ap (λ (p : Tally × Database). p.1.trees) (sym (same_value (went (went done.2).2).2)) in
      let q : Program = record { lets = []; body = query_on 7 key_filter notice_changes [] } in
      let spares = update_spares old.step_limit more apart notices_there notices_own (inr (inr (inr (inl refl)))) params q db done.0 done.1 in
      let from = update_from old.step_limit more apart notices_there notices_own (inr (inr (inr (inl refl)))) params q db done.0
      (λ rows queried x k.
      let it = answer_has 7 key_filter notice_changes [] (overlay db []) params rows (queried.answer Null) x k in
      let d = known it.0 it.1 in
      (it.0, it.1, ap (λ (y : Row). id_in (rowid (cast_row notices_there (drop 1 y)))) it.3 ∙ ap (λ (y : Row). id_in (rowid y)) (over_notice c d.0 it.0 d.1 (all_has _ (db 7) it.0 keyed.numbered it.1) it.2))) done.1 in
      subst (λ (t : Trees). has_room k t ≡ true) now (rooms_kept more db done.0.trees notices_tree spares k from room)

pub notice_update_stops : (old new : State) (c : StoredNotice) (e : Error) → ExecutesInside 0 update_notice_text (notice_row c) old new (Err e) → IsStopped 0 Any old new e
notice_update_stops old new c e = stops_as update_notice_text (notice_row c) old new 0 Any e (λ odd p two fits h k more_room.
    let more = others_in old.now.schema in
    let own = has_own p old.now new.now two h in
    let parts = room_parts k old.now.trees (as_much k old.now.trees more_room) in
    not_odd update_notice_text (notice_row c) old (behind schema_4 more) own update_notice_command (update_notice_is more) (update_notice_plain more) (update_notice_full more c) tt (refl, refl) e
    (λ stop. update_notice_does more h.apart c old own h.sound (rows_keyed notice_row notice_before notices_ordered p.notices (old.now.trees 7) (notices_of p (old.now.trees 7) two h.notices)) (λ r there. let d = (notices_of p (old.now.trees 7) two h.notices).sound r there in (d.0, d.2)) stop
    (λ r there. (and_parts _ _ (test_has _ (old.now.trees 7) r parts.4 there)).0)) odd)

pub notice_update_uses : (old new : State) (c : StoredNotice) (count : ℕ) → Executes update_notice_text (notice_row c) old new (Ok count) → Uses 0 Any old.now new.now
notice_update_uses old new c count ran p two fits h k room =
    update_notice_uses (others_in old.now.schema) h.apart c old (has_own p old.now new.now two h) h.sound (rows_keyed notice_row notice_before notices_ordered p.notices (old.now.trees 7) (notices_of p (old.now.trees 7) two h.notices))
    (λ r there. let d = (notices_of p (old.now.trees 7) two h.notices).sound r there in (d.0, d.2)) new count k ran (as_much k old.now.trees room)
