-- No statement of a store is stopped by the database, where it is one and has rowids left.
use Rattle.std.proofs.Common.{◌≡◌, inl, inr, ℕ, suc, ◌+◌, ℤ, pos, true, ◌||◌, List, [], ◌∷◌, Option, None, Ok, Err, refl, sym, ap, subst, ◌∙◌, arith}
use Rattle.std.proofs.lemmas.Bool.{and_parts}
use Rattle.sqlite_rules.specs.Cast.{cast, cast_row}
use Rattle.sqlite_value.specs.declared.value.Value.{Value}
use Rattle.sqlite_value.specs.declared.value.Value.TheVariants.{Int}
use Rattle.sqlite_value.specs.Keys.{plain}
use Rattle.sqlite_value.specs.Order.{Row}
use Rattle.sqlite_trees.specs.Tree.{Trees}
use Rattle.sqlite_sql.specs.Ops.{fits_i64}
use Rattle.sqlite_typing.specs.Types.{accepts_terms}
use Rattle.sqlite_schema.specs.declared.schema.Constraint.TheVariants.{Unique, ForeignKey}
use Rattle.sqlite_schema.specs.declared.schema.Keys.TheVariants.{Enforced}
use Rattle.sqlite_schema.specs.declared.schema.Schema.{Schema}
use Rattle.sqlite_schema.specs.declared.command.Source.TheVariants.{Values}
use Rattle.sqlite_schema.specs.Rules.{Keeps, agree}
use Rattle.sqlite_rules.specs.Edit.{next_rowid}
use Rattle.sqlite_tied.specs.Compute.{everything}
use Rattle.sqlite.specs.declared.error.Error.{Error}
use Rattle.sqlite.specs.Does.{Does, Tally}
use Rattle.sqlite.specs.Effect.{Database, IsDatabase}
use Rattle.sqlite.specs.Listing.{understood}
use Rattle.sqlite.specs.State.{State, Executes, ExecutesInside, mode_of}
use Rattle.sqlite.proofs.Callers.{statement_of, runs_as}
use Rattle.store_schema.specs.Tables.{AreBehind, behind, others_in, schema_4, cells_tree, notices_tree}
use Rattle.store_rows.specs.declared.content.StoredCell.{StoredCell}
use Rattle.store_rows.specs.declared.content.StoredNotice.{StoredNotice}
use Rattle.store_rows.specs.Texts.{put_cell_text, put_notice_text}
use Rattle.sqlite_rules.specs.Keys.{conflicts}
use Rattle.store_rows.specs.Rows.{cell_row, cell_before, notice_row, notice_before}
use Rattle.store_rows.specs.Steps.{Any, Uses, IsStopped, IsUnfit}
use Rattle.store_rows.specs.Rowids.{has_room}
use Rattle.store_rows.proofs.BesideLemmas.{no_works, shared}
use Rattle.store_rows.proofs.ContentLemmas.{has_own, rows_keyed, cells_ordered, notices_ordered, notices_of}
use Rattle.store_rows.proofs.EditLemmas.{IsKeyed, went, same_value}
use Rattle.store_rows.proofs.PutLemmas.{cells_there, cell_terms, put_cell_command, put_cell_is, put_cell_plain, notices_there, notice_terms, put_notice_command, put_notice_is, put_notice_plain, cast_three, cast_four, cast_int, hits, IsPlainFor}
use Rattle.store_rows.proofs.RoomLemmas.{room_parts, room_of_next, rooms_after}
use Rattle.store_rows.proofs.StopLemmas.{IsFull, IsOdd, stopped, not_odd}
use Rattle.store_rows.proofs.StopPutLemmas.{task_on, concludes, inserts_stop, inserts_spare, inserts_from, given_stop}
use Rattle.store_rows.proofs.StoredLemmas.{cells_own, cell_good, notices_own, notice_good}

-- a rule holds of the trees of a sound database
pub rules_of : (d : Database) (schema : Schema) → d.schema ≡ schema → IsDatabase d → (Keeps Unique schema d.trees) × Keeps ForeignKey schema d.trees
rules_of d schema has sound = subst (λ (s : Schema). (Keeps Unique s d.trees) × Keeps ForeignKey s d.trees) has (sound.obeys.rules Unique, sound.obeys.rules ForeignKey)

-- what stopped a statement
pub stops_as : (text : List ℕ) (params : Row) (old new : State) (n : ℕ) (Fits : Rattle.store_rows.specs.Holding.Parts → Type 0) (e : Error) → (IsOdd text params old e → IsUnfit n Fits old.now) → ExecutesInside 0 text params old new (Err e)
    → IsStopped n Fits old new e
stops_as text params old new n Fits e never ran = elim (stopped text params old new e ran) [
  | inl why ↦ inl why
  | inr (inl lacked) ↦ inr (inl lacked.0)
  | inr (inr odd) ↦ inr (inr (never odd))
]

pub one_more : (k : ℕ) (db : Trees) → has_room (1 + k) db ≡ true → has_room (suc k) db ≡ true
one_more k db room = let same : 1 + k ≡ suc k = omega arith in subst (λ (n : ℕ). has_room n db ≡ true) same room

pub as_much : (k : ℕ) (db : Trees) → has_room (0 + k) db ≡ true → has_room k db ≡ true
as_much k db room = let same : 0 + k ≡ k = omega arith in subst (λ (n : ℕ). has_room n db ≡ true) same room

-- ---- cells

put_cell_full : (more : Schema) (c : StoredCell) → IsFull put_cell_text (cell_row c) (understood (behind schema_4 more) put_cell_text)
unfolding understood everything
put_cell_full more c = (refl, refl)

put_cell_typed : (c : StoredCell) → accepts_terms cell_terms (cell_row c) ≡ true
unfolding everything
put_cell_typed c = refl

module _ (more : Schema) (apart : AreBehind more) (c : StoredCell) where
  cell_plain : (limit : Option ℕ) → IsPlainFor (task_on limit more apart cells_there cells_own (inr (inl refl)) (cell_row c)) (cell_row c)
  cell_plain limit = record { idle = no_works more apart Enforced cells_tree (omega arith); chosen = λ _. refl; mended = refl; cast = λ v. cast_three v (pos c.r) (pos c.slot) (pos c.n) }

  cell_cast : (id : ℤ) → Rattle.sqlite_rules.specs.Cast.cast_row cells_there (Int id ∷ cell_row c) ≡ Int id ∷ cell_row c
  cell_cast id = cast_three (Int id) (pos c.r) (pos c.slot) (pos c.n) ∙ ap (λ (v : Value). v ∷ cell_row c) (cast_int id)

  cell_meets : (id : ℤ) (r : Row) → conflicts None (behind schema_4 more).indexes cells_there (Int id ∷ cell_row c) r ≡ (agree plain (0 ∷ []) r (0 ∷ []) (Int id ∷ cell_row c) || hits cells_there (cell_row c) r)
  cell_meets id r = ap (λ b. agree plain (0 ∷ []) r (0 ∷ []) (Int id ∷ cell_row c) || b) (shared more cells_there (Int id ∷ cell_row c) r apart (omega arith))

  module _ (old : State) (has : old.now.schema ≡ behind schema_4 more) (sound : IsDatabase old.now) (keyed : IsKeyed (old.now.trees cells_tree)) where
    put_cell_does : (stop : Option Error) → fits_i64 (next_rowid (old.now.trees cells_tree)) ≡ true
        → Does None (mode_of old) (cell_row c) (record old.now { schema = behind schema_4 more }) (statement_of put_cell_text (understood (behind schema_4 more) put_cell_text)) None put_cell_command (Err stop) → ⊥
    put_cell_does stop small (inl (s, wrote, e)) =
        inserts_stop None more apart cells_there cells_own (inr (inl refl)) (cell_row c) (cell_row c) (cell_good more apart c) cell_cast (cell_plain None) (hits cells_there (cell_row c))
        cell_meets refl
        (Values cell_terms 4) old.now.trees s (rules_of old.now (behind schema_4 more) has sound).0 keyed small
        (λ t given. given_stop cell_terms 4 (record old.now { schema = behind schema_4 more }) (cell_row c) (put_cell_typed c) t given)
        (λ rows given. given.1) wrote
    put_cell_does stop small (inr (w, wrote, ends)) =
        concludes None more apart cells_there cells_own (inr (inl refl)) (cell_row c) old.now.trees w stop (rules_of old.now (behind schema_4 more) has sound).1
        (inserts_spare None more apart cells_there cells_own (inr (inl refl)) (cell_row c) (cell_row c) (cell_good more apart c) cell_cast (cell_plain None) (hits cells_there (cell_row c))
        cell_meets refl
        (Values cell_terms 4) old.now.trees w keyed (λ rows given. given.1) wrote) ends

    put_cell_uses : (new : State) (count : ℕ) (k : ℕ) → Executes put_cell_text (cell_row c) old new (Ok count) → has_room (suc k) old.now.trees ≡ true → has_room k new.now.trees ≡ true
    put_cell_uses new count k ran room =
        let w = runs_as put_cell_text (cell_row c) old new (behind schema_4 more) has put_cell_command (put_cell_is more) (put_cell_plain more) count ran in
        let text = statement_of put_cell_text (understood (behind schema_4 more) put_cell_text) in
        let done = went (subst (λ s. Does old.step_limit (mode_of old) (cell_row c) (record old.now { schema = s }) text None put_cell_command (Ok (w.tally, new.now))) has w.changed) in
        let now : done.0.trees ≡ new.now.trees = ap (λ (p : Tally × Database). p.1.trees) (sym (same_value (went (went done.2).2).2)) in
        let spares = inserts_spare old.step_limit more apart cells_there cells_own (inr (inl refl)) (cell_row c) (cell_row c) (cell_good more apart c) cell_cast (cell_plain old.step_limit) (hits cells_there (cell_row c)) cell_meets refl
        (Values cell_terms 4) old.now.trees done.0 keyed (λ rows given. given.1) done.1 in
        let from = inserts_from old.step_limit more apart cells_there cells_own (inr (inl refl)) (cell_row c) (cell_row c) (cell_good more apart c) cell_cast (cell_plain old.step_limit) (hits cells_there (cell_row c)) cell_meets refl
        (Values cell_terms 4) old.now.trees done.0 (λ rows given. given.1) done.1 in
        subst (λ (t : Trees). has_room k t ≡ true) now (rooms_after more old.now.trees done.0.trees cells_tree spares k from room)

pub cell_stops : (old new : State) (c : StoredCell) (e : Error) → ExecutesInside 0 put_cell_text (cell_row c) old new (Err e) → IsStopped 1 Any old new e
cell_stops old new c e = stops_as put_cell_text (cell_row c) old new 1 Any e (λ odd p two fits h k more_room.
    let more = others_in old.now.schema in
    let own = has_own p old.now new.now two h in
    let room = one_more k old.now.trees more_room in
    let parts = room_parts (suc k) old.now.trees room in
    not_odd put_cell_text (cell_row c) old (behind schema_4 more) own put_cell_command (put_cell_is more) (put_cell_plain more) (put_cell_full more c) tt (refl, refl) e
    (λ stop. put_cell_does more h.apart c old own h.sound (rows_keyed cell_row cell_before cells_ordered p.cells (old.now.trees 2) h.cells) stop
    (and_parts _ _ (room_of_next k (old.now.trees 2) parts.0 parts.2)).0) odd)

pub cell_uses : (old new : State) (c : StoredCell) (count : ℕ) → Executes put_cell_text (cell_row c) old new (Ok count) → Uses 1 Any old.now new.now
cell_uses old new c count ran p two fits h k room =
    put_cell_uses (others_in old.now.schema) h.apart c old (has_own p old.now new.now two h) h.sound (rows_keyed cell_row cell_before cells_ordered p.cells (old.now.trees 2) h.cells) new count k ran (one_more k old.now.trees room)

-- ---- notices

put_notice_full : (more : Schema) (c : StoredNotice) → IsFull put_notice_text (notice_row c) (understood (behind schema_4 more) put_notice_text)
unfolding understood everything
put_notice_full more c = (refl, refl)

put_notice_typed : (c : StoredNotice) → accepts_terms notice_terms (notice_row c) ≡ true
unfolding everything
put_notice_typed c = refl

module _ (more : Schema) (apart : AreBehind more) (c : StoredNotice) where
  notice_plain : (limit : Option ℕ) → IsPlainFor (task_on limit more apart notices_there notices_own (inr (inr (inr (inl refl)))) (notice_row c)) (notice_row c)
  notice_plain limit = record { idle = no_works more apart Enforced notices_tree (omega arith); chosen = λ _. refl; mended = refl; cast = λ v. cast_four v (pos c.r) (pos c.site) (pos c.announced) (pos c.finished) }

  notice_cast : (id : ℤ) → Rattle.sqlite_rules.specs.Cast.cast_row notices_there (Int id ∷ notice_row c) ≡ Int id ∷ notice_row c
  notice_cast id = cast_four (Int id) (pos c.r) (pos c.site) (pos c.announced) (pos c.finished) ∙ ap (λ (v : Value). v ∷ notice_row c) (cast_int id)

  notice_meets : (id : ℤ) (r : Row) → conflicts None (behind schema_4 more).indexes notices_there (Int id ∷ notice_row c) r ≡ (agree plain (0 ∷ []) r (0 ∷ []) (Int id ∷ notice_row c) || hits notices_there (notice_row c) r)
  notice_meets id r = ap (λ b. agree plain (0 ∷ []) r (0 ∷ []) (Int id ∷ notice_row c) || b) (shared more notices_there (Int id ∷ notice_row c) r apart (omega arith))

  module _ (old : State) (has : old.now.schema ≡ behind schema_4 more) (sound : IsDatabase old.now) (keyed : IsKeyed (old.now.trees notices_tree)) where
    put_notice_does : (stop : Option Error) → fits_i64 (next_rowid (old.now.trees notices_tree)) ≡ true
        → Does None (mode_of old) (notice_row c) (record old.now { schema = behind schema_4 more }) (statement_of put_notice_text (understood (behind schema_4 more) put_notice_text)) None put_notice_command (Err stop) → ⊥
    put_notice_does stop small (inl (s, wrote, e)) =
        inserts_stop None more apart notices_there notices_own (inr (inr (inr (inl refl)))) (notice_row c) (notice_row c) (notice_good more apart c) notice_cast (notice_plain None) (hits notices_there (notice_row c))
        notice_meets refl
        (Values notice_terms 5) old.now.trees s (rules_of old.now (behind schema_4 more) has sound).0 keyed small
        (λ t given. given_stop notice_terms 5 (record old.now { schema = behind schema_4 more }) (notice_row c) (put_notice_typed c) t given)
        (λ rows given. given.1) wrote
    put_notice_does stop small (inr (w, wrote, ends)) =
        concludes None more apart notices_there notices_own (inr (inr (inr (inl refl)))) (notice_row c) old.now.trees w stop (rules_of old.now (behind schema_4 more) has sound).1
        (inserts_spare None more apart notices_there notices_own (inr (inr (inr (inl refl)))) (notice_row c) (notice_row c) (notice_good more apart c) notice_cast (notice_plain None) (hits notices_there (notice_row c))
        notice_meets refl
        (Values notice_terms 5) old.now.trees w keyed (λ rows given. given.1) wrote) ends

    put_notice_uses : (new : State) (count : ℕ) (k : ℕ) → Executes put_notice_text (notice_row c) old new (Ok count) → has_room (suc k) old.now.trees ≡ true → has_room k new.now.trees ≡ true
    put_notice_uses new count k ran room =
        let w = runs_as put_notice_text (notice_row c) old new (behind schema_4 more) has put_notice_command (put_notice_is more) (put_notice_plain more) count ran in
        let text = statement_of put_notice_text (understood (behind schema_4 more) put_notice_text) in
        let done = went (subst (λ s. Does old.step_limit (mode_of old) (notice_row c) (record old.now { schema = s }) text None put_notice_command (Ok (w.tally, new.now))) has w.changed) in
        let now : done.0.trees ≡ new.now.trees = ap (λ (p : Tally × Database). p.1.trees) (sym (same_value (went (went done.2).2).2)) in
        let spares = inserts_spare old.step_limit more apart notices_there notices_own (inr (inr (inr (inl refl)))) (notice_row c) (notice_row c) (notice_good more apart c) notice_cast (notice_plain old.step_limit) (hits notices_there (notice_row c)) notice_meets refl
        (Values notice_terms 5) old.now.trees done.0 keyed (λ rows given. given.1) done.1 in
        let from = inserts_from old.step_limit more apart notices_there notices_own (inr (inr (inr (inl refl)))) (notice_row c) (notice_row c) (notice_good more apart c) notice_cast (notice_plain old.step_limit) (hits notices_there (notice_row c)) notice_meets refl
        (Values notice_terms 5) old.now.trees done.0 (λ rows given. given.1) done.1 in
        subst (λ (t : Trees). has_room k t ≡ true) now (rooms_after more old.now.trees done.0.trees notices_tree spares k from room)

pub notice_stops : (old new : State) (c : StoredNotice) (e : Error) → ExecutesInside 0 put_notice_text (notice_row c) old new (Err e) → IsStopped 1 Any old new e
notice_stops old new c e = stops_as put_notice_text (notice_row c) old new 1 Any e (λ odd p two fits h k more_room.
    let more = others_in old.now.schema in
    let own = has_own p old.now new.now two h in
    let room = one_more k old.now.trees more_room in
    let parts = room_parts (suc k) old.now.trees room in
    not_odd put_notice_text (notice_row c) old (behind schema_4 more) own put_notice_command (put_notice_is more) (put_notice_plain more) (put_notice_full more c) tt (refl, refl) e
    (λ stop. put_notice_does more h.apart c old own h.sound (rows_keyed notice_row notice_before notices_ordered p.notices (old.now.trees 7) (notices_of p (old.now.trees 7) two h.notices)) stop
    (and_parts _ _ (room_of_next k (old.now.trees 7) parts.0 parts.4)).0) odd)

pub notice_uses : (old new : State) (c : StoredNotice) (count : ℕ) → Executes put_notice_text (notice_row c) old new (Ok count) → Uses 1 Any old.now new.now
notice_uses old new c count ran p two fits h k room =
    put_notice_uses (others_in old.now.schema) h.apart c old (has_own p old.now new.now two h) h.sound (rows_keyed notice_row notice_before notices_ordered p.notices (old.now.trees 7) (notices_of p (old.now.trees 7) two h.notices)) new count k ran (one_more k old.now.trees room)
