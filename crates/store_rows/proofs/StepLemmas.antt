-- What each statement brings to a store.
use Rattle.std.proofs.Common.{◌≡◌, inl, inr, ◌==◌, ℕ, pos, false, Bool, List, [], ◌∷◌, ◌++◌, drop, Some, Result, Ok, Err, OnOk, refl, sym, ◌∙◌, arith}
use Rattle.sqlite_value.specs.declared.value.Value.TheVariants.{Int}
use Rattle.std.proofs.lemmas.Bool.Decides.{nat_tests}
use Rattle.sqlite_value.specs.Order.{Row}
use Rattle.sqlite_rules.specs.Lists.{Has}
use Rattle.sqlite.specs.Effect.{Database}
use Rattle.sqlite.specs.State.{State, Executes, Survives, KeepsCommit}
use Rattle.sqlite.proofs.StateLemmas.{survives_then}
use Rattle.store_schema.specs.Tables.{others_in, meta_tree, cells_tree, sessions_tree, notices_tree}
use Rattle.store_rows.specs.declared.content.StoredCell.{StoredCell}
use Rattle.store_rows.specs.declared.content.StoredNotice.{StoredNotice}
use Rattle.store_rows.specs.declared.content.StoredSession.{StoredSession}
use Rattle.store_rows.specs.declared.content.SessionEdit.TheVariants.{Put}
use Rattle.store_rows.specs.Texts.{put_mark_text, put_cell_text, put_notice_text, update_cell_text, update_notice_text, add_session_text, drop_session_text}
use Rattle.store_rows.specs.Rows.{mark_row, cell_row, cell_before, notice_row, notice_before, session_row, session_before}
use Rattle.store_rows.specs.Sorted.{put, put_all}
use Rattle.store_rows.specs.Holding.{Mark, Parts}
use Rattle.store_rows.specs.Steps.{Goes, Brings, Any, if_changed, HasFreePlace, with_mark, with_cells, with_notices, with_drop, with_session, with_edit, HasNoSuchPlace}
use Rattle.store_rows.proofs.EditLemmas.{put_as}
use Rattle.store_rows.proofs.ReadLemmas.{passes}
use Rattle.store_rows.proofs.PutLemmas.{puts_mark, puts_cell, puts_notice, HasPut, hits, cells_there, notices_there}
use Rattle.store_rows.proofs.UpdateLemmas.{key_filter, cell_passes, notice_passes, updates_cell, updates_notice}
use Rattle.store_rows.proofs.SessionLemmas.{adds_session, drops_session}
use Rattle.store_rows.proofs.BesideLemmas.{spares_beside, spares_then}
use Rattle.store_rows.proofs.ContentLemmas.{cells_ordered, notices_ordered, sessions_ordered, rows_keyed, notices_of, cell_hit, cell_finds, notice_hit, notice_finds, spares_0, spares_2, spares_4, spares_7, has_own, parts_kept, parts_mark, parts_cell, parts_notice, parts_dropped, parts_added}

pub cell_goes : (old new : State) (c : StoredCell) (count : ℕ) → Executes put_cell_text (cell_row c) old new (Ok count) → Brings Any (with_cells (c ∷ [])) old.now new.now
cell_goes old new c count ran p two fits h =
    let more = others_in old.now.schema in
    let own = has_own p old.now new.now two h in
    let step = puts_cell more h.apart old new c count own (rows_keyed cell_row cell_before cells_ordered p.cells (old.now.trees 2) h.cells) ran in
    (parts_cell p old.now new.now two h c step, spares_beside more cells_tree old.now new.now h.apart (omega arith) own step.schema step.others)

pub notice_goes : (old new : State) (n : StoredNotice) (count : ℕ) → Executes put_notice_text (notice_row n) old new (Ok count) → Brings Any (with_notices (n ∷ [])) old.now new.now
notice_goes old new n count ran p two fits h =
    let more = others_in old.now.schema in
    let own = has_own p old.now new.now two h in
    let step = puts_notice more h.apart old new n count own (rows_keyed notice_row notice_before notices_ordered p.notices (old.now.trees 7) (notices_of p (old.now.trees 7) two h.notices)) ran in
    (parts_notice p old.now new.now two h n step, spares_beside more notices_tree old.now new.now h.apart (omega arith) own step.schema step.others)

pub cell_changes : (old new : State) (c : StoredCell) (count : ℕ) → Executes update_cell_text (cell_row c) old new (Ok count) → Brings Any (if_changed count (with_cells (c ∷ []))) old.now new.now
cell_changes old new c count ran p two fits h =
    let known : (r : Row) → Has (old.now.trees 2) r → (d : StoredCell) × (drop 1 r ≡ cell_row d) = λ r k. let d = h.cells.sound r k in (d.0, d.2) in
    let keyed = rows_keyed cell_row cell_before cells_ordered p.cells (old.now.trees 2) h.cells in
    let more = others_in old.now.schema in
    let own = has_own p old.now new.now two h in
    let it = updates_cell more h.apart old new c count own keyed known ran in
    let spares = spares_beside more cells_tree old.now new.now h.apart (omega arith) own it.schema it.others in
    elim it.rows [
      | inl none ↦ rw none.0 (
        parts_kept p old.now new.now two h it.schema it.sound (it.others 0 (λ e. omega arith) (spares_0 more)) none.1 (it.others 4 (λ e. omega arith) (spares_4 more)) (it.others 7 (λ e. omega arith) (spares_7 more)),
        spares,
      )
      | inr some ↦
          let rows = put_as (passes key_filter (cell_row c)) (hits cells_there (cell_row c)) (cell_row c) (old.now.trees 2) (new.now.trees 2)
          (λ r k. let d = known r k in cell_passes c d.0 r d.1 ∙ cell_finds c d.0 ∙ sym (cell_hit c r d.0 d.1)) some.1 in
          let step : HasPut more cells_tree (hits cells_there (cell_row c)) (cell_row c) old.now new.now = record { schema = it.schema; rows = rows; others = it.others; sound = it.sound } in
          rw some.0 (parts_cell p old.now new.now two h c step, spares)
    ]

pub notice_changes : (old new : State) (n : StoredNotice) (count : ℕ) → Executes update_notice_text (notice_row n) old new (Ok count) → Brings Any (if_changed count (with_notices (n ∷ []))) old.now new.now
notice_changes old new n count ran p two fits h =
    let rows = notices_of p (old.now.trees 7) two h.notices in
    let known : (r : Row) → Has (old.now.trees 7) r → (d : StoredNotice) × (drop 1 r ≡ notice_row d) = λ r k. let d = rows.sound r k in (d.0, d.2) in
    let keyed = rows_keyed notice_row notice_before notices_ordered p.notices (old.now.trees 7) rows in
    let more = others_in old.now.schema in
    let own = has_own p old.now new.now two h in
    let it = updates_notice more h.apart old new n count own keyed known ran in
    let spares = spares_beside more notices_tree old.now new.now h.apart (omega arith) own it.schema it.others in
    elim it.rows [
      | inl none ↦ rw none.0 (
        parts_kept p old.now new.now two h it.schema it.sound (it.others 0 (λ e. omega arith) (spares_0 more)) (it.others 2 (λ e. omega arith) (spares_2 more)) (it.others 4 (λ e. omega arith) (spares_4 more)) none.1,
        spares,
      )
      | inr some ↦
          let rows = put_as (passes key_filter (notice_row n)) (hits notices_there (notice_row n)) (notice_row n) (old.now.trees 7) (new.now.trees 7)
          (λ r k. let d = known r k in notice_passes n d.0 r d.1 ∙ notice_finds n d.0 ∙ sym (notice_hit n r d.0 d.1)) some.1 in
          let step : HasPut more notices_tree (hits notices_there (notice_row n)) (notice_row n) old.now new.now = record { schema = it.schema; rows = rows; others = it.others; sound = it.sound } in
          rw some.0 (parts_notice p old.now new.now two h n step, spares)
    ]

some_count : (count : ℕ) → (count ≡ 0 → ⊥) → (count == 0) ≡ false
some_count count h = grind (arith, nat_tests)

-- some row was changed
pub changed : (a b : Database) (count : ℕ) (f : Parts → Parts) → (count ≡ 0 → ⊥) → Brings Any (if_changed count f) a b → Brings Any f a b
changed a b count f some step p two fits h = rw (some_count count some) at step p two fits h

pub mark_goes : (old new : State) (m : Mark) (count : ℕ) → Executes put_mark_text (mark_row m.name m.value) old new (Ok count) → Brings Any (with_mark m) old.now new.now
mark_goes old new m count ran p two fits h =
    let more = others_in old.now.schema in
    let own = has_own p old.now new.now two h in
    let step = puts_mark more h.apart old new m.name m.value count own (record { keyed = h.rows; numbered = h.numbered }) ran in
    (parts_mark p old.now new.now two h m step, spares_beside more meta_tree old.now new.now h.apart (omega arith) own step.schema step.others)

pub drop_goes : (old new : State) (r k : ℕ) (count : ℕ) → Executes drop_session_text (Int (pos r) ∷ Int (pos k) ∷ []) old new (Ok count) → Brings Any (with_drop r k) old.now new.now
drop_goes old new r k count ran p two fits h =
    let more = others_in old.now.schema in
    let own = has_own p old.now new.now two h in
    let step = drops_session more h.apart old new r k count own (rows_keyed session_row session_before sessions_ordered p.sessions (old.now.trees 4) h.sessions) ran in
    (parts_dropped p old.now new.now two h r k step, spares_beside more sessions_tree old.now new.now h.apart (omega arith) own step.schema step.others)

pub add_goes : (old new : State) (s : StoredSession) (count : ℕ) → Executes add_session_text (session_row s) old new (Ok count) → Brings (HasNoSuchPlace s) (with_session s) old.now new.now
add_goes old new s count ran p two fits h =
    let more = others_in old.now.schema in
    let own = has_own p old.now new.now two h in
    let step = adds_session more h.apart old new s count own (rows_keyed session_row session_before sessions_ordered p.sessions (old.now.trees 4) h.sessions) ran in
    (parts_added p old.now new.now two h s fits step, spares_beside more sessions_tree old.now new.now h.apart (omega arith) own step.schema step.others)

-- ---- steps one after another

pub put_all-push : {X : Type 0} (before : X → X → Bool) (cs : List X) (c : X) (xs : List X) → put_all before (cs ++ c ∷ []) xs ≡ put before c (put_all before cs xs)
put_all-push before [] c xs = refl
put_all-push before (d ∷ cs) c xs = put_all-push before cs c (put before d xs)

pub put_session_goes : (a b c : Database) (s : StoredSession) → Brings Any (with_drop s.r s.h) a b → Brings (HasNoSuchPlace s) (with_session s) b c
    → Brings (λ p. HasFreePlace (Some (Put s)) p.sessions) (with_edit (Some (Put s))) a c
put_session_goes a b c s one next p two fits h =
    let first = one p two tt h in
    let last = next (with_drop s.r s.h p) two fits first.0 in
    (last.0, spares_then a b c first.1 last.1)

pub cells_more : (a b c : Database) (cs : List StoredCell) (x : StoredCell) → Brings Any (with_cells cs) a b → Brings Any (with_cells (x ∷ [])) b c → Brings Any (with_cells (cs ++ x ∷ [])) a c
cells_more a b c cs x one next p two fits h =
    let first = one p two tt h in
    let last = next (with_cells cs p) two tt first.0 in
    rw (put_all-push cell_before cs x p.cells) (last.0, spares_then a b c first.1 last.1)

pub notices_more : (a b c : Database) (cs : List StoredNotice) (x : StoredNotice) → Brings Any (with_notices cs) a b → Brings Any (with_notices (x ∷ [])) b c → Brings Any (with_notices (cs ++ x ∷ [])) a c
notices_more a b c cs x one next p two fits h =
    let first = one p two tt h in
    let last = next (with_notices cs p) two tt first.0 in
    rw (put_all-push notice_before cs x p.notices) (last.0, spares_then a b c first.1 last.1)

-- ---- connections

pub on_ok : {A E : Type 0} {P Q : Type 0} (r : Result A E) → (P → Q) → OnOk r P → OnOk r Q
on_ok (Ok x) f h = f h
on_ok (Err e) f h = tt

pub survives_same : (s : State) → Survives s s (λ _. ⊥)
survives_same s = record {
  clean = omega arith;
  shield = λ h. h;
  counts = omega arith;
  limit = refl;
  closes = λ clean h. inl h;
  crash = λ clean db h. inl h;
}

pub survives_more : (a b c : State) → Survives a b (λ _. ⊥) → Survives b c (λ _. ⊥) → Survives a c (λ _. ⊥)
survives_more a b c one two = survives_then a b c (λ _. ⊥) (λ _. ⊥) (λ _. ⊥) (λ _ db none. none) (λ _ db none. none) one two

pub kept_more : (a b c : State) → KeepsCommit a b → KeepsCommit b c → KeepsCommit a c
kept_more a b c one two = record { was_open = λ h. one.was_open (two.was_open h); committed = λ h. two.committed h ∙ one.committed (two.was_open h) }

pub kept_same : (s : State) → KeepsCommit s s
kept_same s = record { was_open = λ h. h; committed = λ _. refl }

pub goes_more : (a b c : State) (E F G : Database → Database → Type 0) → (E a.now b.now → F b.now c.now → G a.now c.now) → Goes a b E → Goes b c F → Goes a c G
goes_more a b c E F G join one two = record { inside = two.inside; committed = two.committed ∙ one.committed; effect = join one.effect two.effect }

pub all_ok : {A E : Type 0} (r : Result A E) → OnOk r (Unit {0})
all_ok (Ok x) = tt
all_ok (Err e) = tt
