-- From the statements of a transaction to what it commits.
use Rattle.std.proofs.Common.{◌≡◌, ◌≢◌, ◌↔◌, inl, inr, ℕ, true, false, ◌==◌, List, [], ◌∷◌, length, Option, None, Result, Ok, Err, IsErrAnd, OnOk, IsTrue, refl, sym, ap, subst, ◌∙◌, arith}
use Rattle.std.proofs.lemmas.Bool.Decides.{nat_tests}
use Rattle.sqlite_value.specs.Order.{Row}
use Rattle.sqlite.specs.declared.error.Error.{Error}
use Rattle.sqlite.specs.declared.error.Error.TheVariants.{SqliteFailure}
use Rattle.sqlite.specs.declared.error.ErrorCode.TheVariants.{OutOfMemory}
use Rattle.sqlite_trees.specs.Tree.{Trees}
use Rattle.sqlite_trees.specs.declared.store.Store.{Ghosts}
use Rattle.sqlite.specs.Effect.{Database}
use Rattle.sqlite.specs.State.{State, HasCleanDisk, Shows, IsUnchanged, KeepsCommit, Survives, IsNotRun}
use Rattle.sqlite.specs.Held.{Held, state}
use Rattle.sqlite.specs.Steps.{FailsToCommit}
use Rattle.sqlite.specs.declared.transaction.Transaction.{Transaction}
use Rattle.sqlite.proofs.StateLemmas.{survives_then}
use Rattle.sqlite.proofs.Callers.{survives_begin}
use Rattle.store_rows.specs.declared.content.StoredCell.{StoredCell}
use Rattle.store_rows.specs.declared.content.StoredNotice.{StoredNotice}
use Rattle.store_rows.specs.declared.content.SessionEdit.{SessionEdit}
use Rattle.store_rows.specs.Changes.{changed}
use Rattle.store_rows.specs.Rows.{Stored}
use Rattle.store_rows.specs.Holding.{parts_of}
use Rattle.store_rows.specs.Steps.{Goes, Brings, Any, HasFreePlace, Runs, with_cells, with_notices, with_edit}
use Rattle.store_rows.proofs.BesideLemmas.{spares_then}
use Rattle.store_rows.proofs.RunLemmas.{runs_failed, runs_then}
use Rattle.store_rows.proofs.StepLemmas.{all_ok, on_ok}
use Rattle.store_tables.specs.declared.error.TableError.{TableError}
use Rattle.store_tables.specs.declared.error.TableError.TheVariants.{BadStore, Memory}
use Rattle.store_tables.specs.Transacts.{HasCommitted, MayCommit, RunsOpen, Transacts, Turns, Takes}
use Rattle.store_tables.proofs.KeepLemmas.{undone_survives}
use Rattle.store_tables.proofs.RefusalLemmas.{same_error}

pub changes_then : (a b c d : Database) (cells : List StoredCell) (notices : List StoredNotice) (edit : Option SessionEdit) → Brings Any (with_cells cells) a b → Brings Any (with_notices notices) b c
    → Brings (λ p. HasFreePlace edit p.sessions) (with_edit edit) c d → Brings (λ p. HasFreePlace edit p.sessions) (λ p. with_edit edit (with_notices notices (with_cells cells p))) a d
changes_then a b c d cells notices edit one next last p two fits h =
    let first = one p two tt h in
    let second = next (with_cells cells p) two tt first.0 in
    let third = last (with_notices notices (with_cells cells p)) two fits second.0 in
    (third.0, spares_then a c d (spares_then a b c first.1 second.1) third.1)

pub changes_turn : (a b : Database) (cells : List StoredCell) (notices : List StoredNotice) (edit : Option SessionEdit)
    → Brings (λ p. HasFreePlace edit p.sessions) (λ p. with_edit edit (with_notices notices (with_cells cells p))) a b → Turns (Takes edit) (changed cells notices edit) a b
changes_turn a b cells notices edit brings it fits h = brings (parts_of it) fits.second fits.free h

pub none_of : {X : Type 0} (xs : List X) → (length xs == 0) ≡ true → xs ≡ []
none_of [] h = refl
none_of (x ∷ xs) h = absurd (let e : length (x ∷ xs) ≡ 0 = grind (arith, nat_tests) in omega (arith, e))

-- a commit of nothing
changed_by : List StoredCell → List StoredNotice → Option SessionEdit → Stored → Stored
changed_by = changed

pub nothing_changed : (cells : List StoredCell) (notices : List StoredNotice) (edit : Option SessionEdit) (it : Stored) → cells ≡ [] → notices ≡ [] → edit ≡ None → changed cells notices edit it ≡ it
unfolding changed_by
nothing_changed cells notices edit it none few still =
    ap (λ (x : List StoredCell). changed_by x notices edit it) none ∙ ap (λ (x : List StoredNotice). changed_by [] x edit it) few ∙ ap (λ (x : Option SessionEdit). changed_by [] [] x it) still

module _ {S : Type 0} (g : Ghosts S) (old mid new : Held S) (E F : Database → Database → Type 0) (means : (a b : Database) → E a b → F a b) where
  abbrev begun : State
  begun = state g (record old { in_transaction = true })

  -- the commit went well
  pub has_committed : Goes begun (state g mid) E → KeepsCommit begun (state g mid) → Shows (state g mid) (state g new) (state g mid).now (state g mid).now false → HasCommitted (state g old) (state g new) F
  has_committed goes kept shows = record {
    was_open = kept.was_open shows.was_open;
    is_open = shows.is_open;
    effect = means (state g old).now (state g new).committed (subst (λ (d : Database). E (state g old).now d) (sym shows.committed_is) goes.effect);
  }

  -- whatever the commit came to
  pub survives_commit : (HasCleanDisk (state g mid) → IsTrue (state g old).is_open) → (HasCleanDisk (state g mid) → Goes begun (state g mid) E) → Survives begun (state g mid) (λ _. ⊥) → Survives (state g mid) (state g new) (λ db. db ≡ (state g mid).now.trees)
      → Survives (state g old) (state g new) (MayCommit (state g old) F)
  survives_commit opened goes one two =
      survives_then (state g old) (state g mid) (state g new) (λ _. ⊥) (λ db. db ≡ (state g mid).now.trees) (MayCommit (state g old) F) (λ _ db none. absurd none)
      (λ clean db is. let early : HasCleanDisk (state g mid) = omega (arith, two.clean) in (opened early, (state g mid).now, means (state g old).now (state g mid).now (goes early).effect, sym is))
      (survives_begin g old (state g mid) (λ _. ⊥) one) two

-- a statement that was not run commits nothing
pub not_run_keeps : (old new : State) (sql : List ℕ) (params : Row) (e : Error) → IsNotRun old new sql params e → KeepsCommit old new
unfolding IsNotRun
not_run_keeps old new sql params e (inl h) = record { was_open = λ _. h.1.0.was_open; committed = λ _. h.1.0.committed_is }
not_run_keeps old new sql params e (inr h) = record { was_open = h.3.was_open; committed = λ o. (h.3.undone o).1 }

-- ---- inside a transaction

module _ {S : Type 0} {g : Ghosts S} where
  -- a look for an open connection changes nothing
  pub checked : {A : Type 0} {a b : Transaction S} (r : Result A Error) → b.conn.ghost_name ≡ a.conn.ghost_name → (HasCleanDisk (state g b.conn.now) → OnOk r (IsUnchanged (state g a.conn.now) (state g b.conn.now)))
      → (HasCleanDisk (state g b.conn.now) → KeepsCommit (state g a.conn.now) (state g b.conn.now)) → Survives (state g a.conn.now) (state g b.conn.now) (λ _. ⊥) → Runs g (λ _ x y. x ≡ y) a r b
  checked (Ok x) same same_state kept survives = record {
    same_reference = same;
    goes = λ clean inside. let h = (same_state clean).0 in record { inside = h.mode ∙ inside; committed = h.committed_is; effect = sym h.now_is };
    kept = λ clean inside. kept clean;
    survives = survives;
  }
  checked (Err e) same same_state kept survives = record { same_reference = same; goes = λ clean inside. tt; kept = λ clean inside. kept clean; survives = survives }

  -- an error is passed on
  pub open_failed : {A : Type 0} {E : Database → Database → Type 0} {F : A → Database → Database → Type 0} {a b : Transaction S} {e : Error} (r : Result (Unit {0}) Error) → IsErrAnd r (λ u. u ≡ e) → Runs g F a (Err e) b → RunsOpen g E a r b
  open_failed (Ok x) is one = absurd is
  open_failed (Err u) is one = record { runs = runs_failed (Err u) is one; opened = λ clean. tt }

  pub open_refused : {E : Database → Database → Type 0} {a b : Transaction S} (e : Error) (r : Result (Unit {0}) Error) → IsErrAnd r (λ u. u ≡ e) → b.conn.ghost_name ≡ a.conn.ghost_name → (HasCleanDisk (state g b.conn.now) → KeepsCommit (state g a.conn.now) (state g b.conn.now))
      → Survives (state g a.conn.now) (state g b.conn.now) (λ _. ⊥) → RunsOpen g E a r b
  open_refused e r is same kept survives = open_failed r is (checked {A = Unit {0}} (Err e) same (λ _. tt) kept survives)

  -- what goes on from an open connection
  pub opened_then : {E F G : Database → Database → Type 0} {a b c : Transaction S} (r : Result (Unit {0}) Error) → RunsOpen g E a (Ok tt) b → Runs g (λ _. F) b r c
      → (E (state g a.conn.now).now (state g b.conn.now).now → F (state g b.conn.now).now (state g c.conn.now).now → G (state g a.conn.now).now (state g c.conn.now).now) → RunsOpen g G a r c
  opened_then {b = b} {c = c} r one two join = record {
    runs = runs_then r one.runs two (λ _. join);
    opened = λ clean. let early : HasCleanDisk (state g b.conn.now) = omega (arith, two.survives.clean, clean) in on_ok r (λ _. one.opened early) (all_ok r);
  }

  pub open_then : {E : Database → Database → Type 0} {a b c : Transaction S} (r : Result (Unit {0}) Error) → b.conn.ghost_name ≡ a.conn.ghost_name → (HasCleanDisk (state g b.conn.now) → IsUnchanged (state g a.conn.now) (state g b.conn.now))
      → (HasCleanDisk (state g b.conn.now) → KeepsCommit (state g a.conn.now) (state g b.conn.now)) → Survives (state g a.conn.now) (state g b.conn.now) (λ _. ⊥) → Runs g (λ _. E) b r c → RunsOpen g E a r c
  open_then {E = E} {a = a} {b = b} {c = c} r same same_state kept survives two =
      let one : RunsOpen g ◌≡◌ a (Ok tt) b = record { runs = checked (Ok tt) same same_state kept survives; opened = λ clean. (same_state clean).0.was_open } in
      opened_then r one two (λ is e. subst (λ (d : Database). E d (state g c.conn.now).now) (sym is) e)

  -- ---- the transaction as a whole

  begin_goes : {E : Database → Database → Type 0} (old : Held S) (tx mid : Transaction S) → tx.conn.now ≡ record old { in_transaction = true } → RunsOpen g E tx (Ok tt) mid → HasCleanDisk (state g mid.conn.now)
      → Goes (state g (record old { in_transaction = true })) (state g mid.conn.now) E
  begin_goes old tx mid begins run clean = rw begins at (run.runs.goes clean (rw begins refl))

  begin_keeps : {E : Database → Database → Type 0} (old : Held S) (tx mid : Transaction S) → tx.conn.now ≡ record old { in_transaction = true } → RunsOpen g E tx (Ok tt) mid → HasCleanDisk (state g mid.conn.now)
      → KeepsCommit (state g (record old { in_transaction = true })) (state g mid.conn.now)
  begin_keeps old tx mid begins run clean = rw begins at (run.runs.kept clean (rw begins refl))

  commit_survives : {E : Database → Database → Type 0} (F : Database → Database → Type 0) → ((a b : Database) → E a b → F a b) → (old end : Held S) (tx mid : Transaction S) → tx.conn.now ≡ record old { in_transaction = true } → RunsOpen g E tx (Ok tt) mid
      → Survives (state g mid.conn.now) (state g end) (λ db. db ≡ (state g mid.conn.now).now.trees) → Survives (state g old) (state g end) (MayCommit (state g old) F)
  commit_survives {E = E} F means old end tx mid begins run commit =
      survives_commit g old mid.conn.now end E F means (λ early. rw begins at (run.opened early)) (begin_goes old tx mid begins run) (rw begins at run.runs.survives) commit

  pub committed : {E F : Database → Database → Type 0} {new : Held S} (means : (a b : Database) → E a b → F a b) (old end : Held S) (tx mid : Transaction S) → tx.conn.now ≡ record old { in_transaction = true } → RunsOpen g E tx (Ok tt) mid
      → Survives (state g mid.conn.now) (state g end) (λ db. db ≡ (state g mid.conn.now).now.trees) → (HasCleanDisk (state g end) → Shows (state g mid.conn.now) (state g end) (state g mid.conn.now).now (state g mid.conn.now).now false)
      → end.in_transaction ≡ false → end ≡ new → Transacts g F old (Ok tt) new
  committed {E = E} {F = F} means old end tx mid begins run commit shows idle same =
      let whole : Transacts g F old (Ok tt) end = record {
        idle = idle;
        done = λ clean.
            let early : HasCleanDisk (state g mid.conn.now) = omega (arith, commit.clean, clean) in
            has_committed g old mid.conn.now end E F means (begin_goes old tx mid begins run early) (begin_keeps old tx mid begins run early) (shows clean);
        kind = λ e. cc;
        undone = λ e. cc;
        survives = commit_survives F means old end tx mid begins run commit;
      } in
      subst (λ (h : Held S). Transacts g F old (Ok tt) h) same whole

  -- the commit is refused
  pub refused : {E F : Database → Database → Type 0} (means : (a b : Database) → E a b → F a b) (old end given new : Held S) (tx mid : Transaction S) (settled : (s : S) (db : Trees) → IsTrue (g.view s).is_open → g.recovers s db → db ≡ (g.view s).committed)
      (stays : (s : S) → IsTrue (g.view s).is_open → g.recovers s (g.view s).committed) (e : Error) (u : TableError) → tx.conn.now ≡ record old { in_transaction = true } → RunsOpen g E tx (Ok tt) mid
      → Survives (state g mid.conn.now) (state g end) (λ db. db ≡ (state g mid.conn.now).now.trees) → (HasCleanDisk (state g end) → FailsToCommit (state g mid.conn.now) (state g end) e) → end ≡ given
      → new.in_transaction ≡ false → u ≢ BadStore → (HasCleanDisk (state g new) → u ≡ Memory → IsUnchanged (state g given) (state g new)) → Survives (state g given) (state g new) (λ _. ⊥) → Transacts g F old (Err u) new
  refused {F = F} means old end given new tx mid settled stays e u begins run commit fails same idle kind unchanged probe =
      let later : Survives (state g end) (state g new) (λ _. ⊥) = subst (λ (h : Held S). Survives (state g h) (state g new) (λ _. ⊥)) (sym same) probe in
      record {
        idle = idle;
        done = λ clean. tt;
        kind = λ is. kind (same_error is);
        undone = λ is.
            let still = subst (λ (h : Held S). HasCleanDisk (state g new) → IsUnchanged (state g h) (state g new)) (sym same) (λ clean. unchanged clean (same_error is)) in
            let first = survives_begin g old (state g mid.conn.now) (λ _. ⊥) (rw begins at run.runs.survives) in
            undone_survives g settled stays old mid.conn.now end new (λ _. ⊥) (λ db. db ≡ (state g mid.conn.now).now.trees) e first commit later
            (λ early. let kept = begin_keeps old tx mid begins run early in record { was_open = kept.was_open; committed = kept.committed }) fails still;
        survives = survives_then (state g old) (state g end) (state g new) (MayCommit (state g old) F) (λ _. ⊥) (MayCommit (state g old) F) (λ _ db h. h) (λ _ db h. absurd h) (commit_survives F means old end tx mid begins run commit) later;
      }

  -- a statement failed, and the transaction is rolled back
  pub rolled_back : {E F : Database → Database → Type 0} {new : Held S} {e : Error} (r : Result (Unit {0}) TableError) (old end : Held S) (tx mid : Transaction S) → tx.conn.now ≡ record old { in_transaction = true } → RunsOpen g E tx (Err e) mid
      → IsErrAnd r (λ u. (u ≡ Memory ↔ (e ≡ SqliteFailure OutOfMemory)) × (u ≢ BadStore)) → Survives (state g mid.conn.now) (state g end) (λ _. ⊥) → end.in_transaction ≡ false → end ≡ new → Transacts g F old r new
  rolled_back (Ok x) old end tx mid begins run is drops idle same = absurd is
  rolled_back {F = F} (Err u) old end tx mid begins run is drops idle same =
      let first = survives_begin g old (state g mid.conn.now) (λ _. ⊥) (rw begins at run.runs.survives) in
      let all : Survives (state g old) (state g end) (λ _. ⊥) = survives_then (state g old) (state g mid.conn.now) (state g end) (λ _. ⊥) (λ _. ⊥) (λ _. ⊥) (λ _ db h. h) (λ _ db h. h) first drops in
      let whole : Transacts g F old (Err u) end = record {
        idle = idle;
        done = λ clean. tt;
        kind = λ e. is.1 (same_error e);
        undone = λ e. all;
        survives = survives_then (state g old) (state g mid.conn.now) (state g end) (λ _. ⊥) (λ _. ⊥) (MayCommit (state g old) F) (λ _ db h. absurd h) (λ _ db h. absurd h) first drops;
      } in
      subst (λ (h : Held S). Transacts g F old (Err u) h) same whole
