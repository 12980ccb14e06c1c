-- What a store keeps over a crash and a new open.
use Rattle.std.proofs.Common.{◌≡◌, Bool, true, false, ◌&&◌, IsTrue, subst, ◌∙◌, arith}
use Rattle.std.proofs.Math.Logic.{∥∥₁_elim}
use Rattle.std.proofs.lemmas.Bool.{and_parts}
use Rattle.sqlite_disk.specs.declared.Disk.{Ghosts}
use Rattle.sqlite_disk.specs.declared.Files.{Files}
use Rattle.sqlite_wal.specs.Reads.{AreClean}
use Rattle.sqlite_wal.specs.Files.{outcomes}
use Rattle.sqlite_wal.proofs.LogLemmas.{SeenMayStay}
use Rattle.sqlite_pool.proofs.StateLemmas.{clean_is, may_leave_is}
use Rattle.sqlite_trees.specs.Tree.{Trees}
use Rattle.sqlite_trees.specs.View.{IsClean, IsQuiet}
use Rattle.sqlite_trees.proofs.Doubt.{no_doubt}
use Rattle.sqlite_store.specs.declared.store.FileStore.{FileStore}
use Rattle.sqlite_store.specs.FileStore.{view, faults, recovers, is_shielded, files, state}
use Rattle.sqlite_store.specs.Laws.{settled_at, stays_at}
use Rattle.sqlite.specs.Held.{Held, AreDatabases}
use Rattle.sqlite.specs.State.{HasCleanDisk}
use Rattle.sqlite.specs.Files.{over_files, file_state, image_of, IsOpened, Finds}
use Rattle.sqlite.proofs.Theorems.{next_run}
use Rattle.store_rows.specs.Holding.{Leaves}
use Rattle.store_tables.proofs.KeepLemmas.{leaves_committed}

both : (a b : Bool) → IsTrue a → IsTrue b → IsTrue (a && b)
both true b p q = q
both false b p q = p

module _ {D : Type 0} {g : Ghosts D} (stays : SeenMayStay g) (old : Held (FileStore D g)) (it : FileStore D g) (before left : Files D) (new : Held (FileStore D g))
    (numbered : IsClean (view it) → IsTrue (view it).is_numbered) (sound : IsClean (view it) → AreDatabases (recovers it)) (quiet : IsQuiet view faults recovers is_shielded old.store it)
    (same : (before.log, before.db) ≡ files it) (log_left : g.may_leave before.log (g.seen left.log)) (db_left : g.may_leave before.db (g.seen left.db))
    (log_clean : IsTrue (g.is_clean left.log) → IsTrue (g.is_clean before.log)) (db_clean : IsTrue (g.is_clean left.db) → IsTrue (g.is_clean before.db))
    (opened : HasCleanDisk (file_state new) → IsOpened new) (found : HasCleanDisk (file_state new) → Finds left new) where
  was_clean : HasCleanDisk (file_state new) → AreClean g (files it).0 (files it).1
  was_clean clean =
      let f = found clean in
      let parts = and_parts (g.is_clean left.log) (g.is_clean left.db) f.honest in
      let before_too : AreClean g before.log before.db = both _ _ (log_clean parts.0) (db_clean parts.1) in
      subst (λ (p : D × D). AreClean g p.0 p.1) same before_too

  -- a device that is honest after the crash was honest before it
  pub was_honest : HasCleanDisk (file_state new) → HasCleanDisk (file_state old)
  was_honest clean =
      let sure_now = was_clean clean in
      let none : IsClean (view it) = no_doubt _ (clean_is it.pool ∙ sure_now) in
      omega (arith, quiet.clean)

  pub leaves_again : (P : Trees → Type 0) → Leaves over_files old P → Leaves over_files new P
  leaves_again P keeps = leaves_committed over_files (λ s db up may. settled_at s stays db up may) (λ s up. stays_at s stays up) new P (λ clean.
      let f = found clean in
      let sure_now = was_clean clean in
      let none : IsClean (view it) = no_doubt _ (clean_is it.pool ∙ sure_now) in
      let early = was_honest clean in
      let may : (state it).may_leave (image_of g left) = may_leave_is it.pool (image_of g left) sure_now (subst (λ (p : D × D). outcomes g p.0 p.1 (image_of g left)) same (log_left, db_left)) in
      let again = next_run it (numbered none) (sound none) (image_of g left) may (file_state new) (record { holds = f.holds; reads = f.reads }) in
      ((opened clean).0.is_open, ∥∥₁_elim again squash₁ (λ r. keeps.left early (file_state new).committed.trees (quiet.outcomes (file_state new).committed.trees r))))
