-- What the files held is what a connection that was opened over them keeps.
use Rattle.std.proofs.Common.{◌≡◌, IsTrue, subst, sym}
use Rattle.sqlite_disk.specs.declared.Disk.{Ghosts}
use Rattle.sqlite_wal.specs.Recovery.{Image}
use Rattle.sqlite_wal.proofs.LogLemmas.{SeenMayStay}
use Rattle.sqlite_trees.specs.Tree.{Trees}
use Rattle.sqlite_store.specs.declared.store.FileStore.{FileStore}
use Rattle.sqlite_store.specs.Laws.{settled_at, stays_at}
use Rattle.sqlite.specs.Held.{Held}
use Rattle.sqlite.specs.State.{HasCleanDisk}
use Rattle.sqlite.specs.Files.{HoldsDatabase, file_state, over_files}
use Rattle.store_rows.specs.Rows.{Stored}
use Rattle.store_rows.specs.Holding.{Holds, Keeps}
use Rattle.store_tables.proofs.KeepLemmas.{leaves_committed}
use Rattle.live_databases.specs.LiveFound.{FindsFiles}

module _ {D : Type 0} {g : Ghosts D} (stays : SeenMayStay g) where
  pub keeps_found : (image : Image) (c : Held (FileStore D g)) (db : Trees) (it : Stored) → FindsFiles image c → HoldsDatabase image db → Holds it db → Keeps over_files c it
  keeps_found image c db it finds holds stored =
      leaves_committed over_files (λ s t up may. settled_at s stays t up may) (λ s up. stays_at s stays up) c (Holds it) (λ clean.
      let open_so : IsTrue (file_state c).is_open = (finds.opened clean).0.is_open in
      let same : (file_state c).committed.trees ≡ db = (finds.found clean).holds db holds in
      let held : Holds it (file_state c).committed.trees = subst (λ (t : Trees). Holds it t) (sym same) stored in
      (open_so, ∣ held ∣₁))
