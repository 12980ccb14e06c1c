-- A site that lost its store is built again, and its store made (the project's own).
use Rattle.std.specs.Prelude.{◌≡◌, ◌≢◌, ◌⊎◌, ℕ, true, List, Some}
use Rattle.sqlite_disk.specs.declared.Disk as disk
use Rattle.sqlite_wal.specs.Recovery.{Image}
use Rattle.sqlite_store.specs.declared.store.FileStore.{FileStore}
use Rattle.sqlite_trees.specs.declared.store.Store.{Ghosts as Device}
use Rattle.sqlite.specs.Files.{over_files}
use Rattle.sqlite.specs.State.{HasCleanDisk}
use Rattle.sqlite.specs.Held.{Held, state}
use Rattle.merge_core.specs.Layout.{LayoutState}
use Rattle.admission_model.specs.declared.durable.DurableCell.{DurableCell}
use Rattle.admission_core.specs.Core.{Core}
use Rattle.store_rows.specs.Rows.{Stored}
use Rattle.store_rows.specs.Holding.{Keeps, KeepsNothing}
use Rattle.rebuild_engine.specs.Parts.{IsBuiltOf, IsUnbuilt}
use Rattle.site_store.specs.declared.error.ServedError.{ServedError}
use Rattle.site_store.specs.Making.{IsLeftNew, IsNew, new_content, to_make}
use Rattle.site_store.specs.declared.error.ServedError.TheVariants.{Memory, StoreFault}
use Rattle.site_store.specs.Opened.{CommitsNothing}
use Rattle.site_store.specs.Served.{IsDenied, IsPermitted}
use Rattle.live_databases.specs.declared.rebuilding.RebuildEnd.{RebuildEnd}
use Rattle.live_databases.specs.declared.rebuilding.RebuildEnd.TheVariants.{Ended, Unbuilt}
use Rattle.live_databases.specs.declared.service_end.ServiceEnd.{ServiceEnd}
use Rattle.live_databases.specs.Endings.{refused_store}
use Rattle.live_databases.specs.LiveFound.{FindsFiles}
use Rattle.live_databases.specs.LiveStores.{IsUnopened}

module _ {S : Type 0} (g : Device S) where
  -- Where nothing was kept the store of a site of the group was made, with these counters. None was made where anything was there.
  pub record HasMadeAnew (layout : LayoutState) (i : ℕ) (name : List ℕ) (cells : List DurableCell) (c after : Held S) : Type 0 where
    pub is_new : IsNew layout i (Some name) cells
    pub made : KeepsNothing g c → Keeps g after (new_content layout i (Some name) cells)
    pub never : (it : Stored) → Keeps g c it → ¬ HasCleanDisk (state g after)
    pub blank : HasCleanDisk (state g after) → IsPermitted to_make (state g c).now.schema

  -- It was refused: what was there is there, or after a fault perhaps the store where nothing was; nothing was written before all
  -- was judged.
  pub record HasNotMadeAnew (layout : LayoutState) (i : ℕ) (name : List ℕ) (cells : List DurableCell) (c after : Held S) (ended : ServiceEnd) : Type 0 where
    pub error : ServedError
    pub is_ended : ended ≡ refused_store error
    pub there : (it : Stored) → Keeps g c it → Keeps g after it
    pub left : KeepsNothing g c → IsLeftNew g layout i (Some name) cells after error
    pub cause : HasCleanDisk (state g after) → IsDenied to_make (state g c).now.schema error
    pub judged : error ≢ StoreFault → error ≢ Memory → CommitsNothing g c after

-- the site was built again of the lines of the bytes, and no file could be opened for its store
pub record FindsNoFile (layout : LayoutState) (i : ℕ) (lost name bytes : List ℕ) (ended : ServiceEnd) : Type 0 where
  pub core : Core
  pub cells : List DurableCell
  pub text : List ℕ
  pub built : IsBuiltOf layout i lost name bytes core cells text
  pub unopened : IsUnopened true ended

module _ {D : Type 0} (d : disk.Ghosts D) where
  -- The site was built again of the lines of the bytes, and its store made over files that held this; the text shows the site.
  pub record FindsRebuilt (layout : LayoutState) (i : ℕ) (lost name bytes : List ℕ) (image : Image) (text : List ℕ) : Type 0 where
    pub core : Core
    pub cells : List DurableCell
    pub built : IsBuiltOf layout i lost name bytes core cells text
    pub c : Held (FileStore D d)
    pub after : Held (FileStore D d)
    pub found : FindsFiles image c
    pub made : HasMadeAnew over_files core.layout i name cells c after

  -- its store was refused
  pub record FindsRefused (layout : LayoutState) (i : ℕ) (lost name bytes : List ℕ) (image : Image) (ended : ServiceEnd) : Type 0 where
    pub core : Core
    pub cells : List DurableCell
    pub text : List ℕ
    pub built : IsBuiltOf layout i lost name bytes core cells text
    pub c : Held (FileStore D d)
    pub after : Held (FileStore D d)
    pub found : FindsFiles image c
    pub refused : HasNotMadeAnew over_files core.layout i name cells c after ended

  -- how a rebuild ends that made no store: the site is not built again of this input, and no file was opened; no file could be
  -- opened; or the store was refused
  abbrev pub EndsNotRebuilt : LayoutState → ℕ → List ℕ → List ℕ → List ℕ → Image → RebuildEnd → Type 0
  EndsNotRebuilt layout i lost name bytes image (Unbuilt stop) = IsUnbuilt layout i lost name bytes stop
  EndsNotRebuilt layout i lost name bytes image (Ended ended) = FindsNoFile layout i lost name bytes ended ⊎ FindsRefused layout i lost name bytes image ended
