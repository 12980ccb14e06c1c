-- A site's store is moved to the next generation of its group (the project's own): its row for the site gets the group's next
-- name, nothing else changes, and a text tells all that the site knows. That text is made before the move is committed, and
-- printed behind it.
use Rattle.std.specs.Prelude.{◌≡◌, ◌≢◌, ◌⊎◌, ◌↔◌, ℕ, Bool, true, false, List, Some, None, Result, Ok, Err, IfOk, IsTrue}
use Rattle.sqlite_disk.specs.declared.Disk as disk
use Rattle.sqlite_wal.specs.Recovery.{Image}
use Rattle.sqlite_store.specs.declared.store.FileStore.{FileStore}
use Rattle.sqlite_trees.specs.declared.store.Store.{Ghosts as Device}
use Rattle.sqlite.specs.Files.{over_files}
use Rattle.sqlite.specs.Effect.{Database}
use Rattle.sqlite.specs.State.{HasCleanDisk}
use Rattle.sqlite.specs.Held.{Held, state}
use Rattle.merge_core.specs.Layout.{LayoutState}
use Rattle.admission_model.specs.View.{view_of}
use Rattle.admission_model.specs.Merging.{snapshot_of}
use Rattle.admission_model.specs.Restoring.{AreCells, AreSessions}
use Rattle.admission_core.specs.Kept.{DurableState}
use Rattle.admission_core.specs.Restored.{IsRestored}
use Rattle.admission_core.specs.declared.restoring.RestoreError.{RestoreError}
use Rattle.admission_core.specs.declared.restoring.RestoreError.TheVariants as restoring
use Rattle.desk_log.specs.Log.{begun}
use Rattle.durable_keeper.specs.declared.error.KeeperError.{KeeperError}
use Rattle.durable_keeper.specs.declared.error.KeeperError.TheVariants as keeping
use Rattle.group_names.specs.Names.{is_group_name, next_name}
use Rattle.layout_file.specs.declared.fault.LayoutFault.TheVariants.{NoSite}
use Rattle.exit_status.specs.declared.status.Status.TheVariants.{Memory, NoLayout, NoStore}
use Rattle.exit_status.specs.declared.store_refusal.StoreRefusal.TheVariants.{WrongCounters, WrongSessions}
use Rattle.store_rows.specs.Rows.{Stored}
use Rattle.store_rows.specs.Holding.{Keeps, KeepsBeside, KeepsEither}
use Rattle.store_tables.specs.Transacts.{with_site}
use Rattle.site_store.specs.Content.{durable_in}
use Rattle.store_tables.specs.declared.error.TableError.{TableError}
use Rattle.serve_engine.specs.declared.marks.Marking.TheVariants.{Marked}
use Rattle.serve_engine.specs.Moved.{moved_text}
use Rattle.site_store.specs.declared.error.ServedError.{ServedError}
use Rattle.site_store.specs.declared.error.ServedError.TheVariants as opening
use Rattle.site_store.specs.declared.sql.SqlKeeper.{SqlKeeper}
use Rattle.site_store.specs.Errors.{open_error, served_error}
use Rattle.site_store.specs.Opened.{CommitsNothing}
use Rattle.site_store.specs.SiteText.{site_text}
use Rattle.site_store.specs.Sql.{KeepsContent, KeepsPart, below, faults_of, group_of, is_honest}
use Rattle.live_databases.specs.declared.service_end.Absence.TheVariants.{LastGeneration, NoGroup, WrongGroup}
use Rattle.live_databases.specs.declared.service_end.ServiceEnd.{ServiceEnd}
use Rattle.live_databases.specs.declared.service_end.ServiceEnd.TheVariants.{Absent, Ended}
use Rattle.live_databases.specs.Services.{Served}
use Rattle.live_databases.specs.ServedStores.{OpensServed}
use Rattle.live_databases.specs.Endings.{refused_store}
use Rattle.live_databases.specs.LiveStores.{IsUnopened, unloaded_end}
use Rattle.live_databases.specs.LiveFound.{FindsFiles}

-- the opening for a move: the site of the group, whose store is there and as wide as the layout
abbrev pub moving : ℕ → List ℕ → Served
moving i group = record { site = i; group = Some group; marking = Marked; permission = record { create = false; grow = false } }

-- a content with the row of the site in another group
abbrev pub moved_content : ℕ → List ℕ → Stored → Stored
moved_content i name it = with_site (site_text i (Some name)) it

-- how a move ends whose store begins no site
abbrev pub unfit_end : RestoreError → ServiceEnd
unfit_end restoring.BadSite = Ended (NoLayout NoSite)
unfit_end restoring.WrongCounters = Ended (NoStore WrongCounters)
unfit_end restoring.WrongSessions = Ended (NoStore WrongSessions)
unfit_end restoring.Memory = Ended Memory

-- how one ends whose store is of no group, or of another one; or that could not be told
abbrev pub foreign_end : Result Bool TableError → ServiceEnd
foreign_end (Ok true) = Absent NoGroup
foreign_end (Ok false) = Absent WrongGroup
foreign_end (Err error) = refused_store (served_error (open_error error))

-- the text of all that a site knows which begins with a durable part, for the group of this name
abbrev pub whole_text : LayoutState → ℕ → List ℕ → DurableState → List ℕ
whole_text layout i name first = moved_text layout.records name (snapshot_of (view_of (begun layout i first)))

module _ {S : Type 0} {g : Device S} where
  -- a keeper gave this durable part back: what it kept, as long as its device is honest
  abbrev pub GivesBack : SqlKeeper S g → SqlKeeper S g → DurableState → Type 0
  GivesBack k m first = (d : DurableState) → KeepsPart k d → is_honest m → first ≡ d

  -- a text tells all that a site knows whose keeper gave its durable part back
  pub record TellsWhole (layout : LayoutState) (i : ℕ) (name : List ℕ) (k m : SqlKeeper S g) (text : List ℕ) : Type 0 where
    pub first : DurableState
    pub given : GivesBack k m first
    pub cells : AreCells layout i first.cells
    pub sessions : AreSessions layout i first.cells first.sessions
    pub is_text : text ≡ whole_text layout i name first

  -- no text was made: the keeper gave nothing back, or memory ran out
  pub record LoadsNone (m : SqlKeeper S g) (ended : ServiceEnd) : Type 0 where
    pub error : KeeperError
    pub is_ended : ended ≡ unloaded_end error
    pub fault : error ≡ keeping.StoreFault → faults_of m ≡ 1
    pub no_fault : error ≡ keeping.Memory → faults_of m ≡ 0

  -- .. or what it gave back begins no site
  pub record BeginsNone (layout : LayoutState) (i : ℕ) (k m : SqlKeeper S g) (ended : ServiceEnd) : Type 0 where
    pub first : DurableState
    pub given : GivesBack k m first
    pub error : RestoreError
    pub unfit : IsRestored layout i first (Err error)
    pub is_ended : ended ≡ unfit_end error

  abbrev pub TellsNone : LayoutState → ℕ → SqlKeeper S g → SqlKeeper S g → ServiceEnd → Type 0
  TellsNone layout i k m ended = LoadsNone m ended ⊎ BeginsNone layout i k m ended

  -- the text was made, and the store moved behind that: it keeps what it kept, with its site in the group of this name
  pub record Moves (layout : LayoutState) (i : ℕ) (name : List ℕ) (k m : SqlKeeper S g) (text : List ℕ) : Type 0 where
    pub tells : TellsWhole layout i name k m text
    pub content : (it : Stored) → KeepsContent k it → KeepsContent m (moved_content i name it)
    pub part : (d : DurableState) → KeepsPart k d → KeepsPart m d
    pub beside : (it : Stored) (others : Database) → KeepsContent k it → KeepsBeside g (below k) others → KeepsBeside g (below m) others
    pub in_group : group_of m ≡ Some name
    pub sound : faults_of m ≡ 0

  -- the store is not moved, or after a fault of the device perhaps is
  pub record MovesNot (layout : LayoutState) (i : ℕ) (name : List ℕ) (k m : SqlKeeper S g) (ended : ServiceEnd) : Type 0 where
    pub why : TellsNone layout i k m ended
    pub content : (it : Stored) → KeepsContent k it → faults_of m ≡ 0 → KeepsContent m it
    pub either : (it : Stored) → KeepsContent k it → KeepsEither g (below m) it (moved_content i name it)
    pub beside : (it : Stored) (others : Database) → KeepsContent k it → KeepsBeside g (below k) others → KeepsBeside g (below m) others

module _ {S : Type 0} (g : Device S) where
  -- The store was opened, told of, and moved. So what the database kept is told of, and kept.
  pub record HasMoved (layout : LayoutState) (i : ℕ) (group : List ℕ) (c after : Held S) (text : List ℕ) : Type 0 where
    pub is_name : is_group_name group ≡ true
    pub name : List ℕ
    pub is_next : next_name group ≡ Some name
    pub keeper : SqlKeeper S g
    pub made : Bool
    pub opened : OpensServed g layout (moving i group) c (Ok (keeper, made))
    pub moved : SqlKeeper S g
    pub moves : Moves layout i name keeper moved text
    pub handed : after ≡ below moved
    pub told : (it : Stored) → Keeps g c it → is_honest moved → text ≡ whole_text layout i name (durable_in it)
    pub kept : (it : Stored) → Keeps g c it → KeepsPart moved (durable_in it)

  -- the store was opened and not moved, or after a fault of the device perhaps was
  pub record HasNotMoved (layout : LayoutState) (i : ℕ) (group : List ℕ) (c after : Held S) (ended : ServiceEnd) : Type 0 where
    pub name : List ℕ
    pub is_next : next_name group ≡ Some name
    pub keeper : SqlKeeper S g
    pub made : Bool
    pub opened : OpensServed g layout (moving i group) c (Ok (keeper, made))
    pub left : SqlKeeper S g
    pub moves_not : MovesNot layout i name keeper left ended
    pub handed : after ≡ below left

  -- how a move ends whose store was refused as that of another group: a look at its row for the site found whether it is of
  -- no group, or failed
  pub record EndsForeign (i : ℕ) (left after : Held S) (ended : ServiceEnd) : Type 0 where
    pub found : Result Bool TableError
    pub told : (it : Stored) → Keeps g left it → HasCleanDisk (state g after) → IfOk found (λ alone. IsTrue alone ↔ (it.site ≡ site_text i None))
    pub is_ended : ended ≡ foreign_end found

  -- how a move ends whose store was refused; nothing is committed behind the refusal
  pub record EndsRefused (i : ℕ) (error : ServedError) (left after : Held S) (ended : ServiceEnd) : Type 0 where
    pub kept : (it : Stored) → Keeps g left it → Keeps g after it
    pub unwritten : CommitsNothing g left after
    pub other : error ≢ opening.WrongGroup → (ended ≡ refused_store error) × (after ≡ left)
    pub foreign : error ≡ opening.WrongGroup → EndsForeign i left after ended

  -- the store was refused
  pub record RefusesMove (layout : LayoutState) (i : ℕ) (group : List ℕ) (c after : Held S) (ended : ServiceEnd) : Type 0 where
    pub error : ServedError
    pub left : Held S
    pub opened : OpensServed g layout (moving i group) c (Err (error, left))
    pub ends : EndsRefused i error left after ended

  -- no store was looked at: no group has the name, none is behind its generation, or memory ran out
  abbrev pub LooksAtNone : List ℕ → Held S → Held S → ServiceEnd → Type 0
  LooksAtNone group c after ended =
      (after ≡ c) × (((is_group_name group ≡ false) × (ended ≡ Absent WrongGroup))
      ⊎ (((next_name group ≡ None) × (ended ≡ Absent LastGeneration)) ⊎ (ended ≡ Ended Memory)))

  -- no store was moved, or after a fault of the device perhaps one was
  abbrev pub IsNotMoved : LayoutState → ℕ → List ℕ → Held S → Held S → ServiceEnd → Type 0
  IsNotMoved layout i group c after ended =
      LooksAtNone group c after ended ⊎ (RefusesMove layout i group c after ended ⊎ HasNotMoved layout i group c after ended)

module _ {D : Type 0} (d : disk.Ghosts D) where
  -- the store in files that held this was moved
  pub record FindsMoved (layout : LayoutState) (i : ℕ) (group : List ℕ) (image : Image) (text : List ℕ) : Type 0 where
    pub c : Held (FileStore D d)
    pub after : Held (FileStore D d)
    pub found : FindsFiles image c
    pub moved : HasMoved over_files layout i group c after text

  -- none was, or after a fault of the device perhaps one
  pub record FindsUnmoved (layout : LayoutState) (i : ℕ) (group : List ℕ) (image : Image) (ended : ServiceEnd) : Type 0 where
    pub c : Held (FileStore D d)
    pub after : Held (FileStore D d)
    pub found : FindsFiles image c
    pub unmoved : IsNotMoved over_files layout i group c after ended

  -- .. or no file was opened
  abbrev pub EndsUnmoved : LayoutState → ℕ → List ℕ → Image → ServiceEnd → Type 0
  EndsUnmoved layout i group image ended = IsUnopened false ended ⊎ FindsUnmoved layout i group image ended
