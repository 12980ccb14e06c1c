-- What a store over a connection keeps.
use Rattle.std.specs.Prelude.{◌≡◌, ◌≢◌, Bool, false, Result, Err, IsTrue}
use Rattle.sqlite_trees.specs.declared.store.Store.{Ghosts}
use Rattle.sqlite.specs.Effect.{Database}
use Rattle.sqlite.specs.State.{HasCleanDisk, Survives}
use Rattle.sqlite.specs.Held.{Held, state}
use Rattle.sqlite_schema.specs.declared.schema.Schema.{Schema}
use Rattle.store_schema.specs.Tables.{no_schema}
use Rattle.store_rows.specs.Rows.{Stored}
use Rattle.store_rows.specs.Holding.{Keeps, KeepsBeside, KeepsEither, KeepsNothing, KeepsNothingOr, Leaves}
use Rattle.store_tables.specs.Marking.{HasOutdatedMark, TellsOutdated}
use Rattle.store_rows.specs.Refusals.{HasRefused}
use Rattle.store_tables.specs.declared.error.TableError.{TableError}
use Rattle.store_tables.specs.declared.error.TableError.TheVariants.{StoreFault}
use Rattle.store_tables.specs.declared.tables.Tables.{Tables}

module _ {S : Type 0} {g : Ghosts S} where
  -- the device, or the database above it, has refused a call
  abbrev pub has_failed : Tables S g → Bool
  has_failed t = t.failed

  -- the connection below
  abbrev pub connection_of : Tables S g → Held S
  connection_of t = t.conn

  -- the tables that the connection sees
  abbrev pub schema_of : Tables S g → Schema
  schema_of t = (state g t.conn).now.schema

  -- it sees none
  abbrev pub IsBlank : Tables S g → Type 0
  IsBlank t = schema_of t ≡ no_schema

  -- whatever a crash at this moment leaves is a store with this content
  abbrev pub KeepsStore : Tables S g → Stored → Type 0
  KeepsStore t it = Keeps g t.conn it

  -- whatever a crash at this moment leaves is a store with one of two contents
  abbrev pub KeepsOneOf : Tables S g → Stored → Stored → Type 0
  KeepsOneOf t a b = KeepsEither g t.conn a b

  -- whatever a crash at this moment leaves is a database without tables
  abbrev pub KeepsBlank : Tables S g → Type 0
  KeepsBlank t = KeepsNothing g t.conn

  -- whatever a crash at this moment leaves is a database without tables, or a store with this content
  abbrev pub KeepsBlankOr : Tables S g → Stored → Type 0
  KeepsBlankOr t it = KeepsNothingOr g t.conn it

  -- whatever a crash at this moment leaves has these other tables, indexes and views, and the rows of the tables
  abbrev pub KeepsOthers : Tables S g → Database → Type 0
  KeepsOthers t others = KeepsBeside g t.conn others

  -- nothing was committed: what a crash leaves now, it could leave before
  abbrev pub CommitsNothing : Tables S g → Tables S g → Type 0
  CommitsNothing old new = Survives (state g old.conn) (state g new.conn) (λ _. ⊥)

  -- the device refused a call, or the connection was shut, or its queries may take only so many steps
  abbrev pub IsRefusal : Tables S g → Tables S g → Type 0
  IsRefusal old new = HasRefused (state g old.conn) (state g new.conn)

  -- the device has given back what was written so far
  abbrev pub IsHonest : Tables S g → Type 0
  IsHonest t = HasCleanDisk (state g t.conn)

  -- How a call ends: a fault is answered where the store has failed by now, and only there; a store that had failed before
  -- stays as it is; and a device that has given back what was written so far had done so before the call.
  pub record StopsAtFault {A : Type 0} (old : Tables S g) (result : Result A TableError) (new : Tables S g) : Type 0 where
    pub honest : IsHonest new → IsHonest old
    pub fault : result ≡ Err StoreFault → IsTrue (has_failed new)
    pub sound : result ≢ Err StoreFault → has_failed new ≡ false
    pub stopped : IsTrue (has_failed old) → (result ≡ Err StoreFault) × (new ≡ old)

  -- whatever a crash at this moment leaves has the mark of a store that is older than what others have seen of its site
  abbrev pub KeepsOutdated : Tables S g → Type 0
  KeepsOutdated t = Leaves g t.conn HasOutdatedMark

  -- whatever a crash at this moment leaves has a row of that mark's name, as this tells, or has none
  abbrev pub KeepsTold : Tables S g → Bool → Type 0
  KeepsTold t is_marked = Leaves g t.conn (TellsOutdated is_marked)
