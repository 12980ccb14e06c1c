-- What one transaction makes of what a connection keeps.
use Rattle.std.specs.Prelude.{◌≡◌, ◌≢◌, Result, Err, OnOk, false}
use Rattle.sqlite_trees.specs.declared.store.Store.{Ghosts}
use Rattle.sqlite.specs.Effect.{Database}
use Rattle.sqlite.specs.State.{HasCleanDisk}
use Rattle.sqlite.specs.Held.{Held, state}
use Rattle.store_rows.specs.Rows.{Stored}
use Rattle.store_rows.specs.Holding.{Keeps, KeepsBeside, KeepsEither, KeepsNothing, KeepsNothingOr}
use Rattle.store_tables.specs.declared.error.TableError.{TableError}
use Rattle.store_tables.specs.declared.error.TableError.TheVariants.{BadStore, Memory}

module _ {S : Type 0} (g : Ghosts S) where
  -- a store whose content fits is changed in this way, and other tables keep their rows
  pub record ChangesStore (Fits : Stored → Type 0) (f : Stored → Stored) (old : Held S) (result : Result (Unit {0}) TableError) (new : Held S) : Type 0 where
    pub idle : new.in_transaction ≡ false
    pub honest : HasCleanDisk (state g new) → HasCleanDisk (state g old)
    pub done : (it : Stored) → Fits it → Keeps g old it → OnOk result (Keeps g new (f it))
    pub either : (it : Stored) → Fits it → Keeps g old it → KeepsEither g new it (f it)
    pub memory : (it : Stored) → Keeps g old it → result ≡ Err Memory → Keeps g new it
    pub kind : result ≢ Err BadStore
    pub beside : (it : Stored) → (others : Database) → Fits it → Keeps g old it → KeepsBeside g old others → KeepsBeside g new others

  -- a store with this content is made in a database without tables
  pub record MakesStore (it : Stored) (old : Held S) (result : Result (Unit {0}) TableError) (new : Held S) : Type 0 where
    pub idle : new.in_transaction ≡ false
    pub honest : HasCleanDisk (state g new) → HasCleanDisk (state g old)
    pub done : KeepsNothing g old → OnOk result (Keeps g new it)
    pub either : KeepsNothing g old → KeepsNothingOr g new it
    pub memory : KeepsNothing g old → result ≡ Err Memory → KeepsNothing g new
    pub kind : result ≢ Err BadStore
