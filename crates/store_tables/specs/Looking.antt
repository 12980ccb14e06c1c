-- What a look at a database answers, and what it leaves.
use Rattle.std.specs.Prelude.{◌≡◌, ◌≢◌, ◌⊎◌, ⊤, Option, None, Some, Result, Ok, Err, IfOk, OnOk}
use Rattle.sqlite_trees.specs.declared.store.Store.{Ghosts}
use Rattle.sqlite.specs.Effect.{Database}
use Rattle.sqlite.specs.State.{HasCleanDisk, Survives}
use Rattle.sqlite.specs.Held.{Held, state}
use Rattle.store_schema.specs.Tables.{IsSchemaOf, no_schema}
use Rattle.store_schema.specs.Found.{found_in}
use Rattle.store_schema.specs.declared.Version.{Version}
use Rattle.store_schema.specs.declared.Found.TheVariants.{Blank, Store, Other}
use Rattle.store_rows.specs.Refusals.{HasRefused}
use Rattle.store_rows.specs.Rows.{Stored}
use Rattle.store_rows.specs.Holding.{Keeps, KeepsBeside, KeepsEither, KeepsNothing, KeepsNothingOr}
use Rattle.store_tables.specs.Reads.{IsInRange, KeepsAny}

module _ {S : Type 0} (g : Ghosts S) where
  -- A look answers what an honest device keeps, a content or none, and where one of two was kept it settles which. It tells
  -- of a database that is no store only where that is so, and commits nothing.
  pub record Looks {E : Type 0} (bad : E) (old : Held S) (result : Result (Option Stored) E) (new : Held S) : Type 0 where
    pub read : (it : Stored) → Keeps g old it → HasCleanDisk (state g new) → IfOk result (λ found. found ≡ Some it)
    pub own : (it : Stored) → IsInRange it → Keeps g old it → HasCleanDisk (state g new) → result ≢ Err bad
    pub good : KeepsAny g old IsInRange → HasCleanDisk (state g new) → result ≢ Err bad
    pub blank : KeepsNothing g old → HasCleanDisk (state g new) → IfOk result (λ found. found ≡ None) × (result ≢ Err bad)
    pub settles : (a b : Stored) → KeepsEither g old a b
        → IfOk result (λ found. ∥ (Keeps g new a × (HasCleanDisk (state g new) → found ≡ Some a)) ⊎ (Keeps g new b × (HasCleanDisk (state g new) → found ≡ Some b)) ∥₁)
    pub settles_or : (it : Stored) → KeepsNothingOr g old it
        → IfOk result (λ found. ∥ (KeepsNothing g new × (HasCleanDisk (state g new) → found ≡ None)) ⊎ (Keeps g new it × (HasCleanDisk (state g new) → found ≡ Some it)) ∥₁)
    pub cause : result ≡ Ok None → found_in (state g old).now.schema ≡ Blank
    pub fresh : (state g old).now.schema ≡ no_schema → OnOk result (KeepsNothing g new)
    pub unwritten : Survives (state g old) (state g new) (λ _. ⊥)

  -- A look fails in this way only where the device has refused a call: where a store is kept, or none; where other tables
  -- were found; and where those of a store were.
  pub record IsRefusedLook {E : Type 0} (failed : E) (old : Held S) (result : Result (Option Stored) E) (new : Held S) : Type 0 where
    pub any : KeepsAny g old (λ _. ⊤) → HasCleanDisk (state g new) → result ≡ Err failed → HasRefused (state g old) (state g new)
    pub other : found_in (state g old).now.schema ≡ Other → HasCleanDisk (state g new) → result ≡ Err failed → HasRefused (state g old) (state g new)
    pub tables : (v : Version) → found_in (state g old).now.schema ≡ Store v → IsSchemaOf v (state g old).now.schema → HasCleanDisk (state g new)
        → result ≡ Err failed → HasRefused (state g old) (state g new)

  -- whatever was kept is kept
  pub record KeepsAll (old new : Held S) : Type 0 where
    pub kept : (it : Stored) → Keeps g old it → Keeps g new it
    pub either : (a b : Stored) → KeepsEither g old a b → KeepsEither g new a b
    pub bare : KeepsNothing g old → KeepsNothing g new
    pub bare_or : (it : Stored) → KeepsNothingOr g old it → KeepsNothingOr g new it
    pub beside : (others : Database) → KeepsBeside g old others → KeepsBeside g new others
