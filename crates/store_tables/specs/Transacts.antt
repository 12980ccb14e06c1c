-- What one transaction does to a store, and what a store over a connection keeps.
use Rattle.std.specs.Prelude.{◌≡◌, ◌≢◌, ℕ, List, [], Option, None, Result, Err, IsTrue, OnOk, false}
use Rattle.sqlite_trees.specs.declared.store.Store.{Ghosts}
use Rattle.sqlite_trees.specs.Tree.{Trees}
use Rattle.sqlite.specs.Effect.{Database}
use Rattle.sqlite.specs.State.{State, HasCleanDisk, Survives}
use Rattle.sqlite.specs.Held.{Held, state}
use Rattle.sqlite.specs.declared.error.Error.{Error}
use Rattle.sqlite.specs.declared.transaction.Transaction.{Transaction}
use Rattle.store_schema.specs.declared.Version.{Version}
use Rattle.store_schema.specs.declared.Version.TheVariants.{Second}
use Rattle.store_schema.specs.Tables.{no_schema}
use Rattle.store_rows.specs.declared.content.SessionEdit.{SessionEdit}
use Rattle.store_rows.specs.declared.content.StoredCell.{StoredCell}
use Rattle.store_rows.specs.declared.content.StoredNotice.{StoredNotice}
use Rattle.store_rows.specs.Changes.{changed}
use Rattle.store_rows.specs.Rows.{Stored}
use Rattle.store_rows.specs.Holding.{Parts, HoldsParts, IsStoreOf}
use Rattle.store_rows.specs.Steps.{HasFreePlace, Runs, SparesBeside}
use Rattle.store_tables.specs.declared.error.TableError.{TableError}
use Rattle.store_tables.specs.declared.error.TableError.TheVariants.{BadStore, Memory}

-- what a transaction did is committed
pub record HasCommitted (old new : State) (Effect : Database → Database → Type 0) : Type 0 where
  pub was_open : IsTrue old.is_open
  pub is_open : IsTrue new.is_open
  pub effect : Effect old.now new.committed

-- trees that a transaction commits, of a connection that was open
abbrev pub MayCommit : State → (Database → Database → Type 0) → Trees → Type 0
MayCommit old Effect trees = IsTrue old.is_open × (d : Database) × Effect old.now d × (d.trees ≡ trees)

-- a store with one content becomes one with another, and what stands behind its tables stays as it was
abbrev pub Turns : (Stored → Type 0) → (Stored → Stored) → Database → Database → Type 0
Turns Fits f a b = (it : Stored) → Fits it → IsStoreOf a it → IsStoreOf b (f it) × SparesBeside a b

-- a commit asks of the content that it is of the second version and that a session's place is free
pub record Takes (edit : Option SessionEdit) (it : Stored) : Type 0 where
  pub second : it.version ≡ Second
  pub free : HasFreePlace edit it.sessions

-- the parts of a store of the second version that has no mark yet
abbrev pub no_parts : Parts
no_parts = record { tables = Second; marks = []; cells = []; sessions = []; notices = [] }

-- a new store
abbrev pub made : List ℕ → List ℕ → Stored
made site layout = record { version = Second; site = site; layout = layout; cells = []; sessions = []; notices = [] }

-- a content with another row for its site
abbrev pub with_site : List ℕ → Stored → Stored
with_site site it = record it { site = site }

-- a database without tables becomes a new store
abbrev pub BecomesStore : List ℕ → List ℕ → Database → Database → Type 0
BecomesStore site layout a b = a.schema ≡ no_schema → IsStoreOf b (made site layout)

-- a new store with counters and notices in it
abbrev pub filled : List ℕ → List ℕ → List StoredCell → List StoredNotice → Stored
filled site layout cells notices = changed cells notices None (made site layout)

-- a database without tables becomes such a store
abbrev pub BecomesFilled : List ℕ → List ℕ → List StoredCell → List StoredNotice → Database → Database → Type 0
BecomesFilled site layout cells notices a b = a.schema ≡ no_schema → IsStoreOf b (filled site layout cells notices)

-- a database without tables gets those of a store
abbrev pub BecomesEmpty : Database → Database → Type 0
BecomesEmpty a b = a.schema ≡ no_schema → HoldsParts no_parts b

-- a store of a version becomes one of the second
abbrev pub Upgrades : Version → Database → Database → Type 0
Upgrades version = Turns (λ it. it.version ≡ version) (λ it. record it { version = Second })

module _ {S : Type 0} (g : Ghosts S) where
  -- a call inside a transaction that ends well only where the connection is open
  pub record RunsOpen (Effect : Database → Database → Type 0) (old : Transaction S) (result : Result (Unit {0}) Error) (new : Transaction S) : Type 0 where
    pub runs : Runs g (λ _. Effect) old result new
    pub opened : HasCleanDisk (state g new.conn.now) → OnOk result (IsTrue (state g old.conn.now).is_open)

  -- One transaction over a connection: after `Ok` its change is committed, and after `Memory` nothing is. Whatever it answers,
  -- a crash leaves what it left before, or what the change makes of that.
  pub record Transacts (Effect : Database → Database → Type 0) (old : Held S) (result : Result (Unit {0}) TableError) (new : Held S) : Type 0 where
    pub idle : new.in_transaction ≡ false
    pub done : HasCleanDisk (state g new) → OnOk result (HasCommitted (state g old) (state g new) Effect)
    pub kind : result ≢ Err BadStore
    pub undone : result ≡ Err Memory → Survives (state g old) (state g new) (λ _. ⊥)
    pub survives : Survives (state g old) (state g new) (MayCommit (state g old) Effect)
