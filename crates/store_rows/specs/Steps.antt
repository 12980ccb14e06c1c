-- What the statements of a transaction do to a database.
use Rattle.std.specs.Prelude.{◌≡◌, ◌⊎◌, ℕ, ◌+◌, ◌<◌, ◌^◌, true, ◌==◌, if◌then◌else◌, [], List, Option, Some, None, Result, Ok, Err, IfOk, OnOk, ⊤, IsTrue, false}
use Rattle.sqlite_value.specs.Order.{Row}
use Rattle.sqlite_trees.specs.declared.store.Store.{Ghosts}
use Rattle.sqlite_schema.specs.declared.schema.Schema.{Schema}
use Rattle.sqlite_catalog.specs.Change.{next_tree, KeepsRows}
use Rattle.sqlite_rules.specs.Lists.{Has}
use Rattle.sqlite.specs.Effect.{Database, IsDatabase}
use Rattle.sqlite.specs.State.{State, HasCleanDisk, KeepsCommit, Survives, ExecutesInside}
use Rattle.sqlite.specs.Held.{state}
use Rattle.sqlite.specs.declared.transaction.Transaction.{Transaction}
use Rattle.store_schema.specs.Tables.{others_in}
use Rattle.store_schema.specs.declared.Version.TheVariants.{Second}
use Rattle.store_rows.specs.declared.content.StoredCell.{StoredCell}
use Rattle.store_rows.specs.declared.content.StoredNotice.{StoredNotice}
use Rattle.store_rows.specs.declared.content.StoredSession.{StoredSession}
use Rattle.store_rows.specs.declared.content.SessionEdit.{SessionEdit}
use Rattle.store_rows.specs.declared.content.SessionEdit.TheVariants.{Put, Dropped}
use Rattle.store_rows.specs.Rows.{cell_before, notice_before, session_before}
use Rattle.store_rows.specs.Sorted.{put, put_all}
use Rattle.sqlite.specs.declared.error.Error.{Error}
use Rattle.sqlite.specs.declared.error.Error.TheVariants.{SqliteFailure}
use Rattle.sqlite.specs.declared.error.ErrorCode.TheVariants.{OutOfMemory}
use Rattle.store_rows.specs.Changes.{is_of, without, edited}
use Rattle.store_rows.specs.Refusals.{HasRefused}
use Rattle.store_rows.specs.Rowids.{has_room}
use Rattle.store_rows.specs.Holding.{Mark, Parts, HoldsParts, HasBeside, set_mark}

-- statements inside a transaction change what it sees, in this way, and commit nothing
pub record Goes (old new : State) (Effect : Database → Database → Type 0) : Type 0 where
  pub inside : IsTrue new.in_transaction
  pub committed : new.committed ≡ old.committed
  pub effect : Effect old.now new.now

-- a table was made: it is empty, and the tables that were there have their rows
pub record HasMade (before after : Schema) (old new : Database) : Type 0 where
  pub schema : new.schema ≡ after
  pub empty : new.trees (next_tree before) ≡ []
  pub others : KeepsRows before.tables old.trees new.trees
  pub sound : IsDatabase new

-- a table is made where the schema is this one
abbrev pub Makes : Schema → Schema → Database → Database → Type 0
Makes before after a b = a.schema ≡ before → HasMade before after a b

-- what a database has behind the tables of a store
abbrev pub beside : Database → Database
beside d = record { schema = others_in d.schema; trees = d.trees }

-- what stands behind the store's own tables stays as it was: the same tables, indexes and views, and the rows of the tables
abbrev pub SparesBeside : Database → Database → Type 0
SparesBeside a b = HasBeside (beside a) b

-- a store of the second version whose parts fit has other parts then, and what stands behind its tables stays as it was
abbrev pub Brings : (Parts → Type 0) → (Parts → Parts) → Database → Database → Type 0
Brings Fits f a b = (p : Parts) → p.tables ≡ Second → Fits p → HoldsParts p a → HoldsParts (f p) b × SparesBeside a b

-- all parts fit
abbrev pub Any : Parts → Type 0
Any p = ⊤

-- parts as a statement leaves them that changes so many rows, which does nothing where it changes none
abbrev pub if_changed : ℕ → (Parts → Parts) → Parts → Parts
if_changed count f p = if count == 0 then p else f p

-- parts with a mark set
abbrev pub with_mark : Mark → Parts → Parts
with_mark m p = record p { marks = set_mark m p.marks }

-- parts with counters put, in turn
abbrev pub with_cells : List StoredCell → Parts → Parts
with_cells cells p = record p { cells = put_all cell_before cells p.cells }

-- parts with notices put, in turn
abbrev pub with_notices : List StoredNotice → Parts → Parts
with_notices notices p = record p { notices = put_all notice_before notices p.notices }

-- parts with the sessions after an edit
abbrev pub with_edit : Option SessionEdit → Parts → Parts
with_edit edit p = record p { sessions = edited edit p.sessions }

-- no other session has the place of one that is put
abbrev pub HasFreePlace : Option SessionEdit → List StoredSession → Type 0
HasFreePlace None sessions = ⊤
HasFreePlace (Some (Put s)) sessions = (x : StoredSession) → Has (without s.r s.h sessions) x → (x.place == s.place) ≡ false
HasFreePlace (Some (Dropped r h)) sessions = ⊤

-- parts without the session of a holder at a record
abbrev pub with_drop : ℕ → ℕ → Parts → Parts
with_drop r h p = record p { sessions = without r h p.sessions }

-- parts with a session more
abbrev pub with_session : StoredSession → Parts → Parts
with_session s p = record p { sessions = put session_before s p.sessions }

-- no session has the place of this one
abbrev pub HasNoSuchPlace : StoredSession → Parts → Type 0
HasNoSuchPlace s p = (x : StoredSession) → Has p.sessions x → (x.place == s.place) ≡ false

-- no session is of the holder of this one at its record, and none has its place
abbrev pub IsNewTo : StoredSession → Parts → Type 0
IsNewTo s p = (x : StoredSession) → Has p.sessions x → (is_of s.r s.h x ≡ false) × ((x.place == s.place) ≡ false)

-- the numbers of an edit are such as a store takes
abbrev pub IsStorable : Option SessionEdit → Type 0
IsStorable None = ⊤
IsStorable (Some (Put s)) = (s.h < 2 ^ 63) × (s.place < 2 ^ 63)
IsStorable (Some (Dropped r h)) = h < 2 ^ 63

-- statements take at most so many rowids of each table
abbrev pub Uses : ℕ → (Parts → Type 0) → Database → Database → Type 0
Uses n Fits a b = (p : Parts) → p.tables ≡ Second → Fits p → HoldsParts p a → (k : ℕ) → has_room (n + k) a.trees ≡ true → has_room k b.trees ≡ true

-- a database is no store of the second version whose parts fit and whose tables have so many rowids left
abbrev pub IsUnfit : ℕ → (Parts → Type 0) → Database → Type 0
IsUnfit n Fits d = (p : Parts) → p.tables ≡ Second → Fits p → HoldsParts p d → (k : ℕ) → has_room (n + k) d.trees ≡ true → ⊥

-- Why statements inside a transaction are refused: the device refused a call, or the database ran out of memory, or it
-- was no store that fits.
abbrev pub IsStopped : ℕ → (Parts → Type 0) → State → State → Error → Type 0
IsStopped n Fits old new e = HasRefused old new ⊎ ((e ≡ SqliteFailure OutOfMemory) ⊎ IsUnfit n Fits old.now)

-- a statement was run inside a transaction, whatever number of rows it changed
abbrev pub HasRun : List ℕ → Row → State → Result (Unit {0}) Error → State → Type 0
HasRun sql params old (Ok done) new = (count : ℕ) × ExecutesInside 0 sql params old new (Ok count)
HasRun sql params old (Err e) new = ExecutesInside 0 sql params old new (Err e)

module _ {S : Type 0} (g : Ghosts S) where
  -- a call inside a transaction runs this text with these parameters
  pub record RunsText (sql : List ℕ) (params : Row) (old : Transaction S) (result : Result (Unit {0}) Error) (new : Transaction S) : Type 0 where
    pub same_reference : new.conn.ghost_name ≡ old.conn.ghost_name
    pub runs : HasCleanDisk (state g new.conn.now) → IsTrue old.conn.now.in_transaction → HasRun sql params (state g old.conn.now) result (state g new.conn.now)
    pub survives : Survives (state g old.conn.now) (state g new.conn.now) (λ _. ⊥)

  -- What a call inside a transaction does. Where it answers a value, it has changed what the transaction sees, as the effect
  -- says of that value. Whatever it answers, it commits nothing and forgets no fault.
  pub record Runs {A : Type 0} (Effect : A → Database → Database → Type 0) (old : Transaction S) (result : Result A Error) (new : Transaction S) : Type 0 where
    pub same_reference : new.conn.ghost_name ≡ old.conn.ghost_name
    pub goes : HasCleanDisk (state g new.conn.now) → IsTrue old.conn.now.in_transaction
        → IfOk result (λ x. Goes (state g old.conn.now) (state g new.conn.now) (Effect x))
    pub kept : HasCleanDisk (state g new.conn.now) → IsTrue old.conn.now.in_transaction → KeepsCommit (state g old.conn.now) (state g new.conn.now)
    pub survives : Survives (state g old.conn.now) (state g new.conn.now) (λ _. ⊥)

  -- The same of a call that writes rows, with its needs: it takes at most so many rowids of each table, and it is refused
  -- neither for want of them where so many are left, nor by a store whose parts fit.
  pub record Puts {A : Type 0} (n : ℕ) (Fits : Parts → Type 0) (Effect : A → Database → Database → Type 0) (old : Transaction S) (result : Result A Error) (new : Transaction S) : Type 0 where
    pub runs : Runs Effect old result new
    pub uses : HasCleanDisk (state g new.conn.now) → IsTrue old.conn.now.in_transaction
        → OnOk result (Uses n Any (state g old.conn.now).now (state g new.conn.now).now)
    pub refused : HasCleanDisk (state g new.conn.now) → IsTrue old.conn.now.in_transaction
        → (e : Error) → result ≡ Err e → IsStopped n Fits (state g old.conn.now) (state g new.conn.now) e
