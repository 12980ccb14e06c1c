-- What the rows that a look shows tell, and the numbers that a store takes.
use Rattle.std.specs.Prelude.{◌≡◌, ◌≢◌, ◌⊎◌, ◌<◌, ◌≤◌, ◌^◌, Bool, true, ◌&&◌, List, [], ◌∷◌, All, Option, None, Some, Result, Ok, Err, IfOk, OnOk, IsTrue, Vec}
use Rattle.std.specs.declared.alloc.Global.{Global}
use Rattle.sqlite_value.specs.declared.value.Value.TheVariants.{Text}
use Rattle.sqlite_value.specs.Order.{Row, column}
use Rattle.sqlite_trees.specs.declared.store.Store.{Ghosts}
use Rattle.sqlite_rules.specs.Lists.{Has}
use Rattle.sqlite.specs.Held.{Held, state}
use Rattle.sqlite.specs.declared.transaction.Transaction.{Transaction}
use Rattle.sqlite.specs.State.{State, HasCleanDisk, Survives}
use Rattle.store_schema.specs.Tables.{IsSchemaOf}
use Rattle.store_schema.specs.declared.Version.{Version}
use Rattle.store_schema.specs.declared.Found.{Found}
use Rattle.store_schema.specs.declared.Found.TheVariants.{Blank, Store}
use Rattle.store_rows.specs.Refusals.{HasRefused}
use Rattle.store_rows.specs.declared.content.StoredCell.{StoredCell}
use Rattle.store_rows.specs.declared.content.StoredSession.{StoredSession}
use Rattle.store_rows.specs.declared.content.StoredNotice.{StoredNotice}
use Rattle.store_rows.specs.Rows.{Stored, mark_row}
use Rattle.store_rows.specs.Holding.{Mark, Parts, Holds, HoldsNothing, HoldsParts, IsStoreOf, Leaves}
use Rattle.store_tables.specs.declared.reads.Unread.{Unread}
use Rattle.store_tables.specs.declared.reads.Unread.TheVariants.{Bad, Failed}

-- each element stands before the next
abbrev pub is_chain : {X : Type 0} → (X → X → Bool) → List X → Bool
is_chain before [] = true
is_chain before (x ∷ []) = true
is_chain before (x ∷ (y ∷ ys)) = before x y && is_chain before (y ∷ ys)

-- rows of names and values tell a mark, and no other value for its name
pub record TellsMark (rows : List Row) (m : Mark) : Type 0 where
  pub there : Has rows (mark_row m.name m.value)
  pub alone : (r : Row) → Has rows r → column r 0 ≡ Text m.name → r ≡ mark_row m.name m.value

-- record and slot are up to 65,535
abbrev pub IsCellInRange : StoredCell → Type 0
IsCellInRange c = (c.r < 2 ^ 16) × (c.slot < 2 ^ 16)

-- and a place is from 1 to 2^62
abbrev pub IsSessionInRange : StoredSession → Type 0
IsSessionInRange s = (s.r < 2 ^ 16) × (0 < s.place) × (s.place ≤ 2 ^ 62)

-- there are sixteen sites at most
abbrev pub IsNoticeInRange : StoredNotice → Type 0
IsNoticeInRange n = (n.r < 2 ^ 16) × (n.site < 16)

-- the numbers of a content are such as the tables take (formats of this project)
pub record IsInRange (it : Stored) : Type 0 where
  pub cells : All IsCellInRange it.cells
  pub sessions : All IsSessionInRange it.sessions
  pub notices : All IsNoticeInRange it.notices

-- whatever a crash at this moment leaves is a database without tables, or a store whose content is such
abbrev pub KeepsAny : {S : Type 0} (g : Ghosts S) → Held S → (Stored → Type 0) → Type 0
KeepsAny g c Fits = Leaves g c (λ db. HoldsNothing db ⊎ ((it : Stored) × (Fits it × Holds it db)))

module _ {S X : Type 0} (g : Ghosts S) where
  -- A call inside a transaction reads one table: of a store its items, and no bad ones where their numbers are such as the
  -- table takes. Where the schema is a store's, it changes nothing, and is refused by the device, or for want of memory.
  pub record ReadsTable (items_of : Parts → List X) (IsSuch : X → Type 0) (old : Transaction S) (result : Result (Vec X Global) Unread) (new : Transaction S) : Type 0 where
    pub same_reference : new.conn.ghost_name ≡ old.conn.ghost_name
    pub read : HasCleanDisk (state g new.conn.now) → (p : Parts) → HoldsParts p (state g old.conn.now).now
        → IfOk result (λ all. (all.items ≡ items_of p) × ((state g new.conn.now).now ≡ (state g old.conn.now).now))
    pub own : HasCleanDisk (state g new.conn.now) → (p : Parts) → HoldsParts p (state g old.conn.now).now → All IsSuch (items_of p) → result ≢ Err Bad
    pub same : HasCleanDisk (state g new.conn.now) → (v : Version) → IsSchemaOf v (state g old.conn.now).now.schema
        → OnOk result ((state g new.conn.now).now ≡ (state g old.conn.now).now)
    pub refused : HasCleanDisk (state g new.conn.now) → (v : Version) → IsSchemaOf v (state g old.conn.now).now.schema
        → result ≡ Err Failed → HasRefused (state g old.conn.now) (state g new.conn.now)
    pub survives : Survives (state g old.conn.now) (state g new.conn.now) (λ _. ⊥)

-- A look, inside one transaction, at what a database holds in whose schema this was found: it goes on only where the
-- connection is open, and commits nothing.
pub record ReadsFound (found : Found) (old : State) (result : Result (Option Stored) Unread) (new : State) : Type 0 where
  pub opened : HasCleanDisk new → OnOk result (IsTrue old.is_open)
  pub judged : HasCleanDisk new → result ≡ Err Bad → IsTrue old.is_open
  pub read : HasCleanDisk new → (it : Stored) → found ≡ Store it.version → IsStoreOf old.now it → IfOk result (λ content. content ≡ Some it)
  pub own : HasCleanDisk new → (it : Stored) → found ≡ Store it.version → IsStoreOf old.now it → IsInRange it → result ≢ Err Bad
  pub blank : found ≡ Blank → IfOk result (λ content. content ≡ None) × (result ≢ Err Bad)
  pub cause : result ≡ Ok None → found ≡ Blank
  pub refused : HasCleanDisk new → ((v : Version) → found ≡ Store v → IsSchemaOf v old.now.schema) → result ≡ Err Failed → HasRefused old new
  pub survives : Survives old new (λ _. ⊥)
