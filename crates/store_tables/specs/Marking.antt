-- The mark of a store that is older than what others have seen of its site (this project's own): a row of the table meta.
use Rattle.std.specs.Prelude.{◌≡◌, ◌≢◌, ℕ, Bool, true, false, List, drop, codes, Result, Err, IfOk, OnOk, IsTrue}
use Rattle.sqlite_value.specs.declared.value.Value.TheVariants.{Text}
use Rattle.sqlite_value.specs.Order.{Row, column}
use Rattle.sqlite_trees.specs.Tree.{Trees}
use Rattle.sqlite_rules.specs.Lists.{Has}
use Rattle.sqlite.specs.Effect.{Database}
use Rattle.sqlite.specs.State.{State, HasCleanDisk, Survives}
use Rattle.store_schema.specs.declared.Version.TheVariants.{Second}
use Rattle.store_schema.specs.Tables.{IsSchemaOf, meta_tree}
use Rattle.store_schema.specs.declared.Version.{Version}
use Rattle.store_rows.specs.Refusals.{HasRefused}
use Rattle.store_rows.specs.Rows.{Stored}
use Rattle.store_rows.specs.Holding.{Mark, HasMark, IsStoreOf, mark}
use Rattle.store_rows.specs.Steps.{SparesBeside}
use Rattle.store_tables.specs.declared.reads.Unread.{Unread}
use Rattle.store_tables.specs.declared.reads.Unread.TheVariants.{Bad, Failed}

abbrev pub outdated_name : List ℕ
outdated_name = codes "outdated"

abbrev pub outdated_mark : Mark
outdated_mark = mark outdated_name (codes "1")

-- trees have the mark
abbrev pub HasOutdatedMark : Trees → Type 0
HasOutdatedMark db = HasMark (db meta_tree) outdated_mark

-- trees have a row of its name, whatever its value
pub record NamesOutdated (db : Trees) : Type 0 where
  pub row : Row
  pub there : Has (db meta_tree) row
  pub named : column (drop 1 row) 0 ≡ Text outdated_name

-- whether they have one is told
abbrev pub TellsOutdated : Bool → Trees → Type 0
TellsOutdated true db = NamesOutdated db
TellsOutdated false db = ¬ NamesOutdated db

-- a store of the second version gets the mark; what it holds stays, and so does what stands behind its tables
abbrev pub MarksOutdated : Database → Database → Type 0
MarksOutdated a b = (it : Stored) → it.version ≡ Second → IsStoreOf a it → IsStoreOf b it × (HasOutdatedMark b.trees × SparesBeside a b)

-- rows that a look at meta shows have the names of its rows, and no others
pub record ShowsNames (rows shown : List Row) : Type 0 where
  pub from : (y : Row) → Has shown y → (name : List ℕ) → column y 0 ≡ Text name → (r : Row) × Has rows r × (column (drop 1 r) 0 ≡ Text name)
  pub each : (r : Row) → Has rows r → (name : List ℕ) → column (drop 1 r) 0 ≡ Text name → (y : Row) × Has shown y × (column y 0 ≡ Text name)

-- A look, inside one transaction, at whether a store has a row of the mark's name: it goes on only where the connection
-- is open, and commits nothing.
pub record ReadsOutdated (old : State) (result : Result Bool Unread) (new : State) : Type 0 where
  pub opened : HasCleanDisk new → OnOk result (IsTrue old.is_open)
  pub told : HasCleanDisk new → (v : Version) → IsSchemaOf v old.now.schema → IfOk result (λ found. TellsOutdated found old.now.trees)
  pub kind : result ≢ Err Bad
  pub refused : HasCleanDisk new → (v : Version) → IsSchemaOf v old.now.schema → result ≡ Err Failed → HasRefused old new
  pub survives : Survives old new (λ _. ⊥)
