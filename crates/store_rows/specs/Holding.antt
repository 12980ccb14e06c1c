-- When the trees of a database hold a content, and what a connection keeps.
use Rattle.std.specs.Prelude.{◌≡◌, ◌⊎◌, ℕ, List, [], ◌∷◌, drop, not, filter, bytes_eq, if◌then◌else◌, IsTrue, codes}
use Rattle.std.specs.List.{AllByRecursion}
use Rattle.sqlite_value.specs.declared.value.Value.TheVariants.{Text}
use Rattle.sqlite_value.specs.Order.{Row, column}
use Rattle.sqlite_trees.specs.Tree.{Trees, IsTable, rowid}
use Rattle.sqlite_trees.specs.View.{is_int}
use Rattle.sqlite_trees.specs.declared.store.Store.{Ghosts}
use Rattle.sqlite_schema.specs.declared.schema.Schema.{Schema}
use Rattle.sqlite_catalog.specs.Change.{KeepsRows}
use Rattle.sqlite_rules.specs.Lists.{Has}
use Rattle.sqlite.specs.Effect.{Database, IsDatabase}
use Rattle.sqlite.specs.State.{HasCleanDisk}
use Rattle.sqlite.specs.Held.{Held, state}
use Rattle.store_schema.specs.declared.Version.{Version}
use Rattle.store_schema.specs.declared.Version.TheVariants.{First, Second}
use Rattle.store_schema.specs.Tables.{AreBehind, IsSchemaOf, others_in, no_schema, meta_tree, cells_tree, sessions_tree, notices_tree}
use Rattle.store_rows.specs.declared.content.StoredCell.{StoredCell}
use Rattle.store_rows.specs.declared.content.StoredSession.{StoredSession}
use Rattle.store_rows.specs.declared.content.StoredNotice.{StoredNotice}
use Rattle.store_rows.specs.Rows.{Stored, mark_row, cell_row, session_row, notice_row, version_text, cell_before, session_before, notice_before}
use Rattle.store_rows.specs.Sorted.{IsRising}

-- the rows of a tree are these items, whatever their rowids: each has its own, and nothing else is there
pub record HoldsRows {X : Type 0} (row : X → Row) (items : List X) (rows : List Row) : Type 0 where
  pub keyed : IsTable rows
  pub numbered : AllByRecursion (λ r. IsTrue (is_int (rowid r))) rows
  pub sound : (r : Row) → Has rows r → (x : X) × Has items x × (drop 1 r ≡ row x)
  pub complete : (x : X) → Has items x → (r : Row) × Has rows r × (drop 1 r ≡ row x)

-- a name and its value in the table meta
pub record Mark : Type 0 where
  pub name : List ℕ
  pub value : List ℕ

-- the rows of meta have a mark, and no other value for its name
pub record HasMark (rows : List Row) (m : Mark) : Type 0 where
  pub there : (r : Row) × Has rows r × (drop 1 r ≡ mark_row m.name m.value)
  pub alone : (r : Row) → Has rows r → column (drop 1 r) 0 ≡ Text m.name → drop 1 r ≡ mark_row m.name m.value

-- the tables of a database, by what they hold; the marks are some of the rows of meta
pub record Parts : Type 0 where
  pub tables : Version
  pub marks : List Mark
  pub cells : List StoredCell
  pub sessions : List StoredSession
  pub notices : List StoredNotice

-- a store of the first version has no table of notices
abbrev pub HoldsNotices : Version → List StoredNotice → List Row → Type 0
HoldsNotices First notices rows = notices ≡ []
HoldsNotices Second notices rows = HoldsRows notice_row notices rows

-- A database has the tables of a version with such rows; behind those of the second version there may be other tables,
-- indexes and views, which leave them alone.
pub record HoldsParts (p : Parts) (d : Database) : Type 0 where
  pub schema : IsSchemaOf p.tables d.schema
  pub apart : AreBehind (others_in d.schema)
  pub sound : IsDatabase d
  pub rows : IsTable (d.trees meta_tree)
  pub numbered : AllByRecursion (λ r. IsTrue (is_int (rowid r))) (d.trees meta_tree)
  pub marks : AllByRecursion (HasMark (d.trees meta_tree)) p.marks
  pub cells : HoldsRows cell_row p.cells (d.trees cells_tree)
  pub sessions : HoldsRows session_row p.sessions (d.trees sessions_tree)
  pub notices : HoldsNotices p.tables p.notices (d.trees notices_tree)
  pub cells_rise : IsRising cell_before p.cells
  pub sessions_rise : IsRising session_before p.sessions
  pub notices_rise : IsRising notice_before p.notices

abbrev pub mark : List ℕ → List ℕ → Mark
mark name value = record { name = name; value = value }

-- marks with one set, in the place of the one that has its name
abbrev pub set_mark : Mark → List Mark → List Mark
set_mark m [] = m ∷ []
set_mark m (n ∷ ns) = if bytes_eq n.name m.name then m ∷ filter (λ o. not (bytes_eq o.name m.name)) ns else n ∷ set_mark m ns

-- the marks of a content
abbrev pub marks_of : Stored → List Mark
marks_of it = mark (codes "version") (version_text it.version) ∷ mark (codes "site") it.site ∷ mark (codes "layout") it.layout ∷ []

abbrev pub parts_of : Stored → Parts
parts_of it = record { tables = it.version; marks = marks_of it; cells = it.cells; sessions = it.sessions; notices = it.notices }

-- a database is a store with this content
abbrev pub IsStoreOf : Database → Stored → Type 0
IsStoreOf d it = HoldsParts (parts_of it) d

-- trees, with the schema that they list, are a store with this content
abbrev pub Holds : Stored → Trees → Type 0
Holds it trees = (schema : Schema) × IsStoreOf (record { schema = schema; trees = trees }) it

-- trees without a table are a database
abbrev pub HoldsNothing : Trees → Type 0
HoldsNothing trees = IsDatabase (record { schema = no_schema; trees = trees })

-- a database has these other tables, indexes and views behind those of a store, and the tables have these rows
pub record HasBeside (o d : Database) : Type 0 where
  pub schema : others_in d.schema ≡ o.schema
  pub rows : KeepsRows o.schema.tables o.trees d.trees

-- the same of trees, with the schema that they list
abbrev pub HoldsBeside : Database → Trees → Type 0
HoldsBeside o trees = (schema : Schema) × (IsDatabase (record { schema = schema; trees = trees }) × HasBeside o (record { schema = schema; trees = trees }))

module _ {S : Type 0} (g : Ghosts S) (c : Held S) where
  -- whatever a crash at this moment leaves is like this
  pub record Leaves (Like : Trees → Type 0) : Type 0 where
    pub left : HasCleanDisk (state g c) → (db : Trees) → (state g c).may_leave db → ∥ Like db ∥₁

  -- whatever a crash at this moment leaves is a store with this content
  abbrev pub Keeps : Stored → Type 0
  Keeps it = Leaves (Holds it)

  -- whatever a crash at this moment leaves is a store with one of two contents
  abbrev pub KeepsEither : Stored → Stored → Type 0
  KeepsEither a b = Leaves (λ db. Holds a db ⊎ Holds b db)

  -- whatever a crash at this moment leaves is a database without tables
  abbrev pub KeepsNothing : Type 0
  KeepsNothing = Leaves HoldsNothing

  -- whatever a crash at this moment leaves is a database without tables, or a store with this content
  abbrev pub KeepsNothingOr : Stored → Type 0
  KeepsNothingOr it = Leaves (λ db. HoldsNothing db ⊎ Holds it db)

  -- whatever a crash at this moment leaves has these other tables beside a store's own, with these rows
  abbrev pub KeepsBeside : Database → Type 0
  KeepsBeside o = Leaves (HoldsBeside o)
