-- The tables of a store, as their texts define them, and the schema of each version.
use Rattle.std.specs.Prelude.{◌≡◌, ℕ, ◌≤◌, Bool, true, false, ◌||◌, List, [], ◌∷◌, ◌++◌, drop, None, codes, pos}
use Rattle.std.specs.List.{AllByRecursion}
use Rattle.sqlite_value.specs.declared.value.Value.TheVariants.{Null, Int}
use Rattle.sqlite_value.specs.declared.keys.Collation.TheVariants.{Binary}
use Rattle.sqlite_value.specs.Keys.{plain}
use Rattle.sqlite_sql.specs.Term.{Term, lit, col, op2}
use Rattle.sqlite_sql.specs.declared.ops.BinaryOp.TheVariants.{Compare}
use Rattle.sqlite_sql.specs.declared.ops.CompareOp.TheVariants.{Ge}
use Rattle.sqlite_schema.specs.declared.schema.Kind.{Kind}
use Rattle.sqlite_schema.specs.declared.schema.Kind.TheVariants.{Integer, Text}
use Rattle.sqlite_schema.specs.declared.schema.Column.{Column}
use Rattle.sqlite_schema.specs.declared.schema.Table.{Table}
use Rattle.sqlite_schema.specs.declared.schema.Index.{Index}
use Rattle.sqlite_schema.specs.declared.schema.Schema.{Schema}
use Rattle.sqlite_schema.specs.Names.{same_name}
use Rattle.store_schema.specs.declared.Version.{Version}
use Rattle.store_schema.specs.declared.Version.TheVariants.{First, Second}

-- a column that holds no NULL
abbrev pub column_of : List ℕ → Kind → Column
column_of name kind = record { name = name; kind = kind; is_strict = false; not_null = true; default = Null; collation = Binary }

-- a column is 0 or more
abbrev pub at_least_0 : ℕ → Term
at_least_0 place = op2 (Compare Ge Binary) (col 1 place) (lit (Int (pos 0)))

-- a table of such columns, with so many keys
abbrev pub table_of : List ℕ → ℕ → List Column → List ℕ → List (List ℕ) → List Term → Table
table_of name tree columns primary uniques checks = record {
  name = name;
  tree = tree;
  columns = columns;
  key = None;
  primary = primary;
  uniques = uniques;
  orders = [];
  checks = checks;
  references = [];
  computed = [];
  stamps = record { places = []; terms = []; formats = [] };
  is_counted = false;
}

abbrev pub meta_table : Table
meta_table = record (table_of (codes "meta") 0
    (column_of (codes "name") Text ∷ column_of (codes "value") Text ∷ [])
    (1 ∷ []) ((1 ∷ []) ∷ []) []) { orders = plain ∷ [] }

abbrev pub cells_table : Table
cells_table = record (table_of (codes "cells") 0
    (column_of (codes "record") Integer ∷ column_of (codes "slot") Integer ∷ column_of (codes "n") Integer ∷ [])
    (1 ∷ 2 ∷ []) ((1 ∷ 2 ∷ []) ∷ []) (at_least_0 3 ∷ [])) { orders = plain ∷ [] }

abbrev pub sessions_table : Table
sessions_table = record (table_of (codes "sessions") 0
    (column_of (codes "record") Integer ∷ column_of (codes "holder") Integer ∷ column_of (codes "phase") Integer
    ∷ column_of (codes "place") Integer ∷ [])
    (1 ∷ 2 ∷ []) ((4 ∷ []) ∷ (1 ∷ 2 ∷ []) ∷ []) []) { orders = plain ∷ plain ∷ [] }

abbrev pub notices_table : Table
notices_table = record (table_of (codes "notices") 0
    (column_of (codes "record") Integer ∷ column_of (codes "site") Integer ∷ column_of (codes "ann") Integer
    ∷ column_of (codes "fin") Integer ∷ [])
    (1 ∷ 2 ∷ []) ((1 ∷ 2 ∷ []) ∷ []) (at_least_0 3 ∷ at_least_0 4 ∷ [])) { orders = plain ∷ [] }

-- the index that keeps a key of a table, which SQLite makes by itself
abbrev pub index_of : List ℕ → ℕ → ℕ → List ℕ → Index
index_of name tree table columns = record { name = name; tree = tree; table = table; columns = columns; order = plain; is_unique = true }

-- the trees of the tables, in the order in which they are made, with an index after each for each of its keys
abbrev pub meta_tree : ℕ
meta_tree = 0

abbrev pub cells_tree : ℕ
cells_tree = 2

abbrev pub sessions_tree : ℕ
sessions_tree = 4

abbrev pub notices_tree : ℕ
notices_tree = 7

abbrev pub meta_indexes : List Index
meta_indexes = index_of (codes "sqlite_autoindex_meta_1") 1 meta_tree (1 ∷ []) ∷ []

abbrev pub cells_indexes : List Index
cells_indexes = index_of (codes "sqlite_autoindex_cells_1") 3 cells_tree (1 ∷ 2 ∷ []) ∷ []

abbrev pub sessions_indexes : List Index
sessions_indexes = index_of (codes "sqlite_autoindex_sessions_1") 5 sessions_tree (4 ∷ []) ∷ index_of (codes "sqlite_autoindex_sessions_2") 6 sessions_tree (1 ∷ 2 ∷ []) ∷ []

abbrev pub notices_indexes : List Index
notices_indexes = index_of (codes "sqlite_autoindex_notices_1") 8 notices_tree (1 ∷ 2 ∷ []) ∷ []

-- no table
abbrev pub no_schema : Schema
no_schema = record { tables = []; indexes = []; views = [] }

-- the schema after the first table, after two, after three and after all four
abbrev pub schema_1 : Schema
schema_1 = record { tables = meta_table ∷ []; indexes = meta_indexes; views = [] }

abbrev pub schema_2 : Schema
schema_2 = record { tables = meta_table ∷ (record cells_table { tree = cells_tree }) ∷ []; indexes = meta_indexes ++ cells_indexes; views = [] }

abbrev pub schema_3 : Schema
schema_3 = record {
  tables = meta_table ∷ (record cells_table { tree = cells_tree }) ∷ (record sessions_table { tree = sessions_tree }) ∷ [];
  indexes = meta_indexes ++ cells_indexes ++ sessions_indexes;
  views = [];
}

abbrev pub schema_4 : Schema
schema_4 = record {
  tables = meta_table ∷ (record cells_table { tree = cells_tree }) ∷ (record sessions_table { tree = sessions_tree }) ∷ (record notices_table { tree = notices_tree }) ∷ [];
  indexes = meta_indexes ++ cells_indexes ++ sessions_indexes ++ notices_indexes;
  views = [];
}

-- the schema of a version
abbrev pub schema_of : Version → Schema
schema_of First = schema_3
schema_of Second = schema_4

-- ---- other tables beside a store's own

-- a schema with another one behind it
abbrev pub behind : Schema → Schema → Schema
behind own more = record { tables = own.tables ++ more.tables; indexes = own.indexes ++ more.indexes; views = own.views ++ more.views }

-- what a schema has behind the four tables of a store and their indexes
abbrev pub others_in : Schema → Schema
others_in schema = record { tables = drop 4 schema.tables; indexes = drop 5 schema.indexes; views = schema.views }

-- A schema is that of a version. One of the second may have other tables, indexes and views behind its own, as
-- those are that were made later.
abbrev pub IsSchemaOf : Version → Schema → Type 0
IsSchemaOf First schema = schema ≡ schema_3
IsSchemaOf Second schema = schema ≡ behind schema_4 (others_in schema)

-- a name of a store's table, whatever the case of its letters
abbrev pub is_own_name : List ℕ → Bool
is_own_name name = same_name (codes "meta") name || (same_name (codes "cells") name || (same_name (codes "sessions") name || same_name (codes "notices") name))

-- the first tree that is none of a store's
abbrev pub first_other_tree : ℕ
first_other_tree = 9

-- the foreign keys of a table refer to no table of a store
abbrev pub ReferElsewhere : Table → Type 0
ReferElsewhere table = AllByRecursion (λ ref. is_own_name ref.parent ≡ false) table.references

-- Other tables and indexes leave those of a store alone: they have trees of their own, no index is on a table of the
-- store, and no foreign key refers to one.
pub record AreBehind (more : Schema) : Type 0 where
  pub trees : AllByRecursion (λ t. first_other_tree ≤ t.tree) more.tables
  pub indexes : AllByRecursion (λ i. first_other_tree ≤ i.table) more.indexes
  pub references : AllByRecursion ReferElsewhere more.tables

-- a store of the second version, with other tables that leave its own alone
pub record HasOthers (schema : Schema) : Type 0 where
  pub own : IsSchemaOf Second schema
  pub apart : AreBehind (others_in schema)
