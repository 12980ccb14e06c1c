-- What a schema holds of a store, by the names of tables and columns.
use Rattle.std.specs.Prelude.{ℕ, Bool, ◌&&◌, List, Option, Some, None, is_some, slice_get, codes, if◌then◌else◌}
use Rattle.sqlite_schema.specs.declared.schema.Table.{Table}
use Rattle.sqlite_schema.specs.declared.schema.Schema.{Schema}
use Rattle.sqlite_schema.specs.Names.{table_named, column_named}
use Rattle.store_schema.specs.declared.Version.TheVariants.{First, Second}
use Rattle.store_schema.specs.declared.Found.{Found}
use Rattle.store_schema.specs.declared.Found.TheVariants.{Blank, Store, Other}
use Rattle.store_schema.specs.declared.Presence.{Presence}
use Rattle.store_schema.specs.declared.Presence.TheVariants.{Missing, Whole, Partial}

-- a table has columns of four names
abbrev pub has_columns : Table → List ℕ → List ℕ → List ℕ → List ℕ → Bool
has_columns table a b c d =
    is_some (column_named table a) && (is_some (column_named table b) && (is_some (column_named table c) && is_some (column_named table d)))

-- whether a table that may be there has columns of four names
abbrev pub presence_in : Option Table → List ℕ → List ℕ → List ℕ → List ℕ → Presence
presence_in None a b c d = Missing
presence_in (Some table) a b c d = if has_columns table a b c d then Whole else Partial

abbrev pub table_at : Schema → Option ℕ → Option Table
table_at schema None = None
table_at schema (Some at) = slice_get schema.tables at

-- whether the table of a name has columns of four names
abbrev pub presence_of : Schema → List ℕ → List ℕ → List ℕ → List ℕ → List ℕ → Presence
presence_of schema name = presence_in (table_at schema (table_named schema name))

-- a store of a version has all its tables and no other of them
abbrev pub found_by : Presence → Presence → Presence → Presence → Found
found_by Missing Missing Missing Missing = Blank
found_by Whole Whole Whole Missing = Store First
found_by Whole Whole Whole Whole = Store Second
found_by _ _ _ _ = Other

-- what a schema holds of a store
abbrev pub found_in : Schema → Found
found_in schema = found_by
    (presence_of schema (codes "meta") (codes "name") (codes "value") (codes "value") (codes "value"))
    (presence_of schema (codes "cells") (codes "record") (codes "slot") (codes "n") (codes "n"))
    (presence_of schema (codes "sessions") (codes "record") (codes "holder") (codes "phase") (codes "place"))
    (presence_of schema (codes "notices") (codes "record") (codes "site") (codes "ann") (codes "fin"))
