-- Schemas near those of a store, as examples.
use Rattle.std.specs.Prelude.{ℕ, false, List, [], ◌∷◌, ◌++◌, codes}
use Rattle.sqlite_schema.specs.declared.schema.Action.TheVariants.{NoAction}
use Rattle.sqlite_schema.specs.declared.schema.Kind.TheVariants.{Integer}
use Rattle.sqlite_schema.specs.declared.schema.Table.{Table}
use Rattle.sqlite_schema.specs.declared.schema.Schema.{Schema}
use Rattle.store_schema.specs.Tables.{behind, cells_table, cells_tree, column_of, first_other_tree, index_of, meta_table, notices_table, notices_tree, schema_4, sessions_table, sessions_tree, table_of}

-- a table behind those of a store, whose column refers to a table of this name
abbrev pub table_referring_to : List ℕ → Table
table_referring_to parent = record (table_of (codes "more") first_other_tree (column_of (codes "n") Integer ∷ []) [] [] []) {
  references = record {
    columns = 1 ∷ [];
    parent = parent;
    parent_columns = codes "n" ∷ [];
    on_delete = NoAction;
    on_update = NoAction;
    is_deferred = false;
  } ∷ [];
}

-- a store of the second version with a table behind its own whose column refers to a table of this name
abbrev pub with_reference : List ℕ → Schema
with_reference parent = behind schema_4 (record { tables = table_referring_to parent ∷ []; indexes = []; views = [] })

-- a store of the second version whose first two tables are exchanged
abbrev pub with_exchange : Schema
with_exchange = record schema_4 {
  tables = (record cells_table { tree = cells_tree }) ∷ meta_table ∷ (record sessions_table { tree = sessions_tree }) ∷ (record notices_table { tree = notices_tree }) ∷ [];
}

-- a store of the second version with an index more, on `cells`
abbrev pub with_index : Schema
with_index = record schema_4 { indexes = schema_4.indexes ++ index_of (codes "more") first_other_tree cells_tree (3 ∷ []) ∷ [] }
