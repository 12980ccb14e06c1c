-- Parts that the tables of a store have in common.
use Rattle.std.specs.Prelude.{◌≡◌, ℕ, false, List, [], None, slice_index_or}
use Rattle.sqlite_value.specs.declared.value.Value.TheVariants.{Null}
use Rattle.sqlite_schema.specs.declared.code.Op.{Op}
use Rattle.sqlite_schema.specs.declared.code.Op.TheVariants.{Literal}
use Rattle.sqlite_schema.specs.declared.schema.Stamps.{Stamps}
use Rattle.sqlite_schema.specs.declared.schema.Table.{Table}

-- no default reads the time
abbrev pub no_stamps : Stamps
no_stamps = record { places = []; terms = []; formats = [] }

-- A table is made of its name, tree, columns, keys and checks alone: no column is the rowid or refers to another table,
-- and each default is a literal (the project's own).
pub record IsPlainTable (table : Table) : Type 0 where
  pub key : table.key ≡ None
  pub references : table.references ≡ []
  pub computed : table.computed ≡ []
  pub stamps : table.stamps ≡ no_stamps
  pub is_counted : table.is_counted ≡ false

-- the node at a place, where one that is not there is NULL
abbrev pub node_at : List Op → ℕ → Op
node_at nodes at = slice_index_or nodes at (Literal Null)
