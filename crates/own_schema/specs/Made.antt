-- The schemas that this program makes.
use Rattle.std.specs.Prelude.{◌≢◌}
use Rattle.sqlite_schema.specs.declared.schema.Schema.{Schema}
use Rattle.store_schema.specs.declared.Version.{Version}
use Rattle.store_schema.specs.Tables.{AreBehind, IsSchemaOf, no_schema, others_in}

-- A schema is one of a version that this program makes: the tables are a store's own, and whatever stands behind those of
-- the second version leaves them alone (the project's own).
abbrev pub IsMadeHere : Version → Schema → Type 0
IsMadeHere version schema = IsSchemaOf version schema × AreBehind (others_in schema)

-- a schema that has something, and is none that this program makes (the project's own)
pub record IsForeign (schema : Schema) : Type 0 where
  pub some : schema ≢ no_schema
  pub elsewhere : (version : Version) → ¬ IsMadeHere version schema
