-- The texts define the tables, and the schemas come of making them in turn.
use Rattle.std.proofs.Common.{◌≡◌, Ok, refl, arith, [], ◌∷◌}
use Rattle.std.specs.Fmt.{decimal}
use Rattle.std.proofs.lemmas.Fmt.{decimal_digit}
use Rattle.sqlite_resolve.specs.Compile.{table_defined_by}
use Rattle.sqlite_catalog.specs.Change.{created}
use Rattle.sqlite_tied.specs.Compute.{everything}
use Rattle.sqlite_schema.specs.Names.{same_name}
use Rattle.sqlite_schema.specs.declared.schema.Schema.{Schema}
use Rattle.store_schema.specs.declared.Version.TheVariants.{First, Second}
use Rattle.store_schema.specs.declared.Found.TheVariants.{Blank, Store}
use Rattle.store_schema.specs.Texts.{create_meta, create_cells, create_sessions, create_notices}
use Rattle.store_schema.specs.Tables.{meta_table, cells_table, sessions_table, notices_table, no_schema, schema_1, schema_2, schema_3, schema_4, schema_of, behind}
use Rattle.store_schema.specs.Found.{found_in}

pub meta_defined : table_defined_by create_meta ≡ Ok meta_table
unfolding everything
meta_defined = refl

pub cells_defined : table_defined_by create_cells ≡ Ok cells_table
unfolding everything
cells_defined = refl

pub sessions_defined : table_defined_by create_sessions ≡ Ok sessions_table
unfolding everything
sessions_defined = refl

pub notices_defined : table_defined_by create_notices ≡ Ok notices_table
unfolding everything
notices_defined = refl

one : decimal 1 ≡ 49 ∷ []
one = decimal_digit 1 (omega arith)

two : decimal 2 ≡ 50 ∷ []
two = decimal_digit 2 (omega arith)

pub meta_created : created no_schema meta_table ≡ schema_1
meta_created = rw one

pub cells_created : created schema_1 cells_table ≡ schema_2
cells_created = rw one

pub sessions_created : created schema_2 sessions_table ≡ schema_3
sessions_created = rw (one, two)

pub notices_created : created schema_3 notices_table ≡ schema_4
notices_created = rw one

pub found_first : found_in (schema_of First) ≡ Store First
unfolding same_name
found_first = refl

pub found_second : (more : Schema) → found_in (behind schema_4 more) ≡ Store Second
unfolding same_name
found_second more = refl

pub found_blank : found_in no_schema ≡ Blank
unfolding same_name
found_blank = refl
