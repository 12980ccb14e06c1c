-- What the statements that read show of the rows of their tables.
use Rattle.std.proofs.Common.{◌≡◌, ℕ, false, List, [], ◌∷◌, codes, refl, sym, subst}
use Rattle.sqlite_value.specs.declared.keys.Key.{Key}
use Rattle.sqlite_value.specs.declared.keys.Collation.TheVariants.{Binary}
use Rattle.sqlite_value.specs.Keys.{ascending}
use Rattle.sqlite_sql.specs.Term.{Term, col}
use Rattle.sqlite_schema.specs.declared.schema.Schema.{Schema}
use Rattle.sqlite_schema.specs.declared.command.Command.TheVariants.{Select}
use Rattle.sqlite_tied.specs.Compute.{everything}
use Rattle.sqlite.specs.Listing.{understood, reads_listing}
use Rattle.sqlite.proofs.Callers.{IsPlain, command_of}
use Rattle.store_schema.specs.declared.Version.{Version}
use Rattle.store_schema.specs.declared.Version.TheVariants.{First, Second}
use Rattle.store_schema.specs.Tables.{IsSchemaOf, behind, others_in, schema_3, schema_4}
use Rattle.store_rows.specs.Texts.{read_marks_text, read_cells_text, read_sessions_text, read_notices_text}
use Rattle.store_rows.proofs.ReadLemmas.{query_on}

abbrev pub two : List Term
two = col 1 1 ∷ col 1 2 ∷ []

abbrev pub three : List Term
three = col 1 1 ∷ col 1 2 ∷ col 1 3 ∷ []

abbrev pub four : List Term
four = col 1 1 ∷ col 1 2 ∷ col 1 3 ∷ col 1 4 ∷ []

-- the orders of ORDER BY, and the names of what is shown
abbrev pub by_two : List (Term × Key)
by_two = (col 1 1, ascending Binary) ∷ (col 1 2, ascending Binary) ∷ []

abbrev pub by_place : List (Term × Key)
by_place = (col 1 4, ascending Binary) ∷ []

abbrev pub mark_names : List (List ℕ)
mark_names = codes "name" ∷ codes "value" ∷ []

abbrev pub cell_names : List (List ℕ)
cell_names = codes "record" ∷ codes "slot" ∷ codes "n" ∷ []

abbrev pub session_names : List (List ℕ)
session_names = codes "record" ∷ codes "holder" ∷ codes "phase" ∷ codes "place" ∷ []

abbrev pub notice_names : List (List ℕ)
notice_names = codes "record" ∷ codes "site" ∷ codes "ann" ∷ codes "fin" ∷ []

-- a text reads a table in this way under a schema
abbrev pub reads : ℕ → List Term → List (Term × Key) → List (List ℕ) → Schema → List ℕ → Type 0
reads tree project order names schema text =
    (command_of (understood schema text) ≡ Select (record { lets = []; body = query_on tree [] project order }) names) × IsPlain (understood schema text) × (reads_listing schema text ≡ false)

marks_first : reads 0 two [] mark_names schema_3 read_marks_text
unfolding understood everything
marks_first = (refl, (refl, refl), refl)

marks_second : (more : Schema) → reads 0 two [] mark_names (behind schema_4 more) read_marks_text
unfolding understood everything
marks_second more = (refl, (refl, refl), refl)

pub marks_read : (v : Version) (schema : Schema) → IsSchemaOf v schema → reads 0 two [] mark_names schema read_marks_text
marks_read First schema is = subst (λ s. reads 0 two [] mark_names s read_marks_text) (sym is) marks_first
marks_read Second schema is = subst (λ s. reads 0 two [] mark_names s read_marks_text) (sym is) (marks_second (others_in schema))

cells_first : reads 2 three by_two cell_names schema_3 read_cells_text
unfolding understood everything
cells_first = (refl, (refl, refl), refl)

cells_second : (more : Schema) → reads 2 three by_two cell_names (behind schema_4 more) read_cells_text
unfolding understood everything
cells_second more = (refl, (refl, refl), refl)

pub cells_read : (v : Version) (schema : Schema) → IsSchemaOf v schema → reads 2 three by_two cell_names schema read_cells_text
cells_read First schema is = subst (λ s. reads 2 three by_two cell_names s read_cells_text) (sym is) cells_first
cells_read Second schema is = subst (λ s. reads 2 three by_two cell_names s read_cells_text) (sym is) (cells_second (others_in schema))

sessions_first : reads 4 four by_place session_names schema_3 read_sessions_text
unfolding understood everything
sessions_first = (refl, (refl, refl), refl)

sessions_second : (more : Schema) → reads 4 four by_place session_names (behind schema_4 more) read_sessions_text
unfolding understood everything
sessions_second more = (refl, (refl, refl), refl)

pub sessions_read : (v : Version) (schema : Schema) → IsSchemaOf v schema → reads 4 four by_place session_names schema read_sessions_text
sessions_read First schema is = subst (λ s. reads 4 four by_place session_names s read_sessions_text) (sym is) sessions_first
sessions_read Second schema is = subst (λ s. reads 4 four by_place session_names s read_sessions_text) (sym is) (sessions_second (others_in schema))

notices_second : (more : Schema) → reads 7 four by_two notice_names (behind schema_4 more) read_notices_text
unfolding understood everything
notices_second more = (refl, (refl, refl), refl)

pub notices_read : (schema : Schema) → IsSchemaOf Second schema → reads 7 four by_two notice_names schema read_notices_text
notices_read schema is = subst (λ s. reads 7 four by_two notice_names s read_notices_text) (sym is) (notices_second (others_in schema))
