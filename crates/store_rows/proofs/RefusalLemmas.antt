-- Why a statement that only reads is refused.
use Rattle.std.proofs.Common.{◌≡◌, ℕ, true, List, [], length, Result, Ok, Err, codes, refl, sym, subst}
use Rattle.sqlite_schema.specs.declared.schema.Schema.{Schema}
use Rattle.sqlite_resolve.specs.declared.compiled.Compiled.{Compiled}
use Rattle.sqlite_resolve.specs.declared.error.CompileError.{CompileError}
use Rattle.sqlite_tied.specs.Compute.{everything}
use Rattle.sqlite_typing.specs.Types.{accepts_program}
use Rattle.sqlite.specs.Listing.{understood}
use Rattle.sqlite.proofs.Callers.{IsPlain}
use Rattle.store_schema.specs.declared.Version.{Version}
use Rattle.store_schema.specs.declared.Version.TheVariants.{First, Second}
use Rattle.store_schema.specs.Tables.{IsSchemaOf, behind, others_in, schema_3, schema_4}
use Rattle.store_rows.specs.Texts.{read_marks_text, read_cells_text, read_sessions_text, read_notices_text}
use Rattle.store_rows.proofs.ReadLemmas.{query_on}
use Rattle.store_rows.proofs.SelectLemmas.{two, three, four, by_two, by_place}

-- a text is one statement, without parameters
abbrev pub IsWhole : List ℕ → Result Compiled CompileError → Type 0
IsWhole sql (Ok c) = (c.tail ≡ length sql) × (c.names ≡ [])
IsWhole sql (Err e) = ⊥

-- a text begins with a statement that has no parameters
abbrev pub IsBare : Result Compiled CompileError → Type 0
IsBare (Ok c) = c.names ≡ []
IsBare (Err e) = ⊥

-- a text of two statements, which no call runs
abbrev pub two_text : List ℕ
two_text = codes "SELECT 1; SELECT 1"

pub two_bare : (schema : Schema) → IsBare (understood schema two_text) × IsPlain (understood schema two_text)
unfolding understood everything
two_bare schema = (refl, (refl, refl))

marks_first : IsWhole read_marks_text (understood schema_3 read_marks_text) × (accepts_program schema_3 [] (query_on 0 [] two []) [] ≡ true)
unfolding understood everything
marks_first = ((refl, refl), refl)

marks_second : (more : Schema) → IsWhole read_marks_text (understood (behind schema_4 more) read_marks_text) × (accepts_program (behind schema_4 more) [] (query_on 0 [] two []) [] ≡ true)
unfolding understood everything
marks_second more = ((refl, refl), refl)

pub marks_whole : (v : Version) (schema : Schema) → IsSchemaOf v schema → IsWhole read_marks_text (understood schema read_marks_text) × (accepts_program schema [] (query_on 0 [] two []) [] ≡ true)
marks_whole First schema is = subst (λ s. IsWhole read_marks_text (understood s read_marks_text) × (accepts_program s [] (query_on 0 [] two []) [] ≡ true)) (sym is) marks_first
marks_whole Second schema is = subst (λ s. IsWhole read_marks_text (understood s read_marks_text) × (accepts_program s [] (query_on 0 [] two []) [] ≡ true)) (sym is) (marks_second (others_in schema))

cells_first : IsWhole read_cells_text (understood schema_3 read_cells_text) × (accepts_program schema_3 [] (query_on 2 [] three by_two) [] ≡ true)
unfolding understood everything
cells_first = ((refl, refl), refl)

cells_second : (more : Schema) → IsWhole read_cells_text (understood (behind schema_4 more) read_cells_text) × (accepts_program (behind schema_4 more) [] (query_on 2 [] three by_two) [] ≡ true)
unfolding understood everything
cells_second more = ((refl, refl), refl)

pub cells_whole : (v : Version) (schema : Schema) → IsSchemaOf v schema → IsWhole read_cells_text (understood schema read_cells_text) × (accepts_program schema [] (query_on 2 [] three by_two) [] ≡ true)
cells_whole First schema is = subst (λ s. IsWhole read_cells_text (understood s read_cells_text) × (accepts_program s [] (query_on 2 [] three by_two) [] ≡ true)) (sym is) cells_first
cells_whole Second schema is = subst (λ s. IsWhole read_cells_text (understood s read_cells_text) × (accepts_program s [] (query_on 2 [] three by_two) [] ≡ true)) (sym is) (cells_second (others_in schema))

sessions_first : IsWhole read_sessions_text (understood schema_3 read_sessions_text) × (accepts_program schema_3 [] (query_on 4 [] four by_place) [] ≡ true)
unfolding understood everything
sessions_first = ((refl, refl), refl)

sessions_second : (more : Schema) → IsWhole read_sessions_text (understood (behind schema_4 more) read_sessions_text) × (accepts_program (behind schema_4 more) [] (query_on 4 [] four by_place) [] ≡ true)
unfolding understood everything
sessions_second more = ((refl, refl), refl)

pub sessions_whole : (v : Version) (schema : Schema) → IsSchemaOf v schema → IsWhole read_sessions_text (understood schema read_sessions_text) × (accepts_program schema [] (query_on 4 [] four by_place) [] ≡ true)
sessions_whole First schema is = subst (λ s. IsWhole read_sessions_text (understood s read_sessions_text) × (accepts_program s [] (query_on 4 [] four by_place) [] ≡ true)) (sym is) sessions_first
sessions_whole Second schema is = subst (λ s. IsWhole read_sessions_text (understood s read_sessions_text) × (accepts_program s [] (query_on 4 [] four by_place) [] ≡ true)) (sym is) (sessions_second (others_in schema))

notices_second : (more : Schema) → IsWhole read_notices_text (understood (behind schema_4 more) read_notices_text) × (accepts_program (behind schema_4 more) [] (query_on 7 [] four by_two) [] ≡ true)
unfolding understood everything
notices_second more = ((refl, refl), refl)

pub notices_whole : (schema : Schema) → IsSchemaOf Second schema → IsWhole read_notices_text (understood schema read_notices_text) × (accepts_program schema [] (query_on 7 [] four by_two) [] ≡ true)
notices_whole schema is = subst (λ s. IsWhole read_notices_text (understood s read_notices_text) × (accepts_program s [] (query_on 7 [] four by_two) [] ≡ true)) (sym is) (notices_second (others_in schema))
