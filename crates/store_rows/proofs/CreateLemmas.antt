-- What making a table does.
use Rattle.std.proofs.Common.{◌≡◌, ℕ, false, List, [], Ok, None, refl, sym, ap, subst, ◌∙◌}
use Rattle.sqlite_schema.specs.declared.schema.Table.{Table}
use Rattle.sqlite_schema.specs.declared.schema.Schema.{Schema}
use Rattle.sqlite_schema.specs.declared.command.Command.TheVariants.{CreateTable}
use Rattle.sqlite_resolve.specs.Compile.{table_defined_by}
use Rattle.sqlite_catalog.specs.Change.{created, next_tree, KeepsRows}
use Rattle.sqlite_tied.specs.Compute.{everything}
use Rattle.sqlite.specs.Effect.{Database}
use Rattle.sqlite.specs.Does.{Tally, lacks_sequence}
use Rattle.sqlite.specs.State.{State, Executes, Writes}
use Rattle.sqlite.specs.Listing.{understood}
use Rattle.sqlite.proofs.Callers.{IsPlain, command_of, statement_of, runs_as}
use Rattle.store_schema.specs.Texts.{create_meta, create_cells, create_sessions, create_notices}
use Rattle.store_schema.specs.Tables.{meta_table, cells_table, sessions_table, notices_table, no_schema, schema_1, schema_2, schema_3, schema_4}
use Rattle.store_schema.proofs.TableLemmas.{meta_defined, cells_defined, sessions_defined, notices_defined, meta_created, cells_created, sessions_created, notices_created}
use Rattle.store_rows.specs.Steps.{HasMade}
use Rattle.store_rows.proofs.EditLemmas.{went, same_value}

module _ (text : List ℕ) (before after : Schema) (table : Table) (is : command_of (understood before text) ≡ CreateTable) (whole : statement_of text (understood before text) ≡ text)
    (plain : IsPlain (understood before text)) (defined : table_defined_by text ≡ Ok table) (makes : created before table ≡ after) (uncounted : lacks_sequence after ≡ false) where
  pub makes_table : (old new : State) (count : ℕ) → old.now.schema ≡ before → Executes text [] old new (Ok count) → HasMade before after old.now new.now
  makes_table old new count has h =
      let w = subst (λ t. Writes old new None CreateTable t [] count) whole (runs_as text [] old new before has CreateTable is plain count h) in
      let all = went w.changed in
      let first = went all.1 in
      let made = first.1 in
      let both : Ok made.table ≡ Ok table = sym made.defined ∙ defined in
      let same : made.table ≡ table = cc in
      let schema : first.0.schema ≡ after = made.is ∙ ap (λ s. created s made.table) has ∙ ap (created before) same ∙ makes in
      let no_sequence : lacks_sequence first.0.schema ≡ false = ap lacks_sequence schema ∙ uncounted in
      let now : new.now ≡ first.0 = ap (λ (p : Tally × Database). p.1) (same_value all.2) ∙ same_value (rw no_sequence at first.2) in
      record {
        schema = ap (λ (d : Database). d.schema) now ∙ schema;
        empty = ap (λ (d : Database). d.trees (next_tree before)) now ∙ subst (λ s. first.0.trees (next_tree s) ≡ []) has made.empty;
        sound = w.sound;
        others = subst (λ (d : Database). KeepsRows before.tables old.now.trees d.trees) (sym now) (subst (λ (s : Schema). KeepsRows s.tables old.now.trees first.0.trees) has made.others);
      }

meta_plain : (command_of (understood no_schema create_meta) ≡ CreateTable) × (statement_of create_meta (understood no_schema create_meta) ≡ create_meta) × IsPlain (understood no_schema create_meta)
unfolding understood everything
meta_plain = (refl, refl, (refl, refl))

cells_plain : (command_of (understood schema_1 create_cells) ≡ CreateTable) × (statement_of create_cells (understood schema_1 create_cells) ≡ create_cells) × IsPlain (understood schema_1 create_cells)
unfolding understood everything
cells_plain = (refl, refl, (refl, refl))

sessions_plain : (command_of (understood schema_2 create_sessions) ≡ CreateTable) × (statement_of create_sessions (understood schema_2 create_sessions) ≡ create_sessions) × IsPlain (understood schema_2 create_sessions)
unfolding understood everything
sessions_plain = (refl, refl, (refl, refl))

notices_plain : (command_of (understood schema_3 create_notices) ≡ CreateTable) × (statement_of create_notices (understood schema_3 create_notices) ≡ create_notices) × IsPlain (understood schema_3 create_notices)
unfolding understood everything
notices_plain = (refl, refl, (refl, refl))

pub makes_meta : (old new : State) (count : ℕ) → old.now.schema ≡ no_schema → Executes create_meta [] old new (Ok count) → HasMade no_schema schema_1 old.now new.now
makes_meta = makes_table create_meta no_schema schema_1 meta_table meta_plain.0 meta_plain.1 meta_plain.2 meta_defined meta_created refl

pub makes_cells : (old new : State) (count : ℕ) → old.now.schema ≡ schema_1 → Executes create_cells [] old new (Ok count) → HasMade schema_1 schema_2 old.now new.now
makes_cells = makes_table create_cells schema_1 schema_2 cells_table cells_plain.0 cells_plain.1 cells_plain.2 cells_defined cells_created refl

pub makes_sessions : (old new : State) (count : ℕ) → old.now.schema ≡ schema_2 → Executes create_sessions [] old new (Ok count) → HasMade schema_2 schema_3 old.now new.now
makes_sessions = makes_table create_sessions schema_2 schema_3 sessions_table sessions_plain.0 sessions_plain.1 sessions_plain.2 sessions_defined sessions_created refl

pub makes_notices : (old new : State) (count : ℕ) → old.now.schema ≡ schema_3 → Executes create_notices [] old new (Ok count) → HasMade schema_3 schema_4 old.now new.now
makes_notices = makes_table create_notices schema_3 schema_4 notices_table notices_plain.0 notices_plain.1 notices_plain.2 notices_defined notices_created refl
