-- Making and renewing a store, step by step.
use Rattle.std.proofs.Common.{◌≡◌, ℕ, List, [], codes, refl, sym, ap, subst, ◌∙◌}
use Rattle.sqlite_value.specs.Order.{Row}
use Rattle.sqlite.specs.Effect.{Database}
use Rattle.store_schema.specs.declared.Version.{Version}
use Rattle.store_schema.specs.declared.Version.TheVariants.{First, Second}
use Rattle.store_schema.specs.Tables.{AreBehind, IsSchemaOf, behind, others_in, no_schema, schema_1, schema_2, schema_3, schema_4}
use Rattle.store_rows.specs.Rows.{cell_row, session_row, notice_row, version_text}
use Rattle.store_rows.specs.Changes.{renewed}
use Rattle.store_rows.specs.Holding.{HoldsRows, HoldsNotices, IsStoreOf, parts_of, mark}
use Rattle.sqlite_catalog.specs.Change.{KeepsRows}
use Rattle.store_rows.specs.declared.content.StoredCell.{StoredCell}
use Rattle.store_rows.specs.declared.content.StoredNotice.{StoredNotice}
use Rattle.store_rows.specs.Steps.{Makes, Brings, Any, SparesBeside, with_cells, with_mark, with_notices}
use Rattle.store_rows.proofs.BesideLemmas.{spares_same, spares_then}
use Rattle.store_tables.specs.Transacts.{Turns, Upgrades, BecomesEmpty, BecomesFilled, BecomesStore, made, no_parts, with_site}

no_rows : {X : Type 0} (row : X → Row) (rows : List Row) → rows ≡ [] → HoldsRows row [] rows
no_rows row rows none = rw none (record { keyed = tt; numbered = tt; sound = λ r h. absurd h; complete = λ x h. absurd h })

none_behind : AreBehind no_schema
none_behind = record { trees = tt; indexes = tt; references = tt }

pub all_made : (a b c d e : Database) → Makes no_schema schema_1 a b → Makes schema_1 schema_2 b c → Makes schema_2 schema_3 c d → Makes schema_3 schema_4 d e → BecomesEmpty a e
all_made a b c d e one two three four has =
    let w = one has in
    let x = two w.schema in
    let y = three x.schema in
    let z = four y.schema in
    let meta : e.trees 0 ≡ [] = z.others.0 ∙ y.others.0 ∙ x.others.0 ∙ w.empty in
    let cells : e.trees 2 ≡ [] = z.others.1.0 ∙ y.others.1.0 ∙ x.empty in
    let sessions : e.trees 4 ≡ [] = z.others.1.1.0 ∙ y.empty in
    record {
      schema = z.schema ∙ ap (behind schema_4) (sym (ap others_in z.schema));
      apart = subst AreBehind (sym (ap others_in z.schema)) none_behind;
      sound = z.sound;
      rows = rw meta tt;
      numbered = rw meta tt;
      marks = tt;
      cells = no_rows cell_row (e.trees 2) cells;
      sessions = no_rows session_row (e.trees 4) sessions;
      notices = no_rows notice_row (e.trees 7) z.empty;
      cells_rise = tt;
      sessions_rise = tt;
      notices_rise = tt;
    }

pub empty_then : (a b c : Database) (site layout : List ℕ) → BecomesEmpty a b
    → Brings Any (λ p. with_mark (mark (codes "layout") layout) (with_mark (mark (codes "site") site) (with_mark (mark (codes "version") (version_text Second)) p))) b c → BecomesStore site layout a c
empty_then a b c site layout one next has = (next no_parts refl tt (one has)).0

pub upgrade_then : (a b c : Database) (version : Version) (layout : List ℕ) → Upgrades version a b → Brings Any (with_mark (mark (codes "layout") layout)) b c → Turns (λ it. it.version ≡ version) (renewed layout) a c
upgrade_then a b c version layout one next it fits h =
    let first = one it fits h in
    let last = next (parts_of (record it { version = Second })) refl tt first.0 in
    (last.0, spares_then a b c first.1 last.1)

-- a store of the first version gets the table of notices and then the mark of the second
pub first_upgraded : (a b c : Database) → Makes schema_3 schema_4 a b → Brings Any (with_mark (mark (codes "version") (version_text Second))) b c → Upgrades First a c
first_upgraded a b c one next it fits h =
    let own : a.schema ≡ schema_3 = subst (λ v. IsSchemaOf v a.schema) fits h.schema in
    let w = one own in
    let none : it.notices ≡ [] = subst (λ v. HoldsNotices v it.notices (a.trees 7)) fits h.notices in
    let spares : SparesBeside a b = record {
      schema = ap others_in w.schema ∙ sym (ap others_in own);
      rows = subst (λ s. KeepsRows s.tables a.trees b.trees) (sym (ap others_in own)) tt;
    } in
    let last = next (record (parts_of it) { tables = Second }) refl tt (record {
      schema = w.schema ∙ ap (behind schema_4) (sym (ap others_in w.schema));
      apart = subst AreBehind (sym (ap others_in w.schema)) none_behind;
      sound = w.sound;
      rows = rw w.others.0 h.rows;
      numbered = rw w.others.0 h.numbered;
      marks = rw w.others.0 h.marks;
      cells = subst (HoldsRows cell_row it.cells) (sym w.others.1.0) h.cells;
      sessions = subst (HoldsRows session_row it.sessions) (sym w.others.1.1.0) h.sessions;
      notices = subst (λ ns. HoldsRows notice_row ns (b.trees 7)) (sym none) (no_rows notice_row (b.trees 7) w.empty);
      cells_rise = h.cells_rise;
      sessions_rise = h.sessions_rise;
      notices_rise = h.notices_rise;
    }) in
    (last.0, spares_then a b c spares last.1)

pub second_stays : (a : Database) → Upgrades Second a a
second_stays a it fits h = (subst (λ v. IsStoreOf a (record it { version = v })) fits h, spares_same a)

-- the row for the site is one of a store's marks
pub site_set : (a b : Database) (site : List ℕ) → Brings Any (with_mark (mark (codes "site") site)) a b → Turns (λ it. it.version ≡ Second) (with_site site) a b
site_set a b site next it fits h = next (parts_of it) fits tt h

-- counters and notices are set in a new store
pub filled_then : (a b c d : Database) (site layout : List ℕ) (cells : List StoredCell) (notices : List StoredNotice) → BecomesStore site layout a b → Brings Any (with_cells cells) b c
    → Brings Any (with_notices notices) c d → BecomesFilled site layout cells notices a d
filled_then a b c d site layout cells notices one next last has =
    let first = one has in
    let second = next (parts_of (made site layout)) refl tt first in
    (last (with_cells cells (parts_of (made site layout))) refl tt second.0).0
