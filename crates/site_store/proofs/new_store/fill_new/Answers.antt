use Rattle.std.proofs.Common.{◌∙◌, ◌<◌, ap₂, List, Option, Result, Err, refl, sym, ap, subst}
use Rattle.std.specs.Prelude.{All, ◌^◌}
use Rattle.store_rows.specs.declared.content.StoredCell.{StoredCell}
use Rattle.store_rows.specs.declared.content.StoredNotice.{StoredNotice}
use Rattle.layout_line.specs.Line.{line_of}
use Rattle.store_rows.specs.Rows.{Stored}
use Rattle.store_rows.specs.Holding.{Keeps, KeepsNothingOr}
use Rattle.store_tables.specs.declared.error.TableError.{TableError}
use Rattle.store_tables.specs.Kept.{connection_of}
use Rattle.store_tables.specs.Transacts.{filled, made}
use Rattle.store_content.specs.Plan.{IsPlan, IsPlanned, IsTellable, RowsState}
use Rattle.site_store.specs.declared.error.ServedError.{ServedError}
use Rattle.site_store.specs.Making.{IsLeftNew}
use Rattle.site_store.specs.Served.{IsDevice}
use Rattle.site_store.specs.SiteText.{named, site_text}
use Rattle.site_store.proofs.NewLemmas.{filled_is, left_new, refused_new, small_rows}
use Rattle.site_store.proofs.ServedLemmas.{table_device}
use Rattle.site_store.proofs.new_store.fill_new.Goals as goal

abbrev error : TableError → Result (Unit {0}) TableError
error e = Err e

pub returns-in_default-clause-left : goal.returns-in_default-clause-left
returns-in_default-clause-left g c keeps = left_new c.args.layout.now c.args.site (named c.args.group) c.args.cells.items g.S.Store (connection_of c.args.tables.now) _ keeps

pub returns-in_default-site_text-clause-left : goal.returns-in_default-site_text-clause-left
returns-in_default-site_text-clause-left g c keeps = left_new c.args.layout.now c.args.site (named c.args.group) c.args.cells.items g.S.Store (connection_of c.args.tables.now) _ keeps

pub returns-in_default-plan-clause-left : goal.returns-in_default-plan-clause-left
returns-in_default-plan-clause-left g c keeps = left_new c.args.layout.now c.args.site (named c.args.group) c.args.cells.items g.S.Store (connection_of c.args.tables.now) _ keeps

pub returns-in_default-planned-clause-left : goal.returns-in_default-planned-clause-left
returns-in_default-planned-clause-left g c keeps = left_new c.args.layout.now c.args.site (named c.args.group) c.args.cells.items g.S.Store (connection_of c.args.tables.now) _ keeps

pub make_filled-requires : goal.make_filled-requires
make_filled-requires g c =
    let it = made (site_text c.args.site (named c.args.group)) (line_of c.args.layout.now) in
    let tell = subst IsTellable (sym c.new-change.ensures) c.requires in
    let plan : IsPlan c.new-change.result it c.in-Some.rows =
    subst (λ (o : Option RowsState). IsPlanned c.new-change.result it o) c.in-Some.is (c.in-Ok-plan.ensures.rows it (c.new-index.ensures it refl refl) tell) in
    let law = small_rows c.args.layout.now c.args.site (named c.args.group) c.args.cells.items c.new-change.result c.in-Some.rows c.new-change.ensures c.requires plan in
    record {
      cells = subst (λ (xs : List StoredCell). All (λ x. x.n < 2 ^ 63) xs) (sym (c.deref.ensures.value ∙ ap (λ (r : RowsState). r.cells) c.rows.view_is)) law.cells;
      notices = subst (λ (xs : List StoredNotice). All (λ n. (n.announced < 2 ^ 63) × (n.finished < 2 ^ 63)) xs) (sym (c.deref-2.ensures.value ∙ ap (λ (r : RowsState). r.notices) c.rows.view_is)) law.notices;
    }

pub returns-in-Ok-make_filled-clause-made : goal.returns-in-Ok-make_filled-clause-made
returns-in-Ok-make_filled-clause-made g c keeps =
    let it = made (site_text c.args.site (named c.args.group)) (line_of c.args.layout.now) in
    let tell = subst IsTellable (sym c.new-change.ensures) c.requires in
    let plan : IsPlan c.new-change.result it c.in-Some.rows =
    subst (λ (o : Option RowsState). IsPlanned c.new-change.result it o) c.in-Some.is (c.in-Ok-plan.ensures.rows it (c.new-index.ensures it refl refl) tell) in
    let same = ap₂ (λ (cs : List StoredCell) (ns : List StoredNotice). filled c.as_str.result.now c.as_str-2.result.now cs ns) (c.deref.ensures.value ∙ ap (λ (r : RowsState). r.cells) c.rows.view_is) (c.deref-2.ensures.value ∙ ap (λ (r : RowsState). r.notices) c.rows.view_is)
    ∙ filled_is c.args.layout.now c.args.site (named c.args.group) c.args.cells.items c.new-change.result c.in-Some.rows c.as_str.result.now c.as_str-2.result.now
    c.new-change.ensures plan (c.as_str.ensures.value ∙ c.in-Ok-site_text.ensures) (c.as_str-2.ensures.value ∙ c.in-Ok.ensures) in
    subst (λ (x : Stored). Keeps g.S.Store (connection_of c.make_filled.new.self) x) same (c.in-Ok-make_filled.ensures.ok keeps)

pub returns-clause-left : goal.returns-clause-left
returns-clause-left g c keeps =
    let it = made (site_text c.args.site (named c.args.group)) (line_of c.args.layout.now) in
    let tell = subst IsTellable (sym c.new-change.ensures) c.requires in
    let plan : IsPlan c.new-change.result it c.in-Some.rows =
    subst (λ (o : Option RowsState). IsPlanned c.new-change.result it o) c.in-Some.is (c.in-Ok-plan.ensures.rows it (c.new-index.ensures it refl refl) tell) in
    let same = ap₂ (λ (cs : List StoredCell) (ns : List StoredNotice). filled c.as_str.result.now c.as_str-2.result.now cs ns) (c.deref.ensures.value ∙ ap (λ (r : RowsState). r.cells) c.rows.view_is) (c.deref-2.ensures.value ∙ ap (λ (r : RowsState). r.notices) c.rows.view_is)
    ∙ filled_is c.args.layout.now c.args.site (named c.args.group) c.args.cells.items c.new-change.result c.in-Some.rows c.as_str.result.now c.as_str-2.result.now
    c.new-change.ensures plan (c.as_str.ensures.value ∙ c.in-Ok-site_text.ensures) (c.as_str-2.ensures.value ∙ c.in-Ok.ensures) in
    subst (λ (e : ServedError). IsLeftNew g.S.Store c.args.layout.now c.args.site (named c.args.group) c.args.cells.items (connection_of c.make_filled.new.self) e) (sym c.from.ensures)
    (refused_new c.args.layout.now c.args.site (named c.args.group) c.args.cells.items g.S.Store (connection_of c.make_filled.new.self) c.in-Err.error
    (λ is. c.in-Err.ensures.kind (ap error is)) (λ is. c.in-Err.ensures.memory keeps (ap error is))
    (λ is. subst (λ (x : Stored). KeepsNothingOr g.S.Store (connection_of c.make_filled.new.self) x) same (c.in-Err.ensures.either keeps (ap error is))))

pub returns-clause-device : goal.returns-clause-device
returns-clause-device g c = subst IsDevice (sym c.from.ensures) (table_device c.in-Err.error (λ is. c.in-Err.ensures.kind (ap error is)))
