use Rattle.std.proofs.Common.{◌≡◌, ◌≢◌, inl, inr, Option, Result, Err, sym, ap, subst, ◌∙◌}
use Rattle.std.proofs.lemmas.Option.{none-some, same_Some}
use Rattle.std.proofs.lemmas.Result.{IfErr-at_err, IfErr-weaker, err_from_is_err_and}
use Rattle.sqlite.specs.State.{HasCleanDisk}
use Rattle.sqlite.specs.Held.{state}
use Rattle.store_rows.proofs.StepLemmas.{survives_same}
use Rattle.store_tables.specs.Kept.{CommitsNothing}
use Rattle.store_tables.specs.Reads.{IsInRange}
use Rattle.store_tables.specs.declared.tables.Tables.{Tables}
use Rattle.store_tables.proofs.LookLemmas.{if_ok_from}
use Rattle.store_content.specs.declared.index.Index.{Index}
use Rattle.site_store.specs.declared.error.StoreOpenError.TheVariants.{StoreFault, Memory}
use Rattle.store_rows.specs.Rows.{Stored}
use Rattle.store_tables.specs.declared.error.TableError.{TableError}
use Rattle.store_tables.specs.Kept.{connection_of}
use Rattle.site_store.specs.declared.error.StoreOpenError.{StoreOpenError}
use Rattle.site_store.specs.SiteText.{named}
use Rattle.site_store.specs.Opened.{IsCurrent, IsDeviceCause, IsDue, IsOwn, IsReady, IsRefused, IsRefusedBlank, Readies, ReadiesBlank}
use Rattle.site_store.proofs.OpenLemmas.{beside_none, beside_some, refused, refused_blank, readies_any, settled_none, settled}
use Rattle.site_store.proofs.OwnLemmas.{any_of, any_of_either, any_of_nothing_or, device_two, either_own, fault_of, if_err_from, memory_cause, memory_is_none, none_kept, some_found, some_kept, table_cause}
use Rattle.site_store.proofs.LeftLemmas.{left_none, left_or_none, left_or_some, left_some}
use Rattle.site_store.proofs.RangeLemmas.{in_range}
use Rattle.site_store.proofs.opening.prepare.Goals as goal

abbrev error : TableError → Result (Option Stored) TableError
error e = Err e

pub returns-in-Ok-None-clause-ready : goal.returns-in-Ok-None-clause-ready
returns-in-Ok-None-clause-ready g c it keeps =
    readies_any g.S.Store (connection_of c.make_new.new.tables) (λ clean. none-some it (sym c.in-Ok-None.field-0-is ∙ c.in-Ok-None.ensures.looks.read it keeps (c.make_new.ensures.honest clean)))
    c.args.layout.now c.args.site (named c.args.group) it c.make_new.result

pub returns-clause-ready : goal.returns-clause-ready
returns-clause-ready g c it keeps =
    let conn = connection_of c.look.new.self in
    subst (λ (e : StoreOpenError). IsRefused g.S.Store c.args.layout.now c.args.site (named c.args.group) it conn e) (sym c.from.ensures)
    (refused g.S.Store conn c.args.layout.now c.args.site (named c.args.group) it c.in-Err.error
    (λ is clean content. c.in-Err.ensures.looks.own it (in_range it content) keeps clean (ap error is)) (c.in-Err.ensures.keeps.kept it keeps))

pub returns-clause-made : goal.returns-clause-made
returns-clause-made g c blank =
    let conn = connection_of c.look.new.self in
    subst (λ (e : StoreOpenError). IsRefusedBlank g.S.Store c.args.layout.now c.args.site (named c.args.group) conn e) (sym c.from.ensures)
    (refused_blank g.S.Store conn c.args.layout.now c.args.site (named c.args.group) c.in-Err.error (λ is clean. (c.in-Err.ensures.looks.blank blank clean).1 (ap error is)) (c.in-Err.ensures.keeps.bare blank))

pub returns-in-Ok-None-clause-settles : goal.returns-in-Ok-None-clause-settles
returns-in-Ok-None-clause-settles g c a b keeps =
    settled_none g.S.Store (connection_of c.make_new.new.tables) c.args.layout.now c.args.site (named c.args.group) a b _ _ _ c.make_new.ensures.honest
    c.in-Ok-None.field-0 c.in-Ok-None.field-0-is c.make_new.result (c.in-Ok-None.ensures.looks.settles a b keeps)

pub returns-in-Ok-Some-clause-settles : goal.returns-in-Ok-Some-clause-settles
returns-in-Ok-Some-clause-settles g c a b keeps =
    settled g.S.Store (connection_of c.open_found.new.tables) c.args.layout.now c.args.site (named c.args.group) a b _ _ _ c.open_found.ensures.honest
    c.in-Ok-Some.field-0 c.in-Ok-Some.content c.in-Ok-Some.field-0-is c.open_found.result (c.open_found.ensures.ready a) (c.open_found.ensures.ready b) (c.in-Ok-Some.ensures.looks.settles a b keeps)

-- ---- after a creation in doubt

pub returns-in-Ok-Some-clause-settles_or : goal.returns-in-Ok-Some-clause-settles_or
returns-in-Ok-Some-clause-settles_or g c it keeps =
    let layout = c.args.layout.now in
    let conn = connection_of c.look.new.self in
    let next = connection_of c.open_found.new.tables in
    let found = c.in-Ok-Some.ensures.looks.settles_or it keeps in
    let t = c.in-Ok-Some.field-0 in
    if_ok_from c.open_found.result (λ index is.
    let ready : HasCleanDisk (state g.S.Store next) → IsReady g.S.Store layout c.args.site (named c.args.group) it next index =
    λ clean.
    let early = c.open_found.ensures.honest clean in
    let kept = some_kept g.S.Store conn it _ early t found c.in-Ok-Some.content c.in-Ok-Some.field-0-is in
    let same = some_found g.S.Store conn it _ early t found c.in-Ok-Some.content c.in-Ok-Some.field-0-is in
    subst (λ (r : Result Index StoreOpenError). Readies g.S.Store layout c.args.site (named c.args.group) it next r) is (c.open_found.ensures.ready it kept (λ _. same)) in
    inr (record { fits = λ clean. (ready clean).fits clean; stores = λ clean. (ready clean).stores clean }))

pub returns-in-Ok-None-clause-settles_or : goal.returns-in-Ok-None-clause-settles_or
returns-in-Ok-None-clause-settles_or g c it keeps =
    let layout = c.args.layout.now in
    let found = c.in-Ok-None.ensures.looks.settles_or it keeps in
    if_ok_from c.make_new.result (λ index is. inl (λ clean.
    let blank = none_kept g.S.Store (connection_of c.look.new.self) it _ (c.make_new.ensures.honest clean) c.in-Ok-None.field-0 found c.in-Ok-None.field-0-is in
    subst (λ (r : Result Index StoreOpenError). ReadiesBlank g.S.Store layout c.args.site (named c.args.group) (connection_of c.make_new.new.tables) r) is (c.make_new.ensures.made blank) clean))

-- ---- a content of the site's own is refused by the device alone

pub returns-in-Ok-Some-clause-own : goal.returns-in-Ok-Some-clause-own
returns-in-Ok-Some-clause-own g c a b first second keeps =
    if_err_from c.open_found.result (λ e is clean.
    either_own c.args.layout.now c.args.site (named c.args.group) a b c.in-Ok-Some.content _ _ _ (c.open_found.ensures.honest clean) c.in-Ok-Some.field-0 c.in-Ok-Some.field-0-is first second
    (c.in-Ok-Some.ensures.looks.settles a b keeps) e (λ own. IfErr-at_err IsDeviceCause is (c.open_found.ensures.own own)))

pub returns-in-Ok-None-clause-own : goal.returns-in-Ok-None-clause-own
returns-in-Ok-None-clause-own g c a b first second keeps =
    IfErr-weaker c.make_new.result IsDeviceCause _ (λ e cause clean. cause) c.make_new.ensures.device

pub returns-clause-own : goal.returns-clause-own
returns-clause-own g c a b first second keeps = λ clean.
    subst IsDeviceCause (sym c.from.ensures)
    (table_cause c.in-Err.error (λ is. c.in-Err.ensures.looks.good (any_of_either g.S.Store (connection_of c.args.tables.now) IsInRange a b (in_range a first.content) (in_range b second.content) keeps) clean (ap error is)))

pub returns-in-Ok-Some-clause-own_or : goal.returns-in-Ok-Some-clause-own_or
returns-in-Ok-Some-clause-own_or g c it own keeps =
    if_err_from c.open_found.result (λ e is clean.
    let same = some_found g.S.Store (connection_of c.look.new.self) it _ (c.open_found.ensures.honest clean) c.in-Ok-Some.field-0 (c.in-Ok-Some.ensures.looks.settles_or it keeps) c.in-Ok-Some.content c.in-Ok-Some.field-0-is in
    IfErr-at_err IsDeviceCause is (c.open_found.ensures.own (subst (IsOwn c.args.layout.now c.args.site (named c.args.group)) (sym same) own)))

pub returns-in-Ok-None-clause-own_or : goal.returns-in-Ok-None-clause-own_or
returns-in-Ok-None-clause-own_or g c it own keeps =
    IfErr-weaker c.make_new.result IsDeviceCause _ (λ e cause clean. cause) c.make_new.ensures.device

pub returns-clause-own_or : goal.returns-clause-own_or
returns-clause-own_or g c it own keeps = λ clean.
    subst IsDeviceCause (sym c.from.ensures)
    (table_cause c.in-Err.error
    (λ is. c.in-Err.ensures.looks.good (any_of_nothing_or g.S.Store (connection_of c.args.tables.now) IsInRange it (in_range it own.content) keeps) clean (ap error is)))

-- ---- what a refusal leaves

pub returns-in-Ok-Some-clause-left : goal.returns-in-Ok-Some-clause-left
returns-in-Ok-Some-clause-left g c a b keeps =
    if_err_from c.open_found.result (λ e is.
    left_some g.S.Store (connection_of c.open_found.new.tables) c.args.layout.now c.args.site (named c.args.group) c.open_found.result e is a b _ _ _ c.in-Ok-Some.field-0
    (c.in-Ok-Some.ensures.looks.settles a b keeps) c.in-Ok-Some.content c.in-Ok-Some.field-0-is (c.open_found.ensures.ready a) (c.open_found.ensures.ready b))

pub returns-in-Ok-None-clause-left : goal.returns-in-Ok-None-clause-left
returns-in-Ok-None-clause-left g c a b keeps =
    if_err_from c.make_new.result (λ e is.
    left_none g.S.Store (connection_of c.make_new.new.tables) c.args.layout.now c.args.site (named c.args.group) c.make_new.result e is a b _ _ _ c.in-Ok-None.field-0
    (c.in-Ok-None.ensures.looks.settles a b keeps) c.in-Ok-None.field-0-is c.make_new.ensures.honest)

pub returns-clause-left : goal.returns-clause-left
returns-clause-left g c a b keeps = ∣ inl (c.in-Err.ensures.keeps.either a b keeps) ∣₁

pub returns-in-Ok-Some-clause-left_or : goal.returns-in-Ok-Some-clause-left_or
returns-in-Ok-Some-clause-left_or g c it keeps =
    if_err_from c.open_found.result (λ e is.
    left_or_some g.S.Store (connection_of c.open_found.new.tables) c.args.layout.now c.args.site (named c.args.group) c.open_found.result e is it _ _ _ c.in-Ok-Some.field-0
    (c.in-Ok-Some.ensures.looks.settles_or it keeps) c.open_found.ensures.honest c.in-Ok-Some.content c.in-Ok-Some.field-0-is (c.open_found.ensures.ready it))

pub returns-in-Ok-None-clause-left_or : goal.returns-in-Ok-None-clause-left_or
returns-in-Ok-None-clause-left_or g c it keeps =
    if_err_from c.make_new.result (λ e is.
    left_or_none g.S.Store (connection_of c.make_new.new.tables) c.args.layout.now c.args.site (named c.args.group) c.make_new.result e is it _ _ _ c.in-Ok-None.field-0
    (c.in-Ok-None.ensures.looks.settles_or it keeps) c.make_new.ensures.honest c.in-Ok-None.field-0-is c.make_new.ensures.made)

pub returns-clause-left_or : goal.returns-clause-left_or
returns-clause-left_or g c it keeps = ∣ inl (c.in-Err.ensures.keeps.bare_or it keeps) ∣₁

-- ---- when a fault comes

pub returns-in-Ok-Some-clause-fault : goal.returns-in-Ok-Some-clause-fault
returns-in-Ok-Some-clause-fault g c sound it keeps =
    if_err_from c.open_found.result (λ e is fault clean.
    let early = c.open_found.ensures.honest clean in
    let same = same_Some c.in-Ok-Some.content it (sym c.in-Ok-Some.field-0-is ∙ c.in-Ok-Some.ensures.looks.read it keeps early) in
    inr (subst (IsDue c.args.layout.now c.args.site (named c.args.group)) same
    (IfErr-at_err (λ x. x ≡ StoreFault → IsDue c.args.layout.now c.args.site (named c.args.group) c.in-Ok-Some.content) is c.open_found.ensures.due fault)))

pub returns-in-Ok-None-clause-fault : goal.returns-in-Ok-None-clause-fault
returns-in-Ok-None-clause-fault g c sound it keeps =
    if_err_from c.make_new.result (λ e is fault clean.
    absurd (none-some it (sym c.in-Ok-None.field-0-is ∙ c.in-Ok-None.ensures.looks.read it keeps (c.make_new.ensures.honest clean))))

pub returns-clause-fault : goal.returns-clause-fault
returns-clause-fault g c sound it keeps = λ fault clean.
    inl ((c.in-Err.ensures.refused sound).any (any_of g.S.Store (connection_of c.args.tables.now) (λ _. Unit {0}) it tt keeps) clean (ap error (fault_of c.in-Err.error (sym c.from.ensures ∙ fault))))

-- ---- what is committed

pub returns-in-Ok-Some-clause-judged : goal.returns-in-Ok-Some-clause-judged
returns-in-Ok-Some-clause-judged g c =
    if_err_from c.open_found.result (λ e is other room.
    let same = IfErr-at_err (λ x. x ≢ StoreFault → x ≢ Memory → c.open_found.new.tables ≡ c.look.new.self) is c.open_found.ensures.judged other room in
    subst (λ (t : Tables g.row.S.Denot g.S.Store). CommitsNothing c.args.tables.now t) (sym same) c.in-Ok-Some.ensures.looks.unwritten)

pub returns-in-Ok-None-clause-judged : goal.returns-in-Ok-None-clause-judged
returns-in-Ok-None-clause-judged g c =
    if_err_from c.make_new.result (λ e is other room. absurd (device_two e (IfErr-at_err IsDeviceCause is c.make_new.ensures.device) other room))

pub returns-in-Ok-Some-clause-current : goal.returns-in-Ok-Some-clause-current
returns-in-Ok-Some-clause-current g c it current keeps clean =
    let early = c.open_found.ensures.honest clean in
    let found = same_Some c.in-Ok-Some.content it (sym c.in-Ok-Some.field-0-is ∙ c.in-Ok-Some.ensures.looks.read it keeps early) in
    let same = c.open_found.ensures.current (subst (IsCurrent c.args.layout.now) (sym found) current) in
    subst (λ (t : Tables g.row.S.Denot g.S.Store). CommitsNothing c.args.tables.now t) (sym same) c.in-Ok-Some.ensures.looks.unwritten

pub returns-in-Ok-None-clause-current : goal.returns-in-Ok-None-clause-current
returns-in-Ok-None-clause-current g c it current keeps clean =
    absurd (none-some it (sym c.in-Ok-None.field-0-is ∙ c.in-Ok-None.ensures.looks.read it keeps (c.make_new.ensures.honest clean)))

-- ---- there was no memory for the line

pub returns-in_err-line-clause-own : goal.returns-in_err-line-clause-own
returns-in_err-line-clause-own g c a b first second keeps =
    let p = err_from_is_err_and c.from_residual.result c.from_residual.ensures.1 in
    rw p.1 (λ clean. memory_cause p.0 p.2)

pub returns-in_err-line-clause-own_or : goal.returns-in_err-line-clause-own_or
returns-in_err-line-clause-own_or g c it own keeps =
    let p = err_from_is_err_and c.from_residual.result c.from_residual.ensures.1 in
    rw p.1 (λ clean. memory_cause p.0 p.2)

pub returns-in_err-line-clause-left : goal.returns-in_err-line-clause-left
returns-in_err-line-clause-left g c a b keeps =
    let p = err_from_is_err_and c.from_residual.result c.from_residual.ensures.1 in
    rw p.1 (∣ inl keeps ∣₁)

pub returns-in_err-line-clause-left_or : goal.returns-in_err-line-clause-left_or
returns-in_err-line-clause-left_or g c it keeps =
    let p = err_from_is_err_and c.from_residual.result c.from_residual.ensures.1 in
    rw p.1 (∣ inl keeps ∣₁)

pub returns-in_err-line-clause-fault : goal.returns-in_err-line-clause-fault
returns-in_err-line-clause-fault g c sound it keeps =
    let p = err_from_is_err_and c.from_residual.result c.from_residual.ensures.1 in
    rw p.1 (λ fault clean. absurd (memory_is_none (sym p.2 ∙ fault)))

pub returns-in_err-line-clause-judged : goal.returns-in_err-line-clause-judged
returns-in_err-line-clause-judged g c =
    let p = err_from_is_err_and c.from_residual.result c.from_residual.ensures.1 in
    rw p.1 (λ other room. absurd (room p.2))

pub returns-in_err-line-clause-current : goal.returns-in_err-line-clause-current
returns-in_err-line-clause-current g c it current keeps clean = survives_same _

-- ---- the other tables

pub returns-in-Ok-Some-clause-beside : goal.returns-in-Ok-Some-clause-beside
returns-in-Ok-Some-clause-beside g c a b others keeps beside =
    let still = c.in-Ok-Some.ensures.keeps.beside others beside in
    beside_some g.S.Store (connection_of c.open_found.new.tables) a b _ _ _ others c.open_found.ensures.honest c.in-Ok-Some.field-0 c.in-Ok-Some.content c.in-Ok-Some.field-0-is
    (λ kept same. c.open_found.ensures.beside a others kept same still) (λ kept same. c.open_found.ensures.beside b others kept same still) (c.in-Ok-Some.ensures.looks.settles a b keeps)

pub returns-in-Ok-None-clause-beside : goal.returns-in-Ok-None-clause-beside
returns-in-Ok-None-clause-beside g c a b others keeps beside =
    beside_none g.S.Store (connection_of c.make_new.new.tables) a b _ _ _ others c.make_new.ensures.honest c.in-Ok-None.field-0 c.in-Ok-None.field-0-is (c.in-Ok-None.ensures.looks.settles a b keeps)
