use Rattle.std.proofs.Common.{◌≡◌, ◌⊎◌, List, ℕ, Result, Err, refl, sym, ap, subst, ◌∙◌, arith, false}
use Rattle.std.proofs.lemmas.Result.{err_from_is_err_and}
use Rattle.layout_line.specs.declared.Line.{Line}
use Rattle.layout_line.specs.Line.{line_of, IsLine}
use Rattle.sqlite.specs.State.{HasCleanDisk}
use Rattle.sqlite.specs.Held.{state}
use Rattle.store_schema.specs.declared.Version.TheVariants.{Second}
use Rattle.store_rows.specs.Rows.{Stored}
use Rattle.store_rows.specs.Changes.{renewed}
use Rattle.store_rows.specs.Holding.{Holds, HoldsBeside, Keeps, KeepsEither}
use Rattle.store_tables.specs.Kept.{connection_of}
use Rattle.store_tables.specs.declared.error.TableError.{TableError}
use Rattle.site_store.specs.SiteText.{named}
use Rattle.site_store.specs.Opened.{IsDeviceCause, IsRefused}
use Rattle.site_store.proofs.OpenLemmas.{as_renewed, if_honest, is_ready, refused_renewal}
use Rattle.site_store.proofs.OwnLemmas.{device_two, own_cause, same_line, table_cause}
use Rattle.site_store.proofs.opening.open_found.Goals as goal

abbrev error : TableError → Result (Unit {0}) TableError
error e = Err e

pub returns-then-not-is_due-clause-ready : goal.returns-then-not-is_due-clause-ready
returns-then-not-is_due-clause-ready g c it keeps found =
    let judged = c.in_ok-index.ensures in
    let layout = c.args.layout.now in
    let conn = connection_of c.args.tables.now in
    let off : c.is_due.result ≡ false = grind (arith, c.if-not-is_due.true) in
    let due = c.is_due.ensures.0 off in
    let version : c.args.content.now.version ≡ Second = grind (arith, c.content.view_is, due.1) in
    let line : c.args.content.now.layout ≡ line_of layout = subst (λ (l : Line). IsLine layout c.args.site c.args.content.now.layout l) due.0 judged.1.1 in
    is_ready g.S.Store conn layout c.args.site (named c.args.group) it c.args.content.now c.in_ok-index.index found judged.0 judged.1.0
    (λ clean. let e = found clean in
    subst (λ (s : Stored). Keeps g.S.Store conn s) (sym (as_renewed (line_of layout) it (ap (λ (s : Stored). s.version) (sym e) ∙ version) (ap (λ (s : Stored). s.layout) (sym e) ∙ line))) keeps)

pub returns-clause-ready : goal.returns-clause-ready
returns-clause-ready g c it keeps found =
    let judged = c.in_ok-index.ensures in
    let layout = c.args.layout.now in
    let old = connection_of c.args.tables.now in
    let conn = connection_of c.renew.new.self in
    let version : c.content.inside.version ≡ c.args.content.now.version = grind (arith, c.content.view_is) in
    is_ready g.S.Store conn layout c.args.site (named c.args.group) it c.args.content.now c.in_ok-index.index (λ clean. found (c.renew.ensures.stops.honest clean)) judged.0 judged.1.0
    (λ clean. let e = found (c.renew.ensures.stops.honest clean) in
    subst (λ (t : List ℕ). Keeps g.S.Store conn (renewed t it)) c.requires (c.in_ok-renew.ensures.ok it (ap (λ (s : Stored). s.version) (sym e) ∙ sym version) keeps))

-- ---- refusals

pub returns-in_err-index-clause-own : goal.returns-in_err-index-clause-own
returns-in_err-index-clause-own g c own =
    let p = err_from_is_err_and c.from_residual.result c.from_residual.ensures.1 in
    rw p.1 (subst IsDeviceCause (sym p.2) (own_cause c.args.layout.now c.args.site (named c.args.group) c.args.content.now _ own c.in_err-index.ensures.0))

pub returns-in_err-renew-clause-own : goal.returns-in_err-renew-clause-own
returns-in_err-renew-clause-own g c own =
    let p = err_from_is_err_and c.from_residual-in_err-renew.result c.from_residual-in_err-renew.ensures.1 in
    rw p.1 (subst IsDeviceCause (sym p.2) (table_cause _ (λ is. c.in_err-renew.ensures.kind (ap error is))))

pub returns-in_err-renew-clause-ready : goal.returns-in_err-renew-clause-ready
returns-in_err-renew-clause-ready g c it keeps found =
    let p = err_from_is_err_and c.from_residual-in_err-renew.result c.from_residual-in_err-renew.ensures.1 in
    let layout = c.args.layout.now in
    let conn = connection_of c.renew.new.self in
    let line = line_of layout in
    let version : c.content.inside.version ≡ c.args.content.now.version = grind (arith, c.content.view_is) in
    let old : HasCleanDisk (state g.S.Store conn) → it.version ≡ c.content.inside.version =
    λ clean. ap (λ (s : Stored). s.version) (sym (found (c.renew.ensures.stops.honest clean))) ∙ sym version in
    rw p.1 (subst (IsRefused g.S.Store layout c.args.site (named c.args.group) it conn) (sym p.2) (refused_renewal g.S.Store conn layout c.args.site (named c.args.group) it _
    (λ is. c.in_err-renew.ensures.kind (ap error is))
    (λ is. if_honest g.S.Store conn (Holds it) (λ clean. c.in_err-renew.ensures.memory it (old clean) keeps (ap error is)))
    (λ is. if_honest g.S.Store conn (λ db. Holds it db ⊎ Holds (renewed line it) db)
    (λ clean. subst (λ (t : List ℕ). KeepsEither g.S.Store conn it (renewed t it)) c.requires (c.in_err-renew.ensures.either it (old clean) keeps (ap error is))))))

pub returns-in_err-index-clause-due : goal.returns-in_err-index-clause-due
returns-in_err-index-clause-due g c =
    let p = err_from_is_err_and c.from_residual.result c.from_residual.ensures.1 in
    rw p.1 (λ fault. absurd (c.in_err-index.ensures.1 (sym p.2 ∙ fault)))

pub returns-in_err-renew-clause-due : goal.returns-in_err-renew-clause-due
returns-in_err-renew-clause-due g c =
    let p = err_from_is_err_and c.from_residual-in_err-renew.result c.from_residual-in_err-renew.ensures.1 in
    rw p.1 (λ fault. (
      c.in_ok-index.ensures.0,
      λ current.
          let found = same_line c.args.layout.now c.args.site c.args.content.now.layout _ c.sites.ensures.layout.few_sites current.its_line c.in_ok-index.ensures.1.1 in
          let off : c.is_due.result ≡ false = c.is_due.ensures.1 (found, grind (arith, c.content.view_is, current.second)) in
          grind (arith, off, c.if-not-is_due.false),
    ))

pub returns-in_err-index-clause-judged : goal.returns-in_err-index-clause-judged
returns-in_err-index-clause-judged g c =
    let p = err_from_is_err_and c.from_residual.result c.from_residual.ensures.1 in
    rw p.1 (λ other room. refl)

pub returns-in_err-renew-clause-judged : goal.returns-in_err-renew-clause-judged
returns-in_err-renew-clause-judged g c =
    let p = err_from_is_err_and c.from_residual-in_err-renew.result c.from_residual-in_err-renew.ensures.1 in
    rw p.1 (λ other room. absurd (device_two p.0 (subst IsDeviceCause (sym p.2) (table_cause _ (λ is. c.in_err-renew.ensures.kind (ap error is)))) other room))

-- ---- nothing is due

pub returns-in_err-renew-clause-current : goal.returns-in_err-renew-clause-current
returns-in_err-renew-clause-current g c current =
    let found = same_line c.args.layout.now c.args.site c.args.content.now.layout _ c.sites.ensures.layout.few_sites current.its_line c.in_ok-index.ensures.1.1 in
    let off : c.is_due.result ≡ false = c.is_due.ensures.1 (found, grind (arith, c.content.view_is, current.second)) in
    absurd (grind (arith, off, c.if-not-is_due.false))

pub returns-clause-current : goal.returns-clause-current
returns-clause-current g c current =
    let found = same_line c.args.layout.now c.args.site c.args.content.now.layout _ c.sites.ensures.layout.few_sites current.its_line c.in_ok-index.ensures.1.1 in
    let off : c.is_due.result ≡ false = c.is_due.ensures.1 (found, grind (arith, c.content.view_is, current.second)) in
    absurd (grind (arith, off, c.if-not-is_due.false))

-- ---- the other tables

pub returns-in_err-renew-clause-beside : goal.returns-in_err-renew-clause-beside
returns-in_err-renew-clause-beside g c it others keeps found beside =
    let version : c.content.inside.version ≡ c.args.content.now.version = grind (arith, c.content.view_is) in
    if_honest g.S.Store (connection_of c.renew.new.self) (HoldsBeside others)
    (λ clean. let e = found (c.renew.ensures.stops.honest clean) in c.renew.ensures.beside it others (ap (λ (s : Stored). s.version) (sym e) ∙ sym version) keeps beside)

pub returns-clause-beside : goal.returns-clause-beside
returns-clause-beside g c it others keeps found beside =
    let version : c.content.inside.version ≡ c.args.content.now.version = grind (arith, c.content.view_is) in
    if_honest g.S.Store (connection_of c.renew.new.self) (HoldsBeside others)
    (λ clean. let e = found (c.renew.ensures.stops.honest clean) in c.renew.ensures.beside it others (ap (λ (s : Stored). s.version) (sym e) ∙ sym version) keeps beside)
