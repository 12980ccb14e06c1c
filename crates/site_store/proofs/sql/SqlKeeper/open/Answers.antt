use Rattle.std.proofs.Common.{◌⊎◌, inl, inr, refl, ap, sym, subst}
use Rattle.std.proofs.Math.Logic.{∥∥₁_map}
use Rattle.sqlite.specs.State.{HasCleanDisk}
use Rattle.sqlite.specs.Held.{Held, state}
use Rattle.layout_line.specs.Line.{line_of}
use Rattle.store_rows.specs.Rows.{Stored}
use Rattle.store_rows.specs.Holding.{Keeps, KeepsBeside, KeepsEither, KeepsNothingOr}
use Rattle.store_rows.specs.Changes.{renewed}
use Rattle.store_tables.specs.Kept.{connection_of}
use Rattle.store_tables.specs.Transacts.{made}
use Rattle.site_store.specs.SiteText.{named, site_text}
use Rattle.site_store.specs.Opened.{CommitsNothing, IsDue, IsLeftEither, IsLeftOr, IsReady, IsRefusal}
use Rattle.store_rows.proofs.StepLemmas.{survives_same}
use Rattle.site_store.proofs.OpenLemmas.{stored_again}
use Rattle.site_store.proofs.OwnLemmas.{memory_is_none}
use Rattle.site_store.proofs.sql.SqlKeeper.open.Goals as goal

pub returns-in-Ok-prepare-clause-store : goal.returns-in-Ok-prepare-clause-store
returns-in-Ok-prepare-clause-store g c it keeps =
    let next = renewed (line_of c.args.layout.now) it in
    let row = site_text c.args.site (named c.args.group) in
    let same_row = ap (site_text c.args.site) c.in-Ok-copied_group.ensures in
    let again = λ (it : Stored). stored_again g.S.Store (connection_of c.prepare.new.tables) c.args.layout.now _ row _ c.in-Ok-prepare.index it c.in-Ok.ensures same_row in
    let ready = c.in-Ok-prepare.ensures.ready it (subst (λ (h : Held g.row.S.Denot). Keeps g.S.Store h it) (sym c.over-tables.ensures.connection) keeps) in (
      ready.fits,
      λ honest. (next, (again next (ready.stores honest), refl)),
    )

pub returns-in-Ok-prepare-clause-settles : goal.returns-in-Ok-prepare-clause-settles
returns-in-Ok-prepare-clause-settles g c a b keeps =
    let line = line_of c.args.layout.now in
    let Ready : Stored → Type 0 = λ it. IsReady g.S.Store c.args.layout.now c.args.site (named c.args.group) it (connection_of c.prepare.new.tables) c.in-Ok-prepare.index in
    let row = site_text c.args.site (named c.args.group) in
    let same_row = ap (site_text c.args.site) c.in-Ok-copied_group.ensures in
    let again = λ (it : Stored). stored_again g.S.Store (connection_of c.prepare.new.tables) c.args.layout.now _ row _ c.in-Ok-prepare.index it c.in-Ok.ensures same_row in
    let settled = c.in-Ok-prepare.ensures.settles a b (subst (λ (h : Held g.row.S.Denot). KeepsEither g.S.Store h a b) (sym c.over-tables.ensures.connection) keeps) in
    ∥∥₁_map {A = Ready a ⊎ Ready b} settled (λ f. elim f [
      | inl ready ↦ inl (λ honest. (renewed line a, (again (renewed line a) (ready.stores honest), refl)))
      | inr ready ↦ inr (λ honest. (renewed line b, (again (renewed line b) (ready.stores honest), refl)))
    ])

pub returns-in-Ok-prepare-clause-honest : goal.returns-in-Ok-prepare-clause-honest
returns-in-Ok-prepare-clause-honest g c honest =
    subst (λ (h : Held g.row.S.Denot). HasCleanDisk (state g.S.Store h)) c.over-tables.ensures.connection (c.in-Ok-prepare.ensures.honest honest)

-- ---- after a creation in doubt, and refusals by the device

pub returns-in-Ok-prepare-clause-settles_or : goal.returns-in-Ok-prepare-clause-settles_or
returns-in-Ok-prepare-clause-settles_or g c it keeps =
    let line = line_of c.args.layout.now in
    let row = site_text c.args.site (named c.args.group) in
    let same_row = ap (site_text c.args.site) c.in-Ok-copied_group.ensures in
    let again = λ (it : Stored). stored_again g.S.Store (connection_of c.prepare.new.tables) c.args.layout.now _ row _ c.in-Ok-prepare.index it c.in-Ok.ensures same_row in
    let new = made row line in
    elim (c.in-Ok-prepare.ensures.settles_or it (subst (λ (h : Held g.row.S.Denot). KeepsNothingOr g.S.Store h it) (sym c.over-tables.ensures.connection) keeps)) [
      | inl stores ↦ inl (λ honest. (new, (again new (stores honest), refl)))
      | inr ready ↦ inr (λ honest. (renewed line it, (again (renewed line it) (ready.stores honest), refl)))
    ]

pub returns-in-Err-clause-own : goal.returns-in-Err-clause-own
returns-in-Err-clause-own g c a b first second keeps = λ clean.
    c.in-Err.ensures.own a b first second (subst (λ (h : Held g.row.S.Denot). KeepsEither g.S.Store h a b) (sym c.over-tables.ensures.connection) keeps)
    (subst (λ (h : Held g.row.S.Denot). HasCleanDisk (state g.S.Store h)) c.into_connection.ensures clean)

pub returns-in-Err-clause-own_or : goal.returns-in-Err-clause-own_or
returns-in-Err-clause-own_or g c it own keeps = λ clean.
    c.in-Err.ensures.own_or it own (subst (λ (h : Held g.row.S.Denot). KeepsNothingOr g.S.Store h it) (sym c.over-tables.ensures.connection) keeps)
    (subst (λ (h : Held g.row.S.Denot). HasCleanDisk (state g.S.Store h)) c.into_connection.ensures clean)

-- ---- what a refusal leaves

pub returns-in-Err-clause-left : goal.returns-in-Err-clause-left
returns-in-Err-clause-left g c a b keeps =
    subst (λ (h : Held g.row.S.Denot). IsLeftEither g.S.Store c.args.layout.now a b h c.in-Err.error) (sym c.into_connection.ensures)
    (c.in-Err.ensures.left a b (subst (λ (h : Held g.row.S.Denot). KeepsEither g.S.Store h a b) (sym c.over-tables.ensures.connection) keeps))

pub returns-in-Err-clause-left_or : goal.returns-in-Err-clause-left_or
returns-in-Err-clause-left_or g c it keeps =
    subst (λ (h : Held g.row.S.Denot). IsLeftOr g.S.Store c.args.layout.now c.args.site (named c.args.group) it h c.in-Err.error) (sym c.into_connection.ensures)
    (c.in-Err.ensures.left_or it (subst (λ (h : Held g.row.S.Denot). KeepsNothingOr g.S.Store h it) (sym c.over-tables.ensures.connection) keeps))

pub returns-in_default-clause-left : goal.returns-in_default-clause-left
returns-in_default-clause-left g c a b keeps = ∣ inl keeps ∣₁

pub returns-in_default-clause-left_or : goal.returns-in_default-clause-left_or
returns-in_default-clause-left_or g c it keeps = ∣ inl keeps ∣₁

pub returns-in-Err-clause-fault : goal.returns-in-Err-clause-fault
returns-in-Err-clause-fault g c it keeps = λ fault clean.
    let told = c.in-Err.ensures.fault c.over-tables.ensures.sound it (subst (λ (h : Held g.row.S.Denot). Keeps g.S.Store h it) (sym c.over-tables.ensures.connection) keeps) fault
    (subst (λ (h : Held g.row.S.Denot). HasCleanDisk (state g.S.Store h)) c.into_connection.ensures clean) in
    subst (λ (h : Held g.row.S.Denot). IsRefusal g.S.Store h c.into_connection.result ⊎ IsDue c.args.layout.now c.args.site (named c.args.group) it) c.over-tables.ensures.connection
    (subst (λ (h : Held g.row.S.Denot). IsRefusal g.S.Store (connection_of c.over-tables.result) h ⊎ IsDue c.args.layout.now c.args.site (named c.args.group) it) (sym c.into_connection.ensures) told)

-- ---- what is committed

pub returns-in-Err-clause-judged : goal.returns-in-Err-clause-judged
returns-in-Err-clause-judged g c = λ other room.
    subst (λ (h : Held g.row.S.Denot). CommitsNothing g.S.Store h c.into_connection.result) c.over-tables.ensures.connection
    (subst (λ (h : Held g.row.S.Denot). CommitsNothing g.S.Store (connection_of c.over-tables.result) h) (sym c.into_connection.ensures) (c.in-Err.ensures.judged other room))

pub returns-in-Err-clause-current : goal.returns-in-Err-clause-current
returns-in-Err-clause-current g c it current keeps clean =
    let still = c.in-Err.ensures.current it current (subst (λ (h : Held g.row.S.Denot). Keeps g.S.Store h it) (sym c.over-tables.ensures.connection) keeps)
    (subst (λ (h : Held g.row.S.Denot). HasCleanDisk (state g.S.Store h)) c.into_connection.ensures clean) in
    subst (λ (h : Held g.row.S.Denot). CommitsNothing g.S.Store h c.into_connection.result) c.over-tables.ensures.connection
    (subst (λ (h : Held g.row.S.Denot). CommitsNothing g.S.Store (connection_of c.over-tables.result) h) (sym c.into_connection.ensures) still)

pub returns-in-Ok-prepare-clause-current : goal.returns-in-Ok-prepare-clause-current
returns-in-Ok-prepare-clause-current g c it current keeps clean =
    let still = c.in-Ok-prepare.ensures.current it current (subst (λ (h : Held g.row.S.Denot). Keeps g.S.Store h it) (sym c.over-tables.ensures.connection) keeps) clean in
    subst (λ (h : Held g.row.S.Denot). CommitsNothing g.S.Store h (connection_of c.prepare.new.tables)) c.over-tables.ensures.connection still

-- ---- there was no memory for the layout

pub returns-in_default-clause-fault : goal.returns-in_default-clause-fault
returns-in_default-clause-fault g c it keeps = λ fault clean. absurd (memory_is_none fault)

pub returns-in_default-clause-judged : goal.returns-in_default-clause-judged
returns-in_default-clause-judged g c = λ other room. absurd (room refl)

pub returns-in_default-clause-current : goal.returns-in_default-clause-current
returns-in_default-clause-current g c it current keeps clean = survives_same _

-- ---- the other tables

pub returns-in-Ok-prepare-clause-beside : goal.returns-in-Ok-prepare-clause-beside
returns-in-Ok-prepare-clause-beside g c a b others keeps beside =
    c.in-Ok-prepare.ensures.beside a b others (subst (λ (h : Held g.row.S.Denot). KeepsEither g.S.Store h a b) (sym c.over-tables.ensures.connection) keeps)
    (subst (λ (h : Held g.row.S.Denot). KeepsBeside g.S.Store h others) (sym c.over-tables.ensures.connection) beside)

pub returns-in-Err-clause-beside : goal.returns-in-Err-clause-beside
returns-in-Err-clause-beside g c a b others keeps beside =
    subst (λ (h : Held g.row.S.Denot). KeepsBeside g.S.Store h others) (sym c.into_connection.ensures)
    (c.in-Err.ensures.beside a b others (subst (λ (h : Held g.row.S.Denot). KeepsEither g.S.Store h a b) (sym c.over-tables.ensures.connection) keeps)
    (subst (λ (h : Held g.row.S.Denot). KeepsBeside g.S.Store h others) (sym c.over-tables.ensures.connection) beside))
