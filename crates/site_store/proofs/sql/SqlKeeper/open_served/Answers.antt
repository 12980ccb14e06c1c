use Rattle.std.proofs.Common.{◌≡◌, ◌⊎◌, true, false, inl, inr, refl, ap, sym, subst, arith}
use Rattle.std.proofs.Math.Logic.{∥∥₁_map}
use Rattle.std.proofs.lemmas.Bool.{both_ways, cases_Bool}
use Rattle.sqlite.specs.State.{HasCleanDisk}
use Rattle.sqlite.specs.Held.{Held, state}
use Rattle.layout_line.specs.Line.{line_of}
use Rattle.store_rows.specs.Rows.{Stored}
use Rattle.store_rows.specs.Holding.{Holds, HoldsBeside, HoldsNothing, Keeps, KeepsBeside, KeepsEither, KeepsNothing, KeepsNothingOr, Leaves}
use Rattle.store_tables.specs.Marking.{HasOutdatedMark, TellsOutdated}
use Rattle.store_rows.specs.Changes.{renewed}
use Rattle.store_rows.proofs.StepLemmas.{survives_more}
use Rattle.store_tables.specs.Kept.{connection_of}
use Rattle.store_tables.specs.Transacts.{made}
use Rattle.store_tables.proofs.KeepLemmas.{leaves_still}
use Rattle.store_schema.specs.Tables.{no_schema}
use Rattle.site_store.specs.SiteText.{named, site_text}
use Rattle.site_store.specs.Opened.{CommitsNothing, IsDue, IsReady, IsRefusal}
use Rattle.site_store.specs.Served.{IsDenied, IsLeftOfDoubt, IsLeftOfEither, IsLeftOfNothing, IsLeftOfStore}
use Rattle.site_store.proofs.OpenLemmas.{if_honest, stored_again}
use Rattle.site_store.proofs.ServedLemmas.{denied_schema, device_schema, judged_schema, left_honest, left_nothing_honest, memory_is_none, memory_nothing, memory_store, none_kept, none_there, off_either, off_store, on_nothing, refused_device, refused_nothing, refused_open, refused_store, store_there}
use Rattle.site_store.proofs.MarkedLemmas.{memory_unmarked}
use Rattle.site_store.proofs.sql.SqlKeeper.open_served.Goals as goal

-- ---- where a content was kept

pub returns-in-Ok-prepare_permitted-clause-store : goal.returns-in-Ok-prepare_permitted-clause-store
returns-in-Ok-prepare_permitted-clause-store g c it keeps =
    let c0 = c.args.connection in
    let c1 = c.check_permission.new.connection in
    let t1 = connection_of c.prepare_permitted.new.tables in
    let survives = c.check_permission.ensures.survives in
    let next = renewed (line_of c.args.layout.now) it in
    let row = site_text c.args.site (named c.args.group) in
    let same_row = ap (site_text c.args.site) c.in-Ok-copied_group.ensures in
    let here = subst (λ (h : Held g.row.S.Denot). Keeps g.S.Store h it) (sym c.over-held.ensures.connection) (leaves_still g.S.Store c0 c1 (Holds it) survives keeps) in
    let off : HasCleanDisk (state g.S.Store t1) → c.args.permission.create ≡ false = λ clean.
    off_store g.S.Store g.met.S.Store.stays c.args.permission c0 c1 survives c.in-Ok.ensures.settled c.in-Ok.ensures.granted it keeps
    (subst (λ (h : Held g.row.S.Denot). HasCleanDisk (state g.S.Store h)) c.over-held.ensures.connection (c.in-Ok-prepare_permitted.ensures.honest clean)) in (
      λ honest.
          let found = (c.in-Ok-prepare_permitted.ensures.found (off honest)).ready it here in
          record { permitted = off honest; told = off honest; taken = record { own = found.ready.fits honest; its_line = found.its_line honest } },
      λ honest.
          let found = (c.in-Ok-prepare_permitted.ensures.found (off honest)).ready it here in
          (next, (stored_again g.S.Store t1 c.args.layout.now _ row _ c.in-Ok-prepare_permitted.index next c.in-Ok-try_copy.ensures same_row (found.ready.stores honest), refl)),
    )

pub returns-in-Err-prepare_permitted-clause-store : goal.returns-in-Err-prepare_permitted-clause-store
returns-in-Err-prepare_permitted-clause-store g c it keeps =
    let c0 = c.args.connection in
    let c1 = c.check_permission.new.connection in
    let t1 = connection_of c.prepare_permitted.new.tables in
    let survives = c.check_permission.ensures.survives in
    let here = subst (λ (h : Held g.row.S.Denot). Keeps g.S.Store h it) (sym c.over-held.ensures.connection) (leaves_still g.S.Store c0 c1 (Holds it) survives keeps) in
    let off : HasCleanDisk (state g.S.Store t1) → c.args.permission.create ≡ false = λ clean.
    off_store g.S.Store g.met.S.Store.stays c.args.permission c0 c1 survives c.in-Ok.ensures.settled c.in-Ok.ensures.granted it keeps
    (subst (λ (h : Held g.row.S.Denot). HasCleanDisk (state g.S.Store h)) c.over-held.ensures.connection (c.in-Err-prepare_permitted.ensures.honest clean)) in
    let back = sym c.into_connection.ensures in
    record {
      cause = λ clean.
          let at = subst (λ (h : Held g.row.S.Denot). HasCleanDisk (state g.S.Store h)) c.into_connection.ensures clean in
          inr (off at, ((c.in-Err-prepare_permitted.ensures.found (off at)).ready it here).cause at);
      left = subst (λ (h : Held g.row.S.Denot). IsLeftOfStore g.S.Store c.args.layout.now it h c.in-Err-prepare_permitted.error) back
          (left_honest g.S.Store t1 c.args.layout.now it c.in-Err-prepare_permitted.error (λ clean. ((c.in-Err-prepare_permitted.ensures.found (off clean)).ready it here).left));
    }

pub returns-in-Err-clause-store : goal.returns-in-Err-clause-store
returns-in-Err-clause-store g c it keeps =
    refused_store g.S.Store g.met.S.Store.stays c.args.permission c.args.connection c.check_permission.new.connection c.check_permission.ensures.survives c.in-Err.error c.in-Err.ensures.known c.in-Err.ensures.denied
    c.args.layout.now c.args.site (named c.args.group) it keeps

pub returns-in_default-clause-store : goal.returns-in_default-clause-store
returns-in_default-clause-store g c it keeps =
    memory_store g.S.Store c.args.permission c.args.connection c.check_permission.new.connection c.check_permission.ensures.survives c.args.layout.now c.args.site (named c.args.group) it keeps

-- ---- where nothing was kept

pub returns-in-Ok-prepare_permitted-clause-blank : goal.returns-in-Ok-prepare_permitted-clause-blank
returns-in-Ok-prepare_permitted-clause-blank g c keeps =
    let c0 = c.args.connection in
    let c1 = c.check_permission.new.connection in
    let t1 = connection_of c.prepare_permitted.new.tables in
    let row = site_text c.args.site (named c.args.group) in
    let same_row = ap (site_text c.args.site) c.in-Ok-copied_group.ensures in
    let new = made row (line_of c.args.layout.now) in
    let on : HasCleanDisk (state g.S.Store t1) → c.args.permission.create ≡ true = λ clean.
    on_nothing g.S.Store g.met.S.Store.stays c.args.permission c0 c1 c.check_permission.ensures.survives c.in-Ok.ensures.settled c.in-Ok.ensures.granted keeps
    (subst (λ (h : Held g.row.S.Denot). HasCleanDisk (state g.S.Store h)) c.over-held.ensures.connection (c.in-Ok-prepare_permitted.ensures.honest clean)) in (
      λ honest. (on honest, on honest),
      λ honest.
          let none = subst (λ (h : Held g.row.S.Denot). (state g.S.Store h).now.schema ≡ no_schema) (sym c.over-held.ensures.connection) (none_there c.args.permission _ (on honest) c.in-Ok.ensures.permitted) in
          let stores = (c.in-Ok-prepare_permitted.ensures.made (on honest)).ready none honest in
          (new, (stored_again g.S.Store t1 c.args.layout.now _ row _ c.in-Ok-prepare_permitted.index new c.in-Ok-try_copy.ensures same_row stores, refl)),
    )

pub returns-in-Err-prepare_permitted-clause-blank : goal.returns-in-Err-prepare_permitted-clause-blank
returns-in-Err-prepare_permitted-clause-blank g c keeps =
    let c0 = c.args.connection in
    let c1 = c.check_permission.new.connection in
    let t1 = connection_of c.prepare_permitted.new.tables in
    let survives = c.check_permission.ensures.survives in
    let here = subst (λ (h : Held g.row.S.Denot). KeepsNothing g.S.Store h) (sym c.over-held.ensures.connection) (leaves_still g.S.Store c0 c1 HoldsNothing survives keeps) in
    let on : HasCleanDisk (state g.S.Store t1) → c.args.permission.create ≡ true = λ clean.
    on_nothing g.S.Store g.met.S.Store.stays c.args.permission c0 c1 survives c.in-Ok.ensures.settled c.in-Ok.ensures.granted keeps
    (subst (λ (h : Held g.row.S.Denot). HasCleanDisk (state g.S.Store h)) c.over-held.ensures.connection (c.in-Err-prepare_permitted.ensures.honest clean)) in
    record {
      cause = λ clean.
          let at = subst (λ (h : Held g.row.S.Denot). HasCleanDisk (state g.S.Store h)) c.into_connection.ensures clean in
          inr ((c.in-Err-prepare_permitted.ensures.made (on at)).device here at);
      left = subst (λ (h : Held g.row.S.Denot). IsLeftOfNothing g.S.Store c.args.layout.now c.args.site (named c.args.group) h c.in-Err-prepare_permitted.error) (sym c.into_connection.ensures)
          (left_nothing_honest g.S.Store t1 c.args.layout.now c.args.site (named c.args.group) c.in-Err-prepare_permitted.error (λ clean. (c.in-Err-prepare_permitted.ensures.made (on clean)).left here));
    }

pub returns-in-Err-clause-blank : goal.returns-in-Err-clause-blank
returns-in-Err-clause-blank g c keeps =
    refused_nothing g.S.Store g.met.S.Store.stays c.args.permission c.args.connection c.check_permission.new.connection c.check_permission.ensures.survives c.in-Err.error c.in-Err.ensures.known c.in-Err.ensures.denied
    c.args.layout.now c.args.site (named c.args.group) keeps

pub returns-in_default-clause-blank : goal.returns-in_default-clause-blank
returns-in_default-clause-blank g c keeps =
    memory_nothing g.S.Store c.args.permission c.args.connection c.check_permission.new.connection c.check_permission.ensures.survives c.args.layout.now c.args.site (named c.args.group) keeps

-- ---- by the schema alone

pub returns-in-Ok-prepare_permitted-clause-schema : goal.returns-in-Ok-prepare_permitted-clause-schema
returns-in-Ok-prepare_permitted-clause-schema g c clean =
    (c.in-Ok.ensures.granted (subst (λ (h : Held g.row.S.Denot). HasCleanDisk (state g.S.Store h)) c.over-held.ensures.connection (c.in-Ok-prepare_permitted.ensures.honest clean)), refl)

pub returns-in-Err-prepare_permitted-clause-schema : goal.returns-in-Err-prepare_permitted-clause-schema
returns-in-Err-prepare_permitted-clause-schema g c clean =
    let p = c.args.permission in
    let c0 = c.args.connection in
    let c1 = c.check_permission.new.connection in
    let schema = (state g.S.Store c0).now.schema in
    let e = c.in-Err-prepare_permitted.error in
    let at = subst (λ (h : Held g.row.S.Denot). HasCleanDisk (state g.S.Store h)) c.into_connection.ensures clean in
    let early = subst (λ (h : Held g.row.S.Denot). HasCleanDisk (state g.S.Store h)) c.over-held.ensures.connection (c.in-Err-prepare_permitted.ensures.honest at) in
    let granted = c.in-Ok.ensures.granted early in
    elim (cases_Bool p.create) [
      | inl on ↦
          let none = none_kept g.S.Store g.met.S.Store.stays c0 (c.in-Ok.ensures.settled early) (omega (arith, early, c.check_permission.ensures.survives.clean)) g.met.S.Store.settled (none_there p schema on granted) in
          let here = subst (λ (h : Held g.row.S.Denot). KeepsNothing g.S.Store h) (sym c.over-held.ensures.connection) (leaves_still g.S.Store c0 c1 HoldsNothing c.check_permission.ensures.survives none) in
          device_schema p schema e ((c.in-Err-prepare_permitted.ensures.made on).device here at)
      | inr off ↦ judged_schema p schema e (c.in-Err-prepare_permitted.ensures.found off).kind off (store_there p schema off granted)
    ]

pub returns-in-Err-clause-schema : goal.returns-in-Err-clause-schema
returns-in-Err-clause-schema g c clean = denied_schema c.args.permission (state g.S.Store c.args.connection).now.schema c.in-Err.error (c.in-Err.ensures.denied clean)

-- ---- what was not known

pub returns-in-Ok-prepare_permitted-clause-settles : goal.returns-in-Ok-prepare_permitted-clause-settles
returns-in-Ok-prepare_permitted-clause-settles g c a b keeps =
    let c0 = c.args.connection in
    let c1 = c.check_permission.new.connection in
    let t1 = connection_of c.prepare_permitted.new.tables in
    let survives = c.check_permission.ensures.survives in
    let line = line_of c.args.layout.now in
    let row = site_text c.args.site (named c.args.group) in
    let same_row = ap (site_text c.args.site) c.in-Ok-copied_group.ensures in
    let here = subst (λ (h : Held g.row.S.Denot). KeepsEither g.S.Store h a b) (sym c.over-held.ensures.connection) (leaves_still g.S.Store c0 c1 (λ db. Holds a db ⊎ Holds b db) survives keeps) in
    let Ready : Stored → Type 0 = λ it. IsReady g.S.Store c.args.layout.now c.args.site (named c.args.group) it t1 c.in-Ok-prepare_permitted.index in
    let again = λ (it : Stored). stored_again g.S.Store t1 c.args.layout.now _ row _ c.in-Ok-prepare_permitted.index it c.in-Ok-try_copy.ensures same_row in
    elim (cases_Bool c.args.permission.create) [
      | inl on ↦ ∣ inl (λ honest. absurd (both_ways _ (off_either g.S.Store g.met.S.Store.stays c.args.permission c0 c1 survives c.in-Ok.ensures.settled c.in-Ok.ensures.granted a b keeps
          (subst (λ (h : Held g.row.S.Denot). HasCleanDisk (state g.S.Store h)) c.over-held.ensures.connection (c.in-Ok-prepare_permitted.ensures.honest honest))) on)) ∣₁
      | inr off ↦ ∥∥₁_map {A = Ready a ⊎ Ready b} ((c.in-Ok-prepare_permitted.ensures.found off).settles a b here) (λ f. elim f [
        | inl ready ↦ inl (λ honest. (renewed line a, (again (renewed line a) (ready.stores honest), refl)))
        | inr ready ↦ inr (λ honest. (renewed line b, (again (renewed line b) (ready.stores honest), refl)))
      ])
    ]

pub returns-in-Ok-prepare_permitted-clause-settles_or : goal.returns-in-Ok-prepare_permitted-clause-settles_or
returns-in-Ok-prepare_permitted-clause-settles_or g c it keeps =
    let c0 = c.args.connection in
    let c1 = c.check_permission.new.connection in
    let t1 = connection_of c.prepare_permitted.new.tables in
    let line = line_of c.args.layout.now in
    let row = site_text c.args.site (named c.args.group) in
    let same_row = ap (site_text c.args.site) c.in-Ok-copied_group.ensures in
    let here = subst (λ (h : Held g.row.S.Denot). KeepsNothingOr g.S.Store h it) (sym c.over-held.ensures.connection) (leaves_still g.S.Store c0 c1 (λ db. HoldsNothing db ⊎ Holds it db) c.check_permission.ensures.survives keeps) in
    let again = λ (it : Stored). stored_again g.S.Store t1 c.args.layout.now _ row _ c.in-Ok-prepare_permitted.index it c.in-Ok-try_copy.ensures same_row in
    let new = made row line in
    elim (cases_Bool c.args.permission.create) [
      | inl on ↦
          let none = subst (λ (h : Held g.row.S.Denot). (state g.S.Store h).now.schema ≡ no_schema) (sym c.over-held.ensures.connection) (none_there c.args.permission _ on c.in-Ok.ensures.permitted) in
          inl (λ honest. (new, (again new ((c.in-Ok-prepare_permitted.ensures.made on).ready none honest), refl)))
      | inr off ↦ inr (λ honest. (renewed line it, (again (renewed line it) (((c.in-Ok-prepare_permitted.ensures.found off).settles_or it here).stores honest), refl)))
    ]

-- ---- refusals by the device

pub returns-in-Err-prepare_permitted-clause-own : goal.returns-in-Err-prepare_permitted-clause-own
returns-in-Err-prepare_permitted-clause-own g c off a b first second keeps = λ clean.
    let here = subst (λ (h : Held g.row.S.Denot). KeepsEither g.S.Store h a b) (sym c.over-held.ensures.connection)
    (leaves_still g.S.Store c.args.connection c.check_permission.new.connection (λ db. Holds a db ⊎ Holds b db) c.check_permission.ensures.survives keeps) in
    (c.in-Err-prepare_permitted.ensures.found off).own a b first second here (subst (λ (h : Held g.row.S.Denot). HasCleanDisk (state g.S.Store h)) c.into_connection.ensures clean)

pub returns-in-Err-clause-own : goal.returns-in-Err-clause-own
returns-in-Err-clause-own g c off a b first second keeps = λ clean.
    inl (refused_device g.S.Store g.met.S.Store.stays c.args.permission c.args.connection c.check_permission.new.connection c.check_permission.ensures.survives c.in-Err.error c.in-Err.ensures.known c.in-Err.ensures.denied
    a b keeps off clean)

pub returns-in-Err-prepare_permitted-clause-fault : goal.returns-in-Err-prepare_permitted-clause-fault
returns-in-Err-prepare_permitted-clause-fault g c it keeps = λ fault clean.
    let c0 = c.args.connection in
    let c1 = c.check_permission.new.connection in
    let t1 = connection_of c.prepare_permitted.new.tables in
    let survives = c.check_permission.ensures.survives in
    let at = subst (λ (h : Held g.row.S.Denot). HasCleanDisk (state g.S.Store h)) c.into_connection.ensures clean in
    let early = subst (λ (h : Held g.row.S.Denot). HasCleanDisk (state g.S.Store h)) c.over-held.ensures.connection (c.in-Err-prepare_permitted.ensures.honest at) in
    let here = subst (λ (h : Held g.row.S.Denot). Keeps g.S.Store h it) (sym c.over-held.ensures.connection) (leaves_still g.S.Store c0 c1 (Holds it) survives keeps) in
    let off = off_store g.S.Store g.met.S.Store.stays c.args.permission c0 c1 survives c.in-Ok.ensures.settled c.in-Ok.ensures.granted it keeps early in
    let told = (c.in-Err-prepare_permitted.ensures.found off).fault c.over-held.ensures.sound it here fault at in
    let until = subst (λ (h : Held g.row.S.Denot). IsRefusal g.S.Store h c.into_connection.result ⊎ IsDue c.args.layout.now c.args.site (named c.args.group) it) c.over-held.ensures.connection
    (subst (λ (h : Held g.row.S.Denot). IsRefusal g.S.Store (connection_of c.over-held.result) h ⊎ IsDue c.args.layout.now c.args.site (named c.args.group) it) (sym c.into_connection.ensures) told) in
    elim until [
      | inl why ↦ inl (refused_open (state g.S.Store c0) (state g.S.Store c1) (state g.S.Store c.into_connection.result) survives (c.in-Ok.ensures.opened early) why)
      | inr due ↦ inr due
    ]

pub returns-in-Err-clause-fault : goal.returns-in-Err-clause-fault
returns-in-Err-clause-fault g c it keeps = λ fault clean. inl (c.in-Err.ensures.refused clean fault)

pub returns-in_default-clause-fault : goal.returns-in_default-clause-fault
returns-in_default-clause-fault g c it keeps = λ fault clean. absurd (memory_is_none fault)

-- ---- what is committed

pub returns-in-Err-prepare_permitted-clause-judged : goal.returns-in-Err-prepare_permitted-clause-judged
returns-in-Err-prepare_permitted-clause-judged g c = λ other room.
    let c0 = c.args.connection in
    let c1 = c.check_permission.new.connection in
    let later = subst (λ (h : Held g.row.S.Denot). CommitsNothing g.S.Store h c.into_connection.result) c.over-held.ensures.connection
    (subst (λ (h : Held g.row.S.Denot). CommitsNothing g.S.Store (connection_of c.over-held.result) h) (sym c.into_connection.ensures) (c.in-Err-prepare_permitted.ensures.judged other room)) in
    survives_more (state g.S.Store c0) (state g.S.Store c1) (state g.S.Store c.into_connection.result) c.check_permission.ensures.survives later

pub returns-in_default-clause-judged : goal.returns-in_default-clause-judged
returns-in_default-clause-judged g c = λ other room. absurd (room refl)

pub returns-in-Err-clause-judged : goal.returns-in-Err-clause-judged
returns-in-Err-clause-judged g c = λ other room. c.check_permission.ensures.survives

pub returns-in-Ok-prepare_permitted-clause-current : goal.returns-in-Ok-prepare_permitted-clause-current
returns-in-Ok-prepare_permitted-clause-current g c it current keeps clean =
    let c0 = c.args.connection in
    let c1 = c.check_permission.new.connection in
    let t1 = connection_of c.prepare_permitted.new.tables in
    let survives = c.check_permission.ensures.survives in
    let early = subst (λ (h : Held g.row.S.Denot). HasCleanDisk (state g.S.Store h)) c.over-held.ensures.connection (c.in-Ok-prepare_permitted.ensures.honest clean) in
    let here = subst (λ (h : Held g.row.S.Denot). Keeps g.S.Store h it) (sym c.over-held.ensures.connection) (leaves_still g.S.Store c0 c1 (Holds it) survives keeps) in
    let off = off_store g.S.Store g.met.S.Store.stays c.args.permission c0 c1 survives c.in-Ok.ensures.settled c.in-Ok.ensures.granted it keeps early in
    let later = subst (λ (h : Held g.row.S.Denot). CommitsNothing g.S.Store h t1) c.over-held.ensures.connection ((c.in-Ok-prepare_permitted.ensures.found off).current it current here clean) in
    survives_more (state g.S.Store c0) (state g.S.Store c1) (state g.S.Store t1) survives later

pub returns-in-Err-prepare_permitted-clause-current : goal.returns-in-Err-prepare_permitted-clause-current
returns-in-Err-prepare_permitted-clause-current g c it current keeps clean =
    let c0 = c.args.connection in
    let c1 = c.check_permission.new.connection in
    let survives = c.check_permission.ensures.survives in
    let at = subst (λ (h : Held g.row.S.Denot). HasCleanDisk (state g.S.Store h)) c.into_connection.ensures clean in
    let early = subst (λ (h : Held g.row.S.Denot). HasCleanDisk (state g.S.Store h)) c.over-held.ensures.connection (c.in-Err-prepare_permitted.ensures.honest at) in
    let here = subst (λ (h : Held g.row.S.Denot). Keeps g.S.Store h it) (sym c.over-held.ensures.connection) (leaves_still g.S.Store c0 c1 (Holds it) survives keeps) in
    let off = off_store g.S.Store g.met.S.Store.stays c.args.permission c0 c1 survives c.in-Ok.ensures.settled c.in-Ok.ensures.granted it keeps early in
    let later = subst (λ (h : Held g.row.S.Denot). CommitsNothing g.S.Store h c.into_connection.result) c.over-held.ensures.connection
    (subst (λ (h : Held g.row.S.Denot). CommitsNothing g.S.Store (connection_of c.over-held.result) h) (sym c.into_connection.ensures) ((c.in-Err-prepare_permitted.ensures.found off).current it current here at)) in
    survives_more (state g.S.Store c0) (state g.S.Store c1) (state g.S.Store c.into_connection.result) survives later

-- ---- the other tables

pub returns-in-Ok-prepare_permitted-clause-beside : goal.returns-in-Ok-prepare_permitted-clause-beside
returns-in-Ok-prepare_permitted-clause-beside g c a b others keeps beside =
    let c0 = c.args.connection in
    let c1 = c.check_permission.new.connection in
    let t1 = connection_of c.prepare_permitted.new.tables in
    let survives = c.check_permission.ensures.survives in
    let here = subst (λ (h : Held g.row.S.Denot). KeepsEither g.S.Store h a b) (sym c.over-held.ensures.connection) (leaves_still g.S.Store c0 c1 (λ db. Holds a db ⊎ Holds b db) survives keeps) in
    let still = subst (λ (h : Held g.row.S.Denot). KeepsBeside g.S.Store h others) (sym c.over-held.ensures.connection) (leaves_still g.S.Store c0 c1 (HoldsBeside others) survives beside) in
    if_honest g.S.Store t1 (HoldsBeside others) (λ clean.
    let early = subst (λ (h : Held g.row.S.Denot). HasCleanDisk (state g.S.Store h)) c.over-held.ensures.connection (c.in-Ok-prepare_permitted.ensures.honest clean) in
    let off = off_either g.S.Store g.met.S.Store.stays c.args.permission c0 c1 survives c.in-Ok.ensures.settled c.in-Ok.ensures.granted a b keeps early in
    (c.in-Ok-prepare_permitted.ensures.found off).beside a b others here still)

pub returns-in-Err-prepare_permitted-clause-beside : goal.returns-in-Err-prepare_permitted-clause-beside
returns-in-Err-prepare_permitted-clause-beside g c a b others keeps beside =
    let c0 = c.args.connection in
    let c1 = c.check_permission.new.connection in
    let t1 = connection_of c.prepare_permitted.new.tables in
    let survives = c.check_permission.ensures.survives in
    let here = subst (λ (h : Held g.row.S.Denot). KeepsEither g.S.Store h a b) (sym c.over-held.ensures.connection) (leaves_still g.S.Store c0 c1 (λ db. Holds a db ⊎ Holds b db) survives keeps) in
    let still = subst (λ (h : Held g.row.S.Denot). KeepsBeside g.S.Store h others) (sym c.over-held.ensures.connection) (leaves_still g.S.Store c0 c1 (HoldsBeside others) survives beside) in
    subst (λ (h : Held g.row.S.Denot). KeepsBeside g.S.Store h others) (sym c.into_connection.ensures) (if_honest g.S.Store t1 (HoldsBeside others) (λ clean.
    let early = subst (λ (h : Held g.row.S.Denot). HasCleanDisk (state g.S.Store h)) c.over-held.ensures.connection (c.in-Err-prepare_permitted.ensures.honest clean) in
    let off = off_either g.S.Store g.met.S.Store.stays c.args.permission c0 c1 survives c.in-Ok.ensures.settled c.in-Ok.ensures.granted a b keeps early in
    (c.in-Err-prepare_permitted.ensures.found off).beside a b others here still))

pub returns-in-Err-clause-beside : goal.returns-in-Err-clause-beside
returns-in-Err-clause-beside g c a b others keeps beside = leaves_still g.S.Store c.args.connection c.check_permission.new.connection (HoldsBeside others) c.check_permission.ensures.survives beside

pub returns-in_default-clause-beside : goal.returns-in_default-clause-beside
returns-in_default-clause-beside g c a b others keeps beside = leaves_still g.S.Store c.args.connection c.check_permission.new.connection (HoldsBeside others) c.check_permission.ensures.survives beside

-- ---- an honest device

pub returns-in-Ok-prepare_permitted-clause-honest : goal.returns-in-Ok-prepare_permitted-clause-honest
returns-in-Ok-prepare_permitted-clause-honest g c honest =
    let early = subst (λ (h : Held g.row.S.Denot). HasCleanDisk (state g.S.Store h)) c.over-held.ensures.connection (c.in-Ok-prepare_permitted.ensures.honest honest) in
    omega (arith, early, c.check_permission.ensures.survives.clean)

-- ---- a store that was made, whatever is known of the database

pub returns-in-Ok-prepare_permitted-clause-created : goal.returns-in-Ok-prepare_permitted-clause-created
returns-in-Ok-prepare_permitted-clause-created g c on = λ honest.
    let t1 = connection_of c.prepare_permitted.new.tables in
    let row = site_text c.args.site (named c.args.group) in
    let same_row = ap (site_text c.args.site) c.in-Ok-copied_group.ensures in
    let new = made row (line_of c.args.layout.now) in
    let none = subst (λ (h : Held g.row.S.Denot). (state g.S.Store h).now.schema ≡ no_schema) (sym c.over-held.ensures.connection) (none_there c.args.permission _ on c.in-Ok.ensures.permitted) in
    let stores = (c.in-Ok-prepare_permitted.ensures.made on).ready none honest in
    (new, (stored_again g.S.Store t1 c.args.layout.now _ row _ c.in-Ok-prepare_permitted.index new c.in-Ok-try_copy.ensures same_row stores, refl))

-- ---- what a refusal leaves where it was not known what was kept

pub returns-in-Err-clause-left : goal.returns-in-Err-clause-left
returns-in-Err-clause-left g c a b keeps =
    ∣ inl (leaves_still g.S.Store c.args.connection c.check_permission.new.connection (λ db. Holds a db ⊎ Holds b db) c.check_permission.ensures.survives keeps) ∣₁

pub returns-in_default-clause-left : goal.returns-in_default-clause-left
returns-in_default-clause-left g c a b keeps =
    ∣ inl (leaves_still g.S.Store c.args.connection c.check_permission.new.connection (λ db. Holds a db ⊎ Holds b db) c.check_permission.ensures.survives keeps) ∣₁

pub returns-in-Err-prepare_permitted-clause-left : goal.returns-in-Err-prepare_permitted-clause-left
returns-in-Err-prepare_permitted-clause-left g c a b keeps =
    let c0 = c.args.connection in
    let c1 = c.check_permission.new.connection in
    let t1 = connection_of c.prepare_permitted.new.tables in
    let survives = c.check_permission.ensures.survives in
    let here = subst (λ (h : Held g.row.S.Denot). KeepsEither g.S.Store h a b) (sym c.over-held.ensures.connection) (leaves_still g.S.Store c0 c1 (λ db. Holds a db ⊎ Holds b db) survives keeps) in
    subst (λ (h : Held g.row.S.Denot). IsLeftOfEither g.S.Store c.args.layout.now a b h c.in-Err-prepare_permitted.error) (sym c.into_connection.ensures) (elim (cases_Bool c.args.permission.create) [
      | inl on ↦ ∣ inl (if_honest g.S.Store t1 (λ db. Holds a db ⊎ Holds b db) (λ clean.
          absurd (both_ways _ (off_either g.S.Store g.met.S.Store.stays c.args.permission c0 c1 survives c.in-Ok.ensures.settled c.in-Ok.ensures.granted a b keeps
          (subst (λ (h : Held g.row.S.Denot). HasCleanDisk (state g.S.Store h)) c.over-held.ensures.connection (c.in-Err-prepare_permitted.ensures.honest clean))) on))) ∣₁
      | inr off ↦ (c.in-Err-prepare_permitted.ensures.found off).left a b here
    ])

pub returns-in-Err-clause-left_or : goal.returns-in-Err-clause-left_or
returns-in-Err-clause-left_or g c it keeps =
    ∣ inl (leaves_still g.S.Store c.args.connection c.check_permission.new.connection (λ db. HoldsNothing db ⊎ Holds it db) c.check_permission.ensures.survives keeps) ∣₁

pub returns-in_default-clause-left_or : goal.returns-in_default-clause-left_or
returns-in_default-clause-left_or g c it keeps =
    ∣ inl (leaves_still g.S.Store c.args.connection c.check_permission.new.connection (λ db. HoldsNothing db ⊎ Holds it db) c.check_permission.ensures.survives keeps) ∣₁

pub returns-in-Err-prepare_permitted-clause-left_or : goal.returns-in-Err-prepare_permitted-clause-left_or
returns-in-Err-prepare_permitted-clause-left_or g c it keeps =
    let p = c.args.permission in
    let c0 = c.args.connection in
    let c1 = c.check_permission.new.connection in
    let t1 = connection_of c.prepare_permitted.new.tables in
    let survives = c.check_permission.ensures.survives in
    let e = c.in-Err-prepare_permitted.error in
    let here = subst (λ (h : Held g.row.S.Denot). KeepsNothingOr g.S.Store h it) (sym c.over-held.ensures.connection) (leaves_still g.S.Store c0 c1 (λ db. HoldsNothing db ⊎ Holds it db) survives keeps) in
    subst (λ (h : Held g.row.S.Denot). IsLeftOfDoubt g.S.Store c.args.layout.now c.args.site (named c.args.group) it h e) (sym c.into_connection.ensures) (elim (cases_Bool p.create) [
      | inl on ↦ ∣ inr (inl (left_nothing_honest g.S.Store t1 c.args.layout.now c.args.site (named c.args.group) e (λ clean.
          let early = subst (λ (h : Held g.row.S.Denot). HasCleanDisk (state g.S.Store h)) c.over-held.ensures.connection (c.in-Err-prepare_permitted.ensures.honest clean) in
          let none = none_kept g.S.Store g.met.S.Store.stays c0 (c.in-Ok.ensures.settled early) (omega (arith, early, survives.clean)) g.met.S.Store.settled (none_there p _ on (c.in-Ok.ensures.granted early)) in
          let there = subst (λ (h : Held g.row.S.Denot). KeepsNothing g.S.Store h) (sym c.over-held.ensures.connection) (leaves_still g.S.Store c0 c1 HoldsNothing survives none) in
          (c.in-Err-prepare_permitted.ensures.made on).left there))) ∣₁
      | inr off ↦ (c.in-Err-prepare_permitted.ensures.found off).left_or it here
    ])

-- ---- there was no memory for the name of the group

pub returns-in_default-copied_group-clause-store : goal.returns-in_default-copied_group-clause-store
returns-in_default-copied_group-clause-store g c it keeps =
    memory_store g.S.Store c.args.permission c.args.connection c.check_permission.new.connection c.check_permission.ensures.survives c.args.layout.now c.args.site (named c.args.group) it keeps

pub returns-in_default-copied_group-clause-blank : goal.returns-in_default-copied_group-clause-blank
returns-in_default-copied_group-clause-blank g c keeps =
    memory_nothing g.S.Store c.args.permission c.args.connection c.check_permission.new.connection c.check_permission.ensures.survives c.args.layout.now c.args.site (named c.args.group) keeps

pub returns-in_default-copied_group-clause-left : goal.returns-in_default-copied_group-clause-left
returns-in_default-copied_group-clause-left g c a b keeps =
    ∣ inl (leaves_still g.S.Store c.args.connection c.check_permission.new.connection (λ db. Holds a db ⊎ Holds b db) c.check_permission.ensures.survives keeps) ∣₁

pub returns-in_default-copied_group-clause-left_or : goal.returns-in_default-copied_group-clause-left_or
returns-in_default-copied_group-clause-left_or g c it keeps =
    ∣ inl (leaves_still g.S.Store c.args.connection c.check_permission.new.connection (λ db. HoldsNothing db ⊎ Holds it db) c.check_permission.ensures.survives keeps) ∣₁

-- ---- a store that is marked as outdated

pub returns-in-Ok-prepare_permitted-clause-marked : goal.returns-in-Ok-prepare_permitted-clause-marked
returns-in-Ok-prepare_permitted-clause-marked g c it keeps mark = λ honest.
    let c0 = c.args.connection in
    let c1 = c.check_permission.new.connection in
    let survives = c.check_permission.ensures.survives in
    let early = subst (λ (h : Held g.row.S.Denot). HasCleanDisk (state g.S.Store h)) c.over-held.ensures.connection (c.in-Ok-prepare_permitted.ensures.honest honest) in
    let here = subst (λ (h : Held g.row.S.Denot). Keeps g.S.Store h it) (sym c.over-held.ensures.connection) (leaves_still g.S.Store c0 c1 (Holds it) survives keeps) in
    let there = subst (λ (h : Held g.row.S.Denot). Leaves g.S.Store h HasOutdatedMark) (sym c.over-held.ensures.connection) (leaves_still g.S.Store c0 c1 HasOutdatedMark survives mark) in
    let off = off_store g.S.Store g.met.S.Store.stays c.args.permission c0 c1 survives c.in-Ok.ensures.settled c.in-Ok.ensures.granted it keeps early in
    (c.in-Ok-prepare_permitted.ensures.found off).marked it here there honest

pub returns-in-Err-prepare_permitted-clause-unmarked : goal.returns-in-Err-prepare_permitted-clause-unmarked
returns-in-Err-prepare_permitted-clause-unmarked g c it keeps none = λ clean is.
    let c0 = c.args.connection in
    let c1 = c.check_permission.new.connection in
    let survives = c.check_permission.ensures.survives in
    let at = subst (λ (h : Held g.row.S.Denot). HasCleanDisk (state g.S.Store h)) c.into_connection.ensures clean in
    let early = subst (λ (h : Held g.row.S.Denot). HasCleanDisk (state g.S.Store h)) c.over-held.ensures.connection (c.in-Err-prepare_permitted.ensures.honest at) in
    let here = subst (λ (h : Held g.row.S.Denot). Keeps g.S.Store h it) (sym c.over-held.ensures.connection) (leaves_still g.S.Store c0 c1 (Holds it) survives keeps) in
    let there = subst (λ (h : Held g.row.S.Denot). Leaves g.S.Store h (TellsOutdated false)) (sym c.over-held.ensures.connection) (leaves_still g.S.Store c0 c1 (TellsOutdated false) survives none) in
    let off = off_store g.S.Store g.met.S.Store.stays c.args.permission c0 c1 survives c.in-Ok.ensures.settled c.in-Ok.ensures.granted it keeps early in
    (c.in-Err-prepare_permitted.ensures.found off).unmarked it here there at is

pub returns-in-Err-clause-unmarked : goal.returns-in-Err-clause-unmarked
returns-in-Err-clause-unmarked g c it keeps none = λ clean is.
    subst (IsDenied c.args.permission (state g.S.Store c.args.connection).now.schema) is (c.in-Err.ensures.denied clean)

pub returns-in_default-clause-unmarked : goal.returns-in_default-clause-unmarked
returns-in_default-clause-unmarked g c it keeps none = λ clean. memory_unmarked

pub returns-in_default-copied_group-clause-unmarked : goal.returns-in_default-copied_group-clause-unmarked
returns-in_default-copied_group-clause-unmarked g c it keeps none = λ clean. memory_unmarked
