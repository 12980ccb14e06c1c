use Rattle.std.proofs.Common.{sym, subst}
use Rattle.std.specs.Prelude.{IfErr, OnOk}
use Rattle.sqlite.specs.State.{HasCleanDisk}
use Rattle.sqlite.specs.Held.{Held, state}
use Rattle.store_rows.specs.Holding.{Holds, HoldsNothing, Keeps, KeepsNothing}
use Rattle.store_tables.proofs.KeepLemmas.{leaves_still}
use Rattle.site_store.specs.Making.{IsLeftNew, new_content, to_make}
use Rattle.site_store.specs.SiteText.{named}
use Rattle.site_store.proofs.NewLemmas.{denied_new, is_new, left_new, none_judged, on_well, tells_counters, true_is_none}
use Rattle.site_store.proofs.OpenLemmas.{if_honest}
use Rattle.site_store.proofs.ServedLemmas.{off_store}
use Rattle.site_store.proofs.new_store.make_store.Goals as goal

-- ---- the database holds something else

pub returns-in-Err-clause-content : goal.returns-in-Err-clause-content
returns-in-Err-clause-content g c =
    is_new c.args.layout.now c.args.site (named c.args.group) c.args.cells.items (tells_counters c.args.layout.now c.sites.ensures.layout c.args.site c.args.cells.items c.requires.cells)

pub returns-in-Err-clause-left : goal.returns-in-Err-clause-left
returns-in-Err-clause-left g c keeps =
    left_new c.args.layout.now c.args.site (named c.args.group) c.args.cells.items g.S.Store c.check_permission.new.connection c.in-Err.error
    (leaves_still g.S.Store c.args.connection c.check_permission.new.connection HoldsNothing c.check_permission.ensures.survives keeps)

pub returns-in-Err-clause-there : goal.returns-in-Err-clause-there
returns-in-Err-clause-there g c it keeps = leaves_still g.S.Store c.args.connection c.check_permission.new.connection (Holds it) c.check_permission.ensures.survives keeps

pub returns-in-Err-clause-judged : goal.returns-in-Err-clause-judged
returns-in-Err-clause-judged g c = λ no_fault no_memory. c.check_permission.ensures.survives

-- ---- it holds nothing

pub fill_new-done-requires : goal.fill_new-done-requires
fill_new-done-requires g c = tells_counters c.args.layout.now c.sites.ensures.layout c.args.site c.args.cells.items c.requires.cells

pub returns-clause-content : goal.returns-clause-content
returns-clause-content g c =
    is_new c.args.layout.now c.args.site (named c.args.group) c.args.cells.items (tells_counters c.args.layout.now c.sites.ensures.layout c.args.site c.args.cells.items c.requires.cells)

pub returns-clause-made : goal.returns-clause-made
returns-clause-made g c keeps =
    let c1 = c.check_permission.new.connection in
    let here = subst (λ (h : Held g.row.S.Denot). KeepsNothing g.S.Store h) (sym c.over-tables.ensures.connection)
    (leaves_still g.S.Store c.args.connection c1 HoldsNothing c.check_permission.ensures.survives keeps) in
    subst (λ (h : Held g.row.S.Denot). OnOk c.fill_new-done.result (Keeps g.S.Store h (new_content c.args.layout.now c.args.site (named c.args.group) c.args.cells.items)))
    (sym c.into_connection.ensures) (c.fill_new-done.ensures.made here)

pub returns-clause-left : goal.returns-clause-left
returns-clause-left g c keeps =
    let c1 = c.check_permission.new.connection in
    let here = subst (λ (h : Held g.row.S.Denot). KeepsNothing g.S.Store h) (sym c.over-tables.ensures.connection)
    (leaves_still g.S.Store c.args.connection c1 HoldsNothing c.check_permission.ensures.survives keeps) in
    subst (λ (h : Held g.row.S.Denot). IfErr c.fill_new-done.result (IsLeftNew g.S.Store c.args.layout.now c.args.site (named c.args.group) c.args.cells.items h))
    (sym c.into_connection.ensures) (c.fill_new-done.ensures.left here)

pub returns-clause-there : goal.returns-clause-there
returns-clause-there g c it keeps =
    let c1 = c.check_permission.new.connection in
    if_honest g.S.Store c.into_connection.result (Holds it) (λ clean.
    let at = subst (λ (h : Held g.row.S.Denot). HasCleanDisk (state g.S.Store h)) c.into_connection.ensures clean in
    let before = subst (λ (h : Held g.row.S.Denot). HasCleanDisk (state g.S.Store h)) c.over-tables.ensures.connection (c.fill_new-done.ensures.honest at) in
    absurd (true_is_none (off_store g.S.Store g.met.S.Store.stays to_make c.args.connection c1 c.check_permission.ensures.survives c.in-Ok.ensures.settled c.in-Ok.ensures.granted it keeps before)))

pub returns-clause-never : goal.returns-clause-never
returns-clause-never g c it keeps clean =
    let c1 = c.check_permission.new.connection in
    let at = subst (λ (h : Held g.row.S.Denot). HasCleanDisk (state g.S.Store h)) c.into_connection.ensures clean in
    let before = subst (λ (h : Held g.row.S.Denot). HasCleanDisk (state g.S.Store h)) c.over-tables.ensures.connection (c.fill_new-done.ensures.honest at) in
    absurd (true_is_none (off_store g.S.Store g.met.S.Store.stays to_make c.args.connection c1 c.check_permission.ensures.survives c.in-Ok.ensures.settled c.in-Ok.ensures.granted it keeps before))

pub returns-clause-denied : goal.returns-clause-denied
returns-clause-denied g c clean = denied_new c.fill_new-done.result to_make _ c.fill_new-done.ensures.device

pub returns-clause-blank : goal.returns-clause-blank
returns-clause-blank g c clean =
    let at = subst (λ (h : Held g.row.S.Denot). HasCleanDisk (state g.S.Store h)) c.into_connection.ensures clean in
    let before = subst (λ (h : Held g.row.S.Denot). HasCleanDisk (state g.S.Store h)) c.over-tables.ensures.connection (c.fill_new-done.ensures.honest at) in
    on_well c.fill_new-done.result (c.in-Ok.ensures.granted before)

pub returns-clause-judged : goal.returns-clause-judged
returns-clause-judged g c = none_judged _ c.fill_new-done.result c.fill_new-done.ensures.device
