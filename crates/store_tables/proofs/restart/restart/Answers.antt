use Rattle.std.proofs.Common.{◌⊎◌, sym, subst}
use Rattle.sqlite.specs.State.{HasCleanDisk}
use Rattle.sqlite.specs.Held.{state}
use Rattle.sqlite.specs.Files.{over_files}
use Rattle.store_rows.specs.Holding.{Holds, HoldsBeside, HoldsNothing, Leaves}
use Rattle.store_tables.specs.Marking.{HasOutdatedMark}
use Rattle.store_tables.proofs.RestartLemmas.{leaves_again, was_honest}
use Rattle.store_tables.proofs.restart.restart.Goals as goal

pub returns-in-Ok-clause-kept : goal.returns-in-Ok-clause-kept
returns-in-Ok-clause-kept g c it keeps =
    let was = subst (λ h. Leaves over_files h (Holds it)) (sym c.into_connection.ensures) keeps in
    subst (λ h. Leaves over_files h (Holds it)) (sym c.over.ensures.connection)
    (leaves_again g.met.D.Disk.seen_may_stay c.into_connection.result c.into_store.result c.close-left.result (record { log = c.crash.new.self; db = c.crash-2.new.self }) c.in-Ok.conn c.into_store.ensures.numbered c.into_store.ensures.sound c.into_store.ensures.quiet
    c.close-left.ensures c.crash.ensures.left c.crash-2.ensures.left c.crash.ensures.clean c.crash-2.ensures.clean c.in-Ok.ensures.opened c.in-Ok.ensures.found (Holds it) was)

pub returns-in-Ok-clause-either : goal.returns-in-Ok-clause-either
returns-in-Ok-clause-either g c a b keeps =
    let was = subst (λ h. Leaves over_files h (λ db. Holds a db ⊎ Holds b db)) (sym c.into_connection.ensures) keeps in
    subst (λ h. Leaves over_files h (λ db. Holds a db ⊎ Holds b db)) (sym c.over.ensures.connection)
    (leaves_again g.met.D.Disk.seen_may_stay c.into_connection.result c.into_store.result c.close-left.result (record { log = c.crash.new.self; db = c.crash-2.new.self }) c.in-Ok.conn c.into_store.ensures.numbered c.into_store.ensures.sound c.into_store.ensures.quiet
    c.close-left.ensures c.crash.ensures.left c.crash-2.ensures.left c.crash.ensures.clean c.crash-2.ensures.clean c.in-Ok.ensures.opened c.in-Ok.ensures.found (λ db. Holds a db ⊎ Holds b db) was)

pub returns-in-Ok-clause-bare : goal.returns-in-Ok-clause-bare
returns-in-Ok-clause-bare g c keeps =
    let was = subst (λ h. Leaves over_files h HoldsNothing) (sym c.into_connection.ensures) keeps in
    subst (λ h. Leaves over_files h HoldsNothing) (sym c.over.ensures.connection)
    (leaves_again g.met.D.Disk.seen_may_stay c.into_connection.result c.into_store.result c.close-left.result (record { log = c.crash.new.self; db = c.crash-2.new.self }) c.in-Ok.conn c.into_store.ensures.numbered c.into_store.ensures.sound c.into_store.ensures.quiet
    c.close-left.ensures c.crash.ensures.left c.crash-2.ensures.left c.crash.ensures.clean c.crash-2.ensures.clean c.in-Ok.ensures.opened c.in-Ok.ensures.found HoldsNothing was)

pub returns-in-Ok-clause-beside : goal.returns-in-Ok-clause-beside
returns-in-Ok-clause-beside g c others keeps =
    let was = subst (λ h. Leaves over_files h (HoldsBeside others)) (sym c.into_connection.ensures) keeps in
    subst (λ h. Leaves over_files h (HoldsBeside others)) (sym c.over.ensures.connection)
    (leaves_again g.met.D.Disk.seen_may_stay c.into_connection.result c.into_store.result c.close-left.result (record { log = c.crash.new.self; db = c.crash-2.new.self }) c.in-Ok.conn c.into_store.ensures.numbered c.into_store.ensures.sound c.into_store.ensures.quiet
    c.close-left.ensures c.crash.ensures.left c.crash-2.ensures.left c.crash.ensures.clean c.crash-2.ensures.clean c.in-Ok.ensures.opened c.in-Ok.ensures.found (HoldsBeside others) was)

pub returns-in-Ok-clause-bare_or : goal.returns-in-Ok-clause-bare_or
returns-in-Ok-clause-bare_or g c it keeps =
    let was = subst (λ h. Leaves over_files h (λ db. HoldsNothing db ⊎ Holds it db)) (sym c.into_connection.ensures) keeps in
    subst (λ h. Leaves over_files h (λ db. HoldsNothing db ⊎ Holds it db)) (sym c.over.ensures.connection)
    (leaves_again g.met.D.Disk.seen_may_stay c.into_connection.result c.into_store.result c.close-left.result (record { log = c.crash.new.self; db = c.crash-2.new.self }) c.in-Ok.conn c.into_store.ensures.numbered c.into_store.ensures.sound c.into_store.ensures.quiet
    c.close-left.ensures c.crash.ensures.left c.crash-2.ensures.left c.crash.ensures.clean c.crash-2.ensures.clean c.in-Ok.ensures.opened c.in-Ok.ensures.found (λ db. HoldsNothing db ⊎ Holds it db) was)

pub returns-in-Ok-clause-honest : goal.returns-in-Ok-clause-honest
returns-in-Ok-clause-honest g c clean =
    subst (λ h. HasCleanDisk (state over_files h)) c.into_connection.ensures
    (was_honest g.met.D.Disk.seen_may_stay c.into_connection.result c.into_store.result c.close-left.result (record { log = c.crash.new.self; db = c.crash-2.new.self }) c.in-Ok.conn c.into_store.ensures.numbered c.into_store.ensures.sound c.into_store.ensures.quiet
    c.close-left.ensures c.crash.ensures.left c.crash-2.ensures.left c.crash.ensures.clean c.crash-2.ensures.clean c.in-Ok.ensures.opened c.in-Ok.ensures.found (subst (λ h. HasCleanDisk (state over_files h)) c.over.ensures.connection clean))

pub returns-in-Ok-clause-marked : goal.returns-in-Ok-clause-marked
returns-in-Ok-clause-marked g c keeps =
    let was = subst (λ h. Leaves over_files h HasOutdatedMark) (sym c.into_connection.ensures) keeps in
    subst (λ h. Leaves over_files h HasOutdatedMark) (sym c.over.ensures.connection)
    (leaves_again g.met.D.Disk.seen_may_stay c.into_connection.result c.into_store.result c.close-left.result (record { log = c.crash.new.self; db = c.crash-2.new.self }) c.in-Ok.conn c.into_store.ensures.numbered c.into_store.ensures.sound c.into_store.ensures.quiet
    c.close-left.ensures c.crash.ensures.left c.crash-2.ensures.left c.crash.ensures.clean c.crash-2.ensures.clean c.in-Ok.ensures.opened c.in-Ok.ensures.found HasOutdatedMark was)
