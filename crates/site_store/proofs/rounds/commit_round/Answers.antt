-- After want of memory the index is made again; after any other refusal the tables are stopped.
use Rattle.std.proofs.Common.{◌≡◌, Result, Err, ap, sym, subst}
use Rattle.sqlite.specs.Held.{Held}
use Rattle.store_rows.specs.Holding.{KeepsBeside}
use Rattle.store_tables.specs.Kept.{connection_of}
use Rattle.durable_keeper.specs.declared.error.KeeperError.{KeeperError}
use Rattle.durable_keeper.specs.declared.error.KeeperError.TheVariants.{Memory}
use Rattle.site_store.specs.Rounds.{ChangesAllOrNone}
use Rattle.site_store.proofs.RoundLemmas.{none_changed}
use Rattle.site_store.proofs.rounds.commit_round.Goals as goal

abbrev error : KeeperError → Result (Unit {0}) KeeperError
error e = Err e

pub returns-in-Err-Memory-clause-memory : goal.returns-in-Err-Memory-clause-memory
returns-in-Err-Memory-clause-memory g c layout site it stores clean is =
    let kept = c.in-Err-Memory.ensures.memory it stores.kept (ap error c.in-Err-Memory.field-0-is) in
    let told : c.renew_index.result ≡ Memory = cc in
    record { own = stores.own; kept = c.renew_index.ensures.kept it kept; known = c.renew_index.ensures.known it kept clean told }

pub returns-in-Err-Memory-clause-fault : goal.returns-in-Err-Memory-clause-fault
returns-in-Err-Memory-clause-fault g c layout site it stores fault =
    let kept = c.in-Err-Memory.ensures.memory it stores.kept (ap error c.in-Err-Memory.field-0-is) in
    none_changed g.S.Store (connection_of c.renew_index.new.tables) layout site c.args.changes.now it stores.own (c.renew_index.ensures.kept it kept)

pub returns-in-Err-Memory-clause-beside : goal.returns-in-Err-Memory-clause-beside
returns-in-Err-Memory-clause-beside g c layout site it others stores beside =
    c.renew_index.ensures.beside others (c.in-Err-Memory.ensures.beside layout site it others stores beside)

pub returns-in-Err-StoreFault-clause-fault : goal.returns-in-Err-StoreFault-clause-fault
returns-in-Err-StoreFault-clause-fault g c layout site it stores fault =
    subst (λ (h : Held g.row.S.Denot). ChangesAllOrNone g.S.Store layout site c.args.changes.now it h) (sym c.stop.ensures.connection)
    (c.in-Err-StoreFault.ensures.fault layout site it stores (ap error c.in-Err-StoreFault.field-0-is))

pub returns-in-Err-StoreFault-clause-beside : goal.returns-in-Err-StoreFault-clause-beside
returns-in-Err-StoreFault-clause-beside g c layout site it others stores beside =
    subst (λ (h : Held g.row.S.Denot). KeepsBeside g.S.Store h others) (sym c.stop.ensures.connection) (c.in-Err-StoreFault.ensures.beside layout site it others stores beside)

pub returns-in-Ok-clause-ok : goal.returns-in-Ok-clause-ok
returns-in-Ok-clause-ok g c layout site it stores = c.in-Ok.ensures.ok layout site it stores
