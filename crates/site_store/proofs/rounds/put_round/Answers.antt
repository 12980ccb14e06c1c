use Rattle.std.proofs.Common.{◌≡◌, Result, Err, ap, arith}
use Rattle.store_tables.specs.declared.error.TableError.{TableError}
use Rattle.store_tables.specs.Kept.{connection_of}
use Rattle.site_store.specs.Errors.{keeper_error}
use Rattle.durable_keeper.specs.declared.error.KeeperError.TheVariants.{StoreFault}
use Rattle.site_store.proofs.SqlLemmas.{fault_is}
use Rattle.site_store.proofs.RoundLemmas.{all_changed, all_in_doubt, none_changed}
use Rattle.site_store.proofs.rounds.put_round.Goals as goal

abbrev error : TableError → Result (Unit {0}) TableError
error e = Err e

pub returns-in-Ok-clause-ok : goal.returns-in-Ok-clause-ok
returns-in-Ok-clause-ok g c layout site it stores =
    let plans = c.in_ok-round.ensures.plans it stores.own.second stores.own.content stores.known in
    all_changed g.S.Store (connection_of c.put_all.new.tables) layout site c.args.changes.now it stores.own c.in_ok-round.round.cells.items c.in_ok-round.round.notices.items c.in_ok-round.round.edits.items c.plan_round.new.index plans
    (c.in-Ok.ensures.ok it plans.takes stores.kept)

pub returns-clause-fault : goal.returns-clause-fault
returns-clause-fault g c layout site it stores fault =
    let plans = c.in_ok-round.ensures.plans it stores.own.second stores.own.content stores.known in
    let told : keeper_error c.in-Err.refusal ≡ StoreFault = grind (arith, fault, c.keeper_error.ensures) in
    let is = fault_is c.in-Err.refusal (λ e. c.in-Err.ensures.kind (ap error e)) told in
    all_in_doubt g.S.Store (connection_of c.put_all.new.tables) layout site c.args.changes.now it stores.own c.in_ok-round.round.cells.items c.in_ok-round.round.notices.items c.in_ok-round.round.edits.items c.plan_round.new.index plans
    (c.in-Err.ensures.either it plans.takes stores.kept (ap error is))

pub returns-in_err-round-clause-fault : goal.returns-in_err-round-clause-fault
returns-in_err-round-clause-fault g c layout site it stores fault =
    none_changed g.S.Store (connection_of c.args.tables.now) layout site c.args.changes.now it stores.own stores.kept

pub returns-in-Ok-clause-beside : goal.returns-in-Ok-clause-beside
returns-in-Ok-clause-beside g c layout site it others stores beside =
    let plans = c.in_ok-round.ensures.plans it stores.own.second stores.own.content stores.known in
    c.put_all.ensures.beside it others plans.takes stores.kept beside

pub returns-clause-beside : goal.returns-clause-beside
returns-clause-beside g c layout site it others stores beside =
    let plans = c.in_ok-round.ensures.plans it stores.own.second stores.own.content stores.known in
    c.put_all.ensures.beside it others plans.takes stores.kept beside
