use Rattle.std.proofs.Common.{◌≡◌, Option, IfSome, Result, Err, ap, sym, subst, arith}
use Rattle.sqlite.specs.Held.{Held}
use Rattle.store_rows.specs.Holding.{Keeps, KeepsBeside}
use Rattle.store_tables.specs.declared.error.TableError.{TableError}
use Rattle.store_tables.specs.Kept.{connection_of}
use Rattle.store_content.specs.Plan.{IsPlan, IsPlanned, RowsState, Makes}
use Rattle.site_store.specs.Errors.{keeper_error}
use Rattle.durable_keeper.specs.declared.error.KeeperError.TheVariants.{StoreFault}
use Rattle.site_store.proofs.SqlLemmas.{fault_is, unchanged, takes_rows, in_doubt, made_change}
use Rattle.site_store.proofs.sql.commit_rows.Goals as goal

abbrev error : TableError → Result (Unit {0}) TableError
error e = Err e

pub returns-in_default-clause-fault : goal.returns-in_default-clause-fault
returns-in_default-clause-fault g c layout site it stores fault =
    unchanged g.S.Store (connection_of c.stop.new.self) layout site c.args.change.now it stores.own
    (subst (λ (h : Held g.row.S.Denot). Keeps g.S.Store h it) (sym c.stop.ensures.connection) stores.kept)

pub returns-then-not-are_rows-clause-fault : goal.returns-then-not-are_rows-clause-fault
returns-then-not-are_rows-clause-fault g c layout site it stores fault =
    unchanged g.S.Store (connection_of c.stop-then-not-are_rows.new.self) layout site c.args.change.now it stores.own
    (subst (λ (h : Held g.row.S.Denot). Keeps g.S.Store h it) (sym c.stop-then-not-are_rows.ensures.connection) stores.kept)

pub returns-clause-fault : goal.returns-clause-fault
returns-clause-fault g c layout site it stores fault =
    let conn = connection_of c.put.new.tables in
    let told : keeper_error c.in-Err.refusal ≡ StoreFault = grind (arith, fault, c.keeper_error.ensures) in
    let is = fault_is c.in-Err.refusal (λ e. c.in-Err.ensures.kind (ap error e)) told in
    let makes : Makes c.args.change.now it c.in-Some.rows =
    subst (λ (o : Option RowsState). IfSome o (Makes c.args.change.now it)) c.in-Some.is (c.in_ok-rows.ensures.law it stores.known stores.own.content c.requires.tellable) in
    let plan : IsPlan c.args.change.now it c.in-Some.rows =
    subst (λ (o : Option RowsState). IsPlanned c.args.change.now it o) c.in-Some.is (c.in_ok-rows.ensures.rows it stores.known c.requires.tellable) in
    in_doubt g.S.Store conn layout site c.args.change.now it stores.own c.in-Some.rows plan makes
    (c.in-Err.ensures.either it (takes_rows layout site it c.args.change.now c.in-Some.rows stores.own makes) stores.kept (ap error is))

pub returns-in-Ok-clause-ok : goal.returns-in-Ok-clause-ok
returns-in-Ok-clause-ok g c layout site it stores =
    let conn = connection_of c.put.new.tables in
    let rows = c.in-Some.rows in
    let makes : Makes c.args.change.now it rows =
    subst (λ (o : Option RowsState). IfSome o (Makes c.args.change.now it)) c.in-Some.is (c.in_ok-rows.ensures.law it stores.known stores.own.content c.requires.tellable) in
    let plan : IsPlan c.args.change.now it rows =
    subst (λ (o : Option RowsState). IsPlanned c.args.change.now it o) c.in-Some.is (c.in_ok-rows.ensures.rows it stores.known c.requires.tellable) in
    made_change g.S.Store conn layout site c.args.change.now it stores.own rows plan makes c.advance.new.self
    (c.in-Ok.ensures.ok it (takes_rows layout site it c.args.change.now rows stores.own makes) stores.kept)
    (c.advance.ensures c.args.change.now it (c.in_ok-reserve.ensures.knows it stores.known) stores.own.content plan)

-- ---- the other tables

pub returns-in_default-clause-beside : goal.returns-in_default-clause-beside
returns-in_default-clause-beside g c layout site it others stores beside =
    subst (λ (h : Held g.row.S.Denot). KeepsBeside g.S.Store h others) (sym c.stop.ensures.connection) beside

pub returns-then-not-are_rows-clause-beside : goal.returns-then-not-are_rows-clause-beside
returns-then-not-are_rows-clause-beside g c layout site it others stores beside =
    subst (λ (h : Held g.row.S.Denot). KeepsBeside g.S.Store h others) (sym c.stop-then-not-are_rows.ensures.connection) beside

pub returns-in-Ok-clause-beside : goal.returns-in-Ok-clause-beside
returns-in-Ok-clause-beside g c layout site it others stores beside =
    let makes : Makes c.args.change.now it c.in-Some.rows =
    subst (λ (o : Option RowsState). IfSome o (Makes c.args.change.now it)) c.in-Some.is (c.in_ok-rows.ensures.law it stores.known stores.own.content c.requires.tellable) in
    c.put.ensures.beside it others (takes_rows layout site it c.args.change.now c.in-Some.rows stores.own makes) stores.kept beside

pub returns-clause-beside : goal.returns-clause-beside
returns-clause-beside g c layout site it others stores beside =
    let makes : Makes c.args.change.now it c.in-Some.rows =
    subst (λ (o : Option RowsState). IfSome o (Makes c.args.change.now it)) c.in-Some.is (c.in_ok-rows.ensures.law it stores.known stores.own.content c.requires.tellable) in
    c.put.ensures.beside it others (takes_rows layout site it c.args.change.now c.in-Some.rows stores.own makes) stores.kept beside

-- ---- why it is refused
