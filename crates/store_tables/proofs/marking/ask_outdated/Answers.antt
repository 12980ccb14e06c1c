use Rattle.std.proofs.Common.{◌≡◌, Ok, Err, rules, subst}
use Rattle.sqlite.specs.Held.{state}
use Rattle.store_tables.specs.Marking.{ReadsOutdated}
use Rattle.store_tables.proofs.FoundLemmas.{outdated_passed, outdated_whole}
use Rattle.store_tables.proofs.marking.ask_outdated.Goals as goal

pub returns-clause-reads : goal.returns-clause-reads
returns-clause-reads g c =
    let end = c.drop-tx-2.new.self.0 in
    let same : end ≡ c.conn-2-1.given.0 = search rules in
    subst (λ h. ReadsOutdated (state g.S.Store c.args.conn.now) (Ok c.in_ok-found.found) (state g.S.Store h)) same
    (outdated_whole g.S.Store c.args.conn.now end c.transaction-tx.result c.read_outdated.new.tx c.transaction-tx.ensures.begun c.drop-tx-2.ensures.survives (Ok c.in_ok-found.found) c.in_ok-found.ensures.reads)

pub returns-in_err-found-clause-reads : goal.returns-in_err-found-clause-reads
returns-in_err-found-clause-reads g c =
    let end = c.drop-tx.new.self.0 in
    let same : end ≡ c.conn-1.given.0 = search rules in
    subst (λ h. ReadsOutdated (state g.S.Store c.args.conn.now) c.from_residual.result (state g.S.Store h)) same
    (outdated_passed c.from_residual.result c.from_residual.ensures.1
    (outdated_whole g.S.Store c.args.conn.now end c.transaction-tx.result c.read_outdated.new.tx c.transaction-tx.ensures.begun c.drop-tx.ensures.survives (Err c.in_err-found.field-0.0) c.in_err-found.ensures.reads))
