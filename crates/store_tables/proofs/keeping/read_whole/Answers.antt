use Rattle.std.proofs.Common.{◌≡◌, Ok, Err, rules, subst}
use Rattle.sqlite.specs.Held.{state}
use Rattle.store_tables.specs.Reads.{ReadsFound}
use Rattle.store_tables.proofs.FoundLemmas.{found_passed, found_whole}
use Rattle.store_tables.proofs.keeping.read_whole.Goals as goal

pub returns-clause-reads : goal.returns-clause-reads
returns-clause-reads g c =
    let end = c.drop-tx-2.new.self.0 in
    let same : end ≡ c.conn-2-1.given.0 = search rules in
    subst (λ h. ReadsFound c.args.found (state g.S.Store c.args.conn.now) (Ok c.in_ok-content.content) (state g.S.Store h)) same
    (found_whole g.S.Store c.args.conn.now end c.transaction-tx.result c.read_found.new.tx c.transaction-tx.ensures.begun c.drop-tx-2.ensures.survives (Ok c.in_ok-content.content) c.args.found c.in_ok-content.ensures.reads)

pub returns-in_err-content-clause-reads : goal.returns-in_err-content-clause-reads
returns-in_err-content-clause-reads g c =
    let end = c.drop-tx.new.self.0 in
    let same : end ≡ c.conn-1.given.0 = search rules in
    subst (λ h. ReadsFound c.args.found (state g.S.Store c.args.conn.now) c.from_residual.result (state g.S.Store h)) same
    (found_passed c.from_residual.result c.from_residual.ensures.1
    (found_whole g.S.Store c.args.conn.now end c.transaction-tx.result c.read_found.new.tx c.transaction-tx.ensures.begun c.drop-tx.ensures.survives (Err c.in_err-content.field-0.0) c.args.found c.in_err-content.ensures.reads))
