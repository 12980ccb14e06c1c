use Rattle.std.proofs.Common.{Ok, Err, refl}
use Rattle.sqlite.specs.Held.{state}
use Rattle.store_tables.proofs.FoundLemmas.{found_blank, found_other, found_passed, found_refused, found_store}
use Rattle.store_tables.proofs.keeping.read_found.Goals as goal

pub returns-in_err-check_open-clause-reads : goal.returns-in_err-check_open-clause-reads
returns-in_err-check_open-clause-reads g c =
    found_refused c.from_residual.result c.in_err-check_open.field-0.0 c.args.found (state g.S.Store c.args.tx.now.conn.now) (state g.S.Store c.check_open.new.tx.conn.now) c.from_residual.ensures.1 (λ clean other. c.in_err-check_open.ensures.refused clean _ refl other) c.check_open.ensures.survives

pub returns-in-Blank-clause-reads : goal.returns-in-Blank-clause-reads
returns-in-Blank-clause-reads g c = found_blank c.args.found (state g.S.Store c.args.tx.now.conn.now) (state g.S.Store c.check_open.new.tx.conn.now) c.in-Blank.is (λ clean. (c.in_ok-check_open.ensures.open clean).0.was_open) c.check_open.ensures.survives

pub returns-in-Other-clause-reads : goal.returns-in-Other-clause-reads
returns-in-Other-clause-reads g c = found_other c.args.found (state g.S.Store c.args.tx.now.conn.now) (state g.S.Store c.check_open.new.tx.conn.now) c.in-Other.is (λ clean. (c.in_ok-check_open.ensures.open clean).0.was_open) c.check_open.ensures.survives

pub returns-in_ok-content-in-Store-clause-reads : goal.returns-in_ok-content-in-Store-clause-reads
returns-in_ok-content-in-Store-clause-reads g c =
    found_store (Ok c.in_ok-content-in-Store.content) c.args.found c.in-Store.version (state g.S.Store c.args.tx.now.conn.now) (state g.S.Store c.check_open.new.tx.conn.now) (state g.S.Store c.read_all.new.tx.conn.now) c.in-Store.is c.in_ok-check_open.ensures.open c.check_open.ensures.survives
    c.in_ok-content-in-Store.ensures.read c.in_ok-content-in-Store.ensures.own c.in_ok-content-in-Store.ensures.refused c.read_all.ensures.survives

pub returns-in_err-content-in-Store-clause-reads : goal.returns-in_err-content-in-Store-clause-reads
returns-in_err-content-in-Store-clause-reads g c =
    found_passed c.from_residual-in_err-content-in-Store.result c.from_residual-in_err-content-in-Store.ensures.1
    (found_store (Err c.in_err-content-in-Store.field-0.0) c.args.found c.in-Store.version (state g.S.Store c.args.tx.now.conn.now) (state g.S.Store c.check_open.new.tx.conn.now) (state g.S.Store c.read_all.new.tx.conn.now) c.in-Store.is c.in_ok-check_open.ensures.open c.check_open.ensures.survives
    c.in_err-content-in-Store.ensures.read c.in_err-content-in-Store.ensures.own c.in_err-content-in-Store.ensures.refused c.read_all.ensures.survives)
