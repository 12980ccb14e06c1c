use Rattle.std.proofs.Common.{rules}
use Rattle.store_tables.proofs.RoundLemmas.{all_turn}
use Rattle.store_tables.proofs.TransactLemmas.{committed, refused, rolled_back}
use Rattle.store_tables.proofs.rounds.write_all.Goals as goal

pub returns-in-Ok : goal.returns-in-Ok
returns-in-Ok g c =
    committed (λ a b. all_turn a b c.args.cells.now c.args.notices.now c.args.edits.now) c.args.conn.now c.commit.new.self.0 c.transaction-tx.result c.change_all.new.tx c.transaction-tx.ensures.begun c.in_ok-change_all.ensures c.commit.ensures.survives (λ clean. (c.in-Ok.ensures.ok clean).1) c.commit.ensures.ended
    (search rules)

pub returns-in-Err : goal.returns-in-Err
returns-in-Err g c =
    refused (λ a b. all_turn a b c.args.cells.now c.args.notices.now c.args.edits.now) c.args.conn.now c.commit.new.self.0 c.conn-2-1.given.0 c.refusal_of.new.conn c.transaction-tx.result c.change_all.new.tx g.met.S.Store.settled g.met.S.Store.stays c.in-Err.error c.refusal_of.result c.transaction-tx.ensures.begun c.in_ok-change_all.ensures
    c.commit.ensures.survives (λ clean. c.in-Err.ensures.err clean) (search rules) c.refusal_of.ensures.idle c.refusal_of.ensures.kind c.refusal_of.ensures.settled c.refusal_of.ensures.survives

pub returns-in_err-change_all : goal.returns-in_err-change_all
returns-in_err-change_all g c =
    rolled_back c.from_residual.result c.args.conn.now c.drop-tx.new.self.0 c.transaction-tx.result c.change_all.new.tx c.transaction-tx.ensures.begun c.in_err-change_all.ensures c.from_residual.ensures.1 c.drop-tx.ensures.survives c.drop-tx.ensures.ended (search rules)
