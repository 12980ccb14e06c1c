use Rattle.desk_log.proofs.FollowingLemmas.{follows}
use Rattle.desk_log.proofs.desk.Desk.serve_with_receipt.Goals as goal

pub returns-clause-follows : goal.returns-clause-follows
returns-clause-follows g c =
    let served = c.answer in
    follows g.K.Keeper c.args.self.now served.new.self c.args.pass c.args.call.now served.result.0 (rw (← c.self.view_is) c.self.invariant) served.ensures.served
