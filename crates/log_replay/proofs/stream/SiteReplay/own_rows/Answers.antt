use Rattle.std.proofs.Common.{ℕ, None, length, subst, sym}
use Rattle.std.proofs.lemmas.Result.{IfOk-weaker}
use Rattle.log_replay.specs.Legal.{start_account, account_at}
use Rattle.log_replay.specs.Replay.{TellsOwn}
use Rattle.log_replay.specs.Stream.{IsMarkedAt}
use Rattle.log_replay.proofs.StreamLemmas.{cut_at_end}
use Rattle.log_replay.proofs.stream.SiteReplay.own_rows.Goals as goal

pub returns-in-None : goal.returns-in-None
returns-in-None c =
    let self = c.args.self.now in
    IfOk-weaker c.rows_at_end.result _ _
    (λ rows tells runs it going within.
    let marked = subst (IsMarkedAt c.args.layout.now c.args.site runs self.cut self.at) c.in-None.is (it.mark going) in
    subst (λ (n : ℕ). TellsOwn (length c.args.layout.now.records) rows (account_at (start_account c.args.layout.now c.args.site runs) n runs))
    (sym (cut_at_end c.args.layout.now c.args.site runs self.cut self.at marked within)) (tells runs self.at it.stage going))
    c.rows_at_end.ensures
