use Rattle.std.proofs.Common.{sym, subst}
use Rattle.merge_core.specs.Rows.{counters_of}
use Rattle.log_replay.specs.declared.stream.Stage.{Stage}
use Rattle.log_replay.specs.Stream.{HasEnded, IsStage}
use Rattle.log_replay.proofs.DoneLemmas.{done_ahead, done_behind}
use Rattle.log_replay.proofs.stream.SiteReplay.has_done.Goals as goal

pub returns-in-Some : goal.returns-in-Some
returns-in-Some c = λ done layout i runs more later it.
    let few = c.is_done_in.ensures done in
    done_behind layout i runs more later c.args.self.now c.in-Some.own c.args.row.now it (λ over. subst HasEnded c.in-Open.is over) c.in-Some.is few.0 few.1

pub returns-in-None : goal.returns-in-None
returns-in-None c = λ done layout i runs more later it.
    done_ahead layout i runs more later c.args.self.now c.in-Open.core c.in-Open.field-1.items c.args.row.now.r (counters_of c.args.row.now) it (λ over. subst HasEnded c.in-Open.is over)
    (λ stage. subst (λ (s : Stage). IsStage layout i runs more later c.args.self.now.at s) c.in-Open.is stage) c.in-None.is (c.is_done_by.ensures done)
