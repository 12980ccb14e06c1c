use Rattle.std.proofs.Common.{List, ◌∷◌, length, take, drop, ◌-◌, subst}
use Rattle.desk_log.specs.declared.transcript.Run.{Run}
use Rattle.log_replay.specs.declared.replay.Step.{Step}
use Rattle.log_replay.specs.Replay.{IsOnPath, IsStep}
use Rattle.log_replay.proofs.ListLemmas.{parts, none_left}
use Rattle.log_replay.proofs.ReplayLemmas.{at_end, own_at}
use Rattle.log_replay.proofs.replay.replay_runs.Goals as goal

pub replay_next-requires : goal.replay_next-requires
replay_next-requires c = (
  c.args.site,
  c.args.runs.now,
  c.args.cut,
  subst (λ (rs : List Run). IsOnPath c.args.layout.now c.args.site c.args.runs.now c.args.cut rs c.runs.core c.runs.trail.kept.items c.runs.trail.at c.runs.trail.mark.left c.runs.trail.mark.own)
      (parts c.runs.rest.now c.run-item.result c.in-len1-up.len_at_least c.run-item.is) c.runs.invariant,
)

pub returns-in-Ends : goal.returns-in-Ends
returns-in-Ends c =
    let later = take (length c.runs.rest.now - 1) (drop 1 c.runs.rest.now) in
    let on : IsOnPath c.args.layout.now c.args.site c.args.runs.now c.args.cut (c.run-item.result ∷ later) c.runs.core c.runs.trail.kept.items c.runs.trail.at c.runs.trail.mark.left c.runs.trail.mark.own =
    subst (λ (rs : List Run). IsOnPath c.args.layout.now c.args.site c.args.runs.now c.args.cut rs c.runs.core c.runs.trail.kept.items c.runs.trail.at c.runs.trail.mark.left c.runs.trail.mark.own)
    (parts c.runs.rest.now c.run-item.result c.in-len1-up.len_at_least c.run-item.is) c.runs.invariant in
    subst (λ (s : Step). IsStep c.args.layout.now c.args.site c.args.runs.now c.args.cut later c.replay_next.new.trail.kept.items c.replay_next.new.trail.at c.replay_next.new.trail.mark.left c.replay_next.new.trail.mark.own s) c.in-Ends.is
    (c.in_ok-next.ensures c.args.site c.args.runs.now c.args.cut on)

pub runs-preserved : goal.runs-preserved
runs-preserved c =
    let later = take (length c.runs.rest.now - 1) (drop 1 c.runs.rest.now) in
    let on : IsOnPath c.args.layout.now c.args.site c.args.runs.now c.args.cut (c.run-item.result ∷ later) c.runs.core c.runs.trail.kept.items c.runs.trail.at c.runs.trail.mark.left c.runs.trail.mark.own =
    subst (λ (rs : List Run). IsOnPath c.args.layout.now c.args.site c.args.runs.now c.args.cut rs c.runs.core c.runs.trail.kept.items c.runs.trail.at c.runs.trail.mark.left c.runs.trail.mark.own)
    (parts c.runs.rest.now c.run-item.result c.in-len1-up.len_at_least c.run-item.is) c.runs.invariant in
    subst (λ (s : Step). IsStep c.args.layout.now c.args.site c.args.runs.now c.args.cut later c.replay_next.new.trail.kept.items c.replay_next.new.trail.at c.replay_next.new.trail.mark.left c.replay_next.new.trail.mark.own s) c.in-Goes.is
    (c.in_ok-next.ensures c.args.site c.args.runs.now c.args.cut on)

pub returns : goal.returns
returns c =
    let none = none_left c.runs.rest.now c.in_default-rest.len_below in
    let ended = at_end c.args.layout.now c.args.site c.args.runs.now c.args.cut c.runs.rest.now c.runs.core c.runs.trail.kept.items c.runs.trail.at c.runs.trail.mark.left c.runs.trail.mark.own c.runs.invariant none in (
      ended.0,
      ended.1,
      own_at c.args.layout.now c.args.site c.args.runs.now c.args.cut c.runs.rest.now c.runs.core c.runs.trail.kept.items c.runs.trail.at c.runs.trail.mark.left c.runs.trail.mark.own c.runs.invariant none
          c.in_ok-own.own c.in_ok-own.ensures,
    )
