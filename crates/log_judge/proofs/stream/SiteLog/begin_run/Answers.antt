use Rattle.std.proofs.Common.{refl}
use Rattle.std.proofs.lemmas.Result.{IfOk-weaker}
use Rattle.desk_log.specs.declared.transcript.Run.{Run}
use Rattle.log_judge.specs.Cut.{runs_at}
use Rattle.log_judge.proofs.StreamLemmas.{log_begun}
use Rattle.log_judge.proofs.stream.SiteLog.begin_run.Goals as goal

pub returns : goal.returns
returns c =
    IfOk-weaker c.take_kept.result _ _
    (λ x takes ts cut es later log.
    let old = c.args.self.now in
    let step = c.in_ok-kept.ensures in
    let next : Run = record { sites = c.args.sites; first = c.args.first; entries = es } in
    log_begun c.args.layout.now ts cut c.args.site c.args.keeping.now next later old (record old { replay = c.begin_run.new.self }) c.take_kept.new.self c.in_ok-kept.kept.items log
    (step.replaying (runs_at ts c.args.site) es later log.replaying) refl refl step.none step.idle
    (λ d doubt going. step.kept (runs_at ts c.args.site) es later d doubt log.replaying going) step.ended step.counts.0 step.counts.1 takes)
    c.take_kept.ensures
