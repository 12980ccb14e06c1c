use Rattle.desk_log.specs.declared.transcript.Transcript.{Transcript}
use Rattle.session_book.specs.Passes.{new_pass}
use Rattle.run_engine.specs.Callers.{HasAsked}
use Rattle.run_engine.specs.Tasks.{EndsInCalled}
use Rattle.run_engine.specs.Runs.{IsClosedWith, IsSiteRun}
use Rattle.run_engine.proofs.SiteLemmas.{ends_in_called, if_ok, site_run}
use Rattle.run_engine.proofs.sites.run_over.Goals as goal

pub returns : goal.returns
returns g c =
    let job = c.args.job in
    let site = c.in_ok-site.site in
    let pass = c.in_ok-pass.pass in
    let called : EndsInCalled job.asks.items c.in_ok-done.done.items = ends_in_called job.asks.items _ c.args.turns c.in_ok-tasks.tasks.items c.in_ok-done.done.items c.in_ok-tasks.ensures.last c.in_ok-done.ensures in
    let asked : HasAsked job.asks.items (new_pass 0) pass = c.in_ok-pass.ensures job.asks.items called in
    if_ok c.closed.result (IsClosedWith site pass) (IsSiteRun job.layout job.site job.asks.items)
    (λ (t : Transcript). λ closed. site_run job.layout job.site c.args.passes job.asks.items site c.in_ok-site.all.items pass t c.in_ok-site.ensures asked closed)
    c.closed.ensures
