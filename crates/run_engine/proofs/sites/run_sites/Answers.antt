use Rattle.std.proofs.Common.{Vec, Global}
use Rattle.desk_log.specs.declared.transcript.Transcript.{Transcript}
use Rattle.run_engine.specs.Runs.{AreAnswers, AreSiteRuns}
use Rattle.run_engine.proofs.SiteLemmas.{all_runs, if_ok}
use Rattle.run_engine.proofs.sites.run_sites.Goals as goal

pub returns : goal.returns
returns g c =
    let layout = c.args.layout.now in
    let asked = c.args.asked.now in
    let jobs = c.in_ok-jobs.jobs.items in
    let answers = c.in_ok-answers.answers.items in
    if_ok c.all_answers.result (λ (ts : Vec Transcript Global). AreAnswers answers ts.items) (λ (ts : Vec Transcript Global). AreSiteRuns layout asked ts.items)
    (λ (ts : Vec Transcript Global). λ is. all_runs layout asked jobs answers ts.items c.in_ok-jobs.ensures c.in_ok-answers.ensures is)
    c.all_answers.ensures
