use Rattle.judge_engine.proofs.ReadingLemmas.{begins_ready, begins_knows}
use Rattle.judge_engine.proofs.reading.begin_run.Goals as goal

pub begin_run-requires-clause-there : goal.begin_run-requires-clause-there
begin_run-requires-clause-there c =
    let it = c.requires in
    begins_ready c.args.layout.now it.0 it.1 it.2 it.3 it.4 c.args.logs.now it.5 c.args.opening it.6 it.7

pub returns : goal.returns
returns c = λ cut keeping earlier front site line begins knows.
    begins_knows c.args.layout.now cut keeping earlier front site c.args.logs.now c.begin_run.new.self line c.args.opening begins knows c.in_ok-begin_run.ensures.keeping c.in_ok-begin_run.ensures.logs
