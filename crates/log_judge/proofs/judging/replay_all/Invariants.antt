use Rattle.log_judge.specs.Judging.{AreHistories}
use Rattle.log_judge.proofs.judging.replay_all.Given as goal

abbrev pub invariant-sites : goal.invariant-sites
invariant-sites l = AreHistories l.layout l.transcripts l.cut l.i l.own.items l.kept.items
