use Rattle.std.proofs.Common.{length}
use Rattle.run_engine.specs.Callers.{HasAsked}
use Rattle.run_engine.specs.Rounds.{helps}
use Rattle.run_engine.proofs.pairs.ask_help.Given as goal

abbrev pub invariant-turns : goal.invariant-turns
invariant-turns g l = HasAsked (helps (length l.site.layout.records) l.from l.n) l.fn.pass l.pass
