use Rattle.std.proofs.Common.{◌≡◌, map, Ok}
use Rattle.run_engine.proofs.sites.all_answers.Given as goal

abbrev pub invariant-answers : goal.invariant-answers
invariant-answers l = l.yielded ≡ map Ok l.all.items
