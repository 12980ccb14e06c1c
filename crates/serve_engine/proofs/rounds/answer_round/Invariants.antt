use Rattle.serve_engine.proofs.HoldLemmas.{durable_at}
use Rattle.serve_engine.proofs.rounds.answer_round.Given as goal

abbrev pub ghosts-serve_held : goal.ghosts-serve_held
ghosts-serve_held g a = record { base = durable_at a.live.core }
