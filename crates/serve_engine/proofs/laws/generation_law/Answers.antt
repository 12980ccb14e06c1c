use Rattle.serve_engine.proofs.GenerationLemmas.{generations_apart}
use Rattle.serve_engine.proofs.laws.generation_law.Goals as goal

pub returns : goal.returns
returns c = λ a b reached few r q earlier later before. generations_apart a b reached few r q earlier later before
