use Rattle.serve_engine.proofs.CountLemmas.{unfinished_told}
use Rattle.serve_engine.proofs.showing.unfinished.Goals as goal

pub returns : goal.returns
returns c = λ a stands.
    let told = unfinished_told c.args.core.now c.requires.core c.args.r c.requires.there a stands in cc
