use Rattle.std.proofs.Common.{ℕ, List, ap, ◌++◌, ◌∙◌}
use Rattle.serve_engine.specs.Steps.{space_before}
use Rattle.serve_engine.proofs.ExchangeLemmas.{no_memory}
use Rattle.serve_engine.proofs.answering.serve_call.Goals as goal

pub returns-in_default-clause-served : goal.returns-in_default-clause-served
returns-in_default-clause-served g c = λ terms layout line are asks a stands.
    no_memory g.K.Keeper g.K.LiveKeeper.is_outdated g.L.CallLog terms a c.args.live.now c.args.log.now line stands

pub returns-clause-served : goal.returns-clause-served
returns-clause-served g c = λ terms layout line are asks a stands.
    c.carry_out.ensures.served terms layout line are (c.in-Ok.ensures terms layout are ∙ ap (λ (t : List ℕ). t ++ space_before terms c.args.call.now) c.requires) asks a stands
