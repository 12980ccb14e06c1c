use Rattle.std.proofs.Common.{rules, ◌≡◌, ◌∙◌, ap, sym, Option, List, ℕ, None}
use Rattle.std.proofs.lemmas.Result.{IfOk-weaker}
use Rattle.judge_engine.specs.Cuts.{lengths_of}
use Rattle.judge_engine.proofs.cut.Cut.lengths.Goals as goal

pub returns-in-None : goal.returns-in-None
returns-in-None c = λ layout ts cut all.
    let none : c.args.self.now ≡ None = search rules in
    IfOk-weaker c.full_cut.result _ _
    (λ lengths is. is ∙ ap (λ (o : Option (List ℕ)). lengths_of o ts) (sym none))
    (c.full_cut.ensures layout ts cut all)
