use Rattle.std.proofs.Common.{◌≤◌, ◌-◌, ◌∙◌, length, take, drop, ap, subst, List, ℕ, sym}
use Rattle.line_conversation.proofs.AheadLemmas.{left_out}
use Rattle.line_conversation.proofs.ahead.Ahead.skip.Goals as goal

pub returns : goal.returns
returns c =
    let i = c.self.inside in
    let few : c.args.n ≤ length (take (i.to - i.from) (drop i.from i.chunk.items)) =
    subst (λ (bs : List ℕ). c.args.n ≤ length bs) (sym c.self.view_is) c.requires in
    left_out i.chunk.items i.from i.to c.args.n c.self.invariant.0 few ∙ ap (drop c.args.n) c.self.view_is
