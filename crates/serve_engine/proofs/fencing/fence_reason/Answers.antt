use Rattle.std.proofs.Common.{◌∙◌}
use Rattle.serve_engine.proofs.FenceLemmas.{reasons_tell}
use Rattle.serve_engine.proofs.fencing.fence_reason.Goals as goal

pub returns : goal.returns
returns c = λ a stands.
    c.inside_or_not.ensures
    ∙ reasons_tell a c.args.core.now c.args.r c.args.h c.reason-left.result c.reason-entered.result stands c.requires (c.reason-left.ensures a stands) (c.reason-entered.ensures a stands)
