use Rattle.std.proofs.Common.{refl}
use Rattle.log_judge.proofs.keeping.are_same.Goals as goal

pub returns : goal.returns
returns c = (λ yes. (c.if-not-are_within.ensures.0 refl, c.are_within-2.ensures.0 yes), λ same. c.are_within-2.ensures.1 same.1)
