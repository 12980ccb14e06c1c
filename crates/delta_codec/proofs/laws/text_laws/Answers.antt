use Rattle.std.proofs.Common.{arith}
use Rattle.delta_codec.proofs.DeltaLaws.{one_delta}
use Rattle.delta_codec.proofs.LengthLaws.{delta_length}
use Rattle.delta_codec.proofs.laws.text_laws.Goals as goal

pub returns-clause-one : goal.returns-clause-one
returns-clause-one c = one_delta

pub returns-clause-fits : goal.returns-clause-fits
returns-clause-fits c = λ d is. omega (arith, delta_length d is)
