use Rattle.std.proofs.Common.{rules}
use Rattle.delta_codec.proofs.reading.fault_of.Goals as goal

pub returns : goal.returns
returns c = search rules
