use Rattle.desk_log.proofs.LogLemmas.{fault_last}
use Rattle.desk_log.proofs.laws.fault_law.Goals as goal

pub returns : goal.returns
returns c = fault_last
