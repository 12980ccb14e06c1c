use Rattle.std.proofs.Common.{arith}
use Rattle.admission_model.proofs.AskedLemmas.{changed_asked, changed_refused, changed_nothing, changed_merged}
use Rattle.admission_model.proofs.laws.asked_change_law.Goals as goal

pub returns-clause-asked : goal.returns-clause-asked
returns-clause-asked c = λ a is few ask free. changed_asked a is (omega arith) ask free

pub returns-clause-refused : goal.returns-clause-refused
returns-clause-refused c = changed_refused

pub returns-clause-nothing : goal.returns-clause-nothing
returns-clause-nothing c = changed_nothing

pub returns-clause-merged : goal.returns-clause-merged
returns-clause-merged c = changed_merged
