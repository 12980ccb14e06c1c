use Rattle.admission_model.proofs.LawLemmas.{units}
use Rattle.admission_model.proofs.laws.units_law.Goals as goal

pub returns : goal.returns
returns c = units
