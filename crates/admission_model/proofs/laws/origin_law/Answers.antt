use Rattle.admission_model.proofs.StartLemmas.{sound_start}
use Rattle.admission_model.proofs.LawLemmas.{origin_again}
use Rattle.admission_model.proofs.laws.origin_law.Goals as goal

pub returns-clause-start : goal.returns-clause-start
returns-clause-start c = sound_start

pub returns-clause-again : goal.returns-clause-again
returns-clause-again c = origin_again
