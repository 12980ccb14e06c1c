use Rattle.admission_model.proofs.LawLemmas.{counters}
use Rattle.admission_model.proofs.UnitLemmas.{equal_merges}
use Rattle.admission_model.proofs.laws.equal_books_law.Goals as goal

pub returns-clause-counters : goal.returns-clause-counters
returns-clause-counters c = counters

pub returns-clause-merges : goal.returns-clause-merges
returns-clause-merges c = equal_merges
