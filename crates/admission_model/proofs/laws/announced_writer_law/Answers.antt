use Rattle.admission_model.proofs.LawLemmas.{none_admitted_reached}
use Rattle.admission_model.proofs.ReaderLemmas.{reader_held, reader_not_held}
use Rattle.admission_model.proofs.laws.announced_writer_law.Goals as goal

pub returns-clause-none_admitted : goal.returns-clause-none_admitted
returns-clause-none_admitted c = none_admitted_reached

pub returns-clause-held : goal.returns-clause-held
returns-clause-held c = reader_held

pub returns-clause-not_held : goal.returns-clause-not_held
returns-clause-not_held c = reader_not_held
