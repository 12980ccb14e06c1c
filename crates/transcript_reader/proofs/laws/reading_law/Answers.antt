use Rattle.transcript_reader.proofs.LawLemmas.{one_reading, one_answer, none_beside, one_refused}
use Rattle.transcript_reader.proofs.laws.reading_law.Goals as goal

pub returns-clause-one_reading : goal.returns-clause-one_reading
returns-clause-one_reading c = one_reading

pub returns-clause-one_answer : goal.returns-clause-one_answer
returns-clause-one_answer c = one_answer

pub returns-clause-none_beside : goal.returns-clause-none_beside
returns-clause-none_beside c = none_beside

pub returns-clause-one_refused : goal.returns-clause-one_refused
returns-clause-one_refused c = one_refused
