use Rattle.multi_site_world.proofs.LawLemmas.{separate_seats, separate_writer}
use Rattle.multi_site_world.proofs.laws.separate_logs_law.Goals as goal

pub returns-clause-seats : goal.returns-clause-seats
returns-clause-seats c = separate_seats

pub returns-clause-writer : goal.returns-clause-writer
returns-clause-writer c = separate_writer
