use Rattle.fencing_laws.proofs.RememberLemmas.{two_numbers, remembered}
use Rattle.fencing_laws.proofs.ResourceLemmas.{let_in, in_order, meanwhile, writer_left, reader_left}
use Rattle.fencing_laws.proofs.laws.resource_law.Goals as goal

pub returns-clause-two_numbers : goal.returns-clause-two_numbers
returns-clause-two_numbers c = two_numbers

pub returns-clause-remembered : goal.returns-clause-remembered
returns-clause-remembered c = remembered

pub returns-clause-let_in : goal.returns-clause-let_in
returns-clause-let_in c = let_in

pub returns-clause-in_order : goal.returns-clause-in_order
returns-clause-in_order c = in_order

pub returns-clause-meanwhile : goal.returns-clause-meanwhile
returns-clause-meanwhile c = meanwhile

pub returns-clause-writer_left : goal.returns-clause-writer_left
returns-clause-writer_left c = writer_left

pub returns-clause-reader_left : goal.returns-clause-reader_left
returns-clause-reader_left c = reader_left
