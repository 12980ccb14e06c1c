use Rattle.admission_model.proofs.BookLemmas.{rights_there, inside_there, open_here, open_session, rights_in, writers_in, no_writers_in}
use Rattle.admission_model.proofs.laws.book_law.Goals as goal

pub returns-clause-has_rights : goal.returns-clause-has_rights
returns-clause-has_rights c = rights_there

pub returns-clause-inside : goal.returns-clause-inside
returns-clause-inside c = inside_there

pub returns-clause-open : goal.returns-clause-open
returns-clause-open c = open_here

pub returns-clause-open_session : goal.returns-clause-open_session
returns-clause-open_session c = open_session

pub returns-clause-rights : goal.returns-clause-rights
returns-clause-rights c = rights_in

pub returns-clause-writers : goal.returns-clause-writers
returns-clause-writers c = writers_in

pub returns-clause-no_writer : goal.returns-clause-no_writer
returns-clause-no_writer c = no_writers_in
