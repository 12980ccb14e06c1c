use Rattle.multi_site_world.proofs.LawLemmas.{equal_books, exclusion, none_read, writer_first}
use Rattle.multi_site_world.proofs.laws.headline_law.Goals as goal

pub returns-clause-equal_books : goal.returns-clause-equal_books
returns-clause-equal_books c = equal_books

pub returns-clause-writer_alone : goal.returns-clause-writer_alone
returns-clause-writer_alone c = exclusion

pub returns-clause-no_reader_admitted : goal.returns-clause-no_reader_admitted
returns-clause-no_reader_admitted c = none_read

pub returns-clause-announced_writer_first : goal.returns-clause-announced_writer_first
returns-clause-announced_writer_first c = writer_first
