use Rattle.rebuild_laws.proofs.RebuildLaw.{rebuilt_begins, one_settled, rebuilt_conserved, rebuilt_alone, rebuilt_merged, rebuilt_equal, rebuilt_reached}
use Rattle.rebuild_laws.proofs.laws.rebuild_law.Goals as goal

pub returns-clause-begins : goal.returns-clause-begins
returns-clause-begins c = rebuilt_begins

pub returns-clause-lost_alone : goal.returns-clause-lost_alone
returns-clause-lost_alone c = one_settled

pub returns-clause-conserved : goal.returns-clause-conserved
returns-clause-conserved c = rebuilt_conserved

pub returns-clause-writer_alone : goal.returns-clause-writer_alone
returns-clause-writer_alone c = rebuilt_alone

pub returns-clause-merged : goal.returns-clause-merged
returns-clause-merged c = rebuilt_merged

pub returns-clause-equal_books : goal.returns-clause-equal_books
returns-clause-equal_books c = rebuilt_equal

pub returns-clause-accounts : goal.returns-clause-accounts
returns-clause-accounts c = rebuilt_reached
