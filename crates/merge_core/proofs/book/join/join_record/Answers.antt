use Rattle.std.proofs.Common.{rules}
use Rattle.merge_core.proofs.book.join.join_record.Goals as goal

pub returns-clause-change : goal.returns-clause-change
returns-clause-change c = search rules

pub returns-clause-risen : goal.returns-clause-risen
returns-clause-risen c = search rules
