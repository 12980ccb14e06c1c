use Rattle.merge_core.proofs.LawLemmas.{joins_commute, joins_associate, joins_repeat, joins_agree, IsJoin-union, IsJoin-told, equal_from_known}
use Rattle.merge_core.proofs.laws.join_laws.Goals as goal

pub returns-clause-commutative : goal.returns-clause-commutative
returns-clause-commutative c = joins_commute

pub returns-clause-associative : goal.returns-clause-associative
returns-clause-associative c = joins_associate

pub returns-clause-idempotent : goal.returns-clause-idempotent
returns-clause-idempotent c = joins_repeat

pub returns-clause-least : goal.returns-clause-least
returns-clause-least c = joins_agree

pub returns-clause-union : goal.returns-clause-union
returns-clause-union c = IsJoin-union

pub returns-clause-told : goal.returns-clause-told
returns-clause-told c = IsJoin-told

pub returns-clause-equal_books : goal.returns-clause-equal_books
returns-clause-equal_books c = equal_from_known
