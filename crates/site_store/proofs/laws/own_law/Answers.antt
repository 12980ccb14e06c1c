-- The lemmas are the law.
use Rattle.site_store.proofs.OwnLemmas.{made_own, of_own, renewed_own}
use Rattle.site_store.proofs.RangeLemmas.{in_range}
use Rattle.site_store.proofs.laws.own_law.Goals as goal

pub returns-clause-made : goal.returns-clause-made
returns-clause-made c = made_own

pub returns-clause-kept : goal.returns-clause-kept
returns-clause-kept c = of_own

pub returns-clause-doubt : goal.returns-clause-doubt
returns-clause-doubt c layout i group d e it one = of_own layout i group it one.own

pub returns-clause-renewed : goal.returns-clause-renewed
returns-clause-renewed c = renewed_own

pub returns-clause-range : goal.returns-clause-range
returns-clause-range c = in_range
