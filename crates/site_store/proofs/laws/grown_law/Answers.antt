-- The lemma is the law.
use Rattle.site_store.proofs.OwnLemmas.{grown_own}
use Rattle.site_store.proofs.laws.grown_law.Goals as goal

pub returns : goal.returns
returns c = grown_own
