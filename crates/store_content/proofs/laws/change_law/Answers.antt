-- The lemma is the law.
use Rattle.store_content.proofs.TellableLemmas.{tellable}
use Rattle.store_content.proofs.laws.change_law.Goals as goal

pub returns : goal.returns
returns c = tellable
