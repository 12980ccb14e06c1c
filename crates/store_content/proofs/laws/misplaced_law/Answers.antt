-- The lemma is the law.
use Rattle.store_content.proofs.MisplacedLemmas.{no_begin}
use Rattle.store_content.proofs.laws.misplaced_law.Goals as goal

pub returns : goal.returns
returns c = no_begin
