use Rattle.live_site.proofs.LawLemmas.{rights_after}
use Rattle.live_site.proofs.laws.given_law.Goals as goal

pub returns : goal.returns
returns c = λ a reached delta free r below. rights_after a reached delta free r below
