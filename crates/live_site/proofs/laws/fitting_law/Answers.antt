use Rattle.live_site.proofs.LawLemmas.{fits_message, fits_thin}
use Rattle.live_site.proofs.laws.fitting_law.Goals as goal

pub returns-clause-message : goal.returns-clause-message
returns-clause-message c = λ w is i k below delta there. fits_message w is i k below delta there

pub returns-clause-thin : goal.returns-clause-thin
returns-clause-thin c = λ w is i k l below delta there. fits_thin w is i k l below delta there
