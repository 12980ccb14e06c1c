use Rattle.fencing_laws.proofs.EnterLemmas.{not_stuck}
use Rattle.fencing_laws.proofs.NeverLemmas.{never_enters}
use Rattle.fencing_laws.proofs.FairLemmas.{others_stay}
use Rattle.fencing_laws.proofs.laws.not_stuck_law.Goals as goal

pub returns-clause-enters : goal.returns-clause-enters
returns-clause-enters c = not_stuck

pub returns-clause-others_stay : goal.returns-clause-others_stay
returns-clause-others_stay c = others_stay

pub returns-clause-full : goal.returns-clause-full
returns-clause-full c = never_enters
