use Rattle.fencing_laws.proofs.FenceLemmas.{later_above, number_rises, counted_all}
use Rattle.fencing_laws.proofs.EarlierLemmas.{earlier_below}
use Rattle.fencing_laws.proofs.StayLemmas.{other_above}
use Rattle.fencing_laws.proofs.laws.fence_law.Goals as goal

pub returns-clause-later : goal.returns-clause-later
returns-clause-later c = other_above

pub returns-clause-after_leaving : goal.returns-clause-after_leaving
returns-clause-after_leaving c = later_above

pub returns-clause-earlier : goal.returns-clause-earlier
returns-clause-earlier c = earlier_below

pub returns-clause-counted : goal.returns-clause-counted
returns-clause-counted c = counted_all

pub returns-clause-rises : goal.returns-clause-rises
returns-clause-rises c = number_rises
