use Rattle.multi_site_world.proofs.InstanceLemmas.{can_gather, has_taken, logged_whole, whole_cut, logged_short, short_cut}
use Rattle.multi_site_world.proofs.laws.instances.Goals as goal

pub returns-clause-can_gather : goal.returns-clause-can_gather
returns-clause-can_gather c = can_gather

pub returns-clause-has_taken : goal.returns-clause-has_taken
returns-clause-has_taken c = has_taken

pub returns-clause-logged : goal.returns-clause-logged
returns-clause-logged c = logged_whole

pub returns-clause-cut : goal.returns-clause-cut
returns-clause-cut c = whole_cut

pub returns-clause-logged_short : goal.returns-clause-logged_short
returns-clause-logged_short c = logged_short

pub returns-clause-no_cut : goal.returns-clause-no_cut
returns-clause-no_cut c = short_cut
