use Rattle.multi_site_world.proofs.LawLemmas.{message_merged, thin_merged, rows_merged, message_answered, thin_answered, rows_answered}
use Rattle.multi_site_world.proofs.laws.message_law.Goals as goal

pub returns-clause-message : goal.returns-clause-message
returns-clause-message c = message_merged

pub returns-clause-thin : goal.returns-clause-thin
returns-clause-thin c = thin_merged

pub returns-clause-rows : goal.returns-clause-rows
returns-clause-rows c = rows_merged

pub returns-clause-message_answered : goal.returns-clause-message_answered
returns-clause-message_answered c = message_answered

pub returns-clause-thin_answered : goal.returns-clause-thin_answered
returns-clause-thin_answered c = thin_answered

pub returns-clause-rows_answered : goal.returns-clause-rows_answered
returns-clause-rows_answered c = rows_answered
