use Rattle.admission_model.proofs.ChangeLemmas.{durable_rises, change_rises, put_law, empty_law}
use Rattle.admission_model.proofs.laws.change_law.Goals as goal

pub returns-clause-rising : goal.returns-clause-rising
returns-clause-rising c = durable_rises

pub returns-clause-put : goal.returns-clause-put
returns-clause-put c = put_law

pub returns-clause-empty : goal.returns-clause-empty
returns-clause-empty c = empty_law

pub returns-clause-change_rising : goal.returns-clause-change_rising
returns-clause-change_rising c = change_rises
