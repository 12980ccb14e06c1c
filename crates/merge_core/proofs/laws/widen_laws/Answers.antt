use Rattle.merge_core.proofs.GrowthLemmas.{widened_names, widened_rows, widened_joins, checked_wider}
use Rattle.merge_core.proofs.laws.widen_laws.Goals as goal

pub returns-clause-names : goal.returns-clause-names
returns-clause-names c = widened_names

pub returns-clause-rows : goal.returns-clause-rows
returns-clause-rows c = widened_rows

pub returns-clause-joins : goal.returns-clause-joins
returns-clause-joins c = widened_joins

pub returns-clause-checked : goal.returns-clause-checked
returns-clause-checked c = checked_wider
