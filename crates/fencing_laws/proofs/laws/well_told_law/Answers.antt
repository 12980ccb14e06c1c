use Rattle.fencing_laws.proofs.WellToldLemmas.{well_told_whole, well_told_thin}
use Rattle.fencing_laws.proofs.laws.well_told_law.Goals as goal

pub returns-clause-whole : goal.returns-clause-whole
returns-clause-whole c = well_told_whole

pub returns-clause-thin : goal.returns-clause-thin
returns-clause-thin c = well_told_thin
