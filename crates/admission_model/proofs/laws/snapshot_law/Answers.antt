use Rattle.admission_model.proofs.SnapshotLemmas.{snapshot_shows}
use Rattle.admission_model.proofs.laws.snapshot_law.Goals as goal

pub returns : goal.returns
returns c = snapshot_shows
