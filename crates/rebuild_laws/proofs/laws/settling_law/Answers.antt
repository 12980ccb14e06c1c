use Rattle.rebuild_laws.proofs.RebuildLaw.{sound_rebuilt_world}
use Rattle.rebuild_laws.proofs.SettlingLemmas.{settled_spares, settled_none}
use Rattle.rebuild_laws.proofs.MovedLemmas.{moved_group}
use Rattle.rebuild_laws.proofs.laws.settling_law.Goals as goal

pub returns-clause-moved : goal.returns-clause-moved
returns-clause-moved c = λ w is gone n few lower unbegun ds are within. moved_group w (sound_rebuilt_world w is) gone n few lower unbegun ds are within

pub returns-clause-enough : goal.returns-clause-enough
returns-clause-enough c = λ w is gone n few lower unbegun told agrees d lost. settled_spares w (sound_rebuilt_world w is) gone n few lower unbegun told agrees d lost

pub returns-clause-alone : goal.returns-clause-alone
returns-clause-alone c = settled_none
