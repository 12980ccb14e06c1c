use Rattle.rebuild_laws.proofs.RebuildLaw.{sound_rebuilt_world}
use Rattle.rebuild_laws.proofs.MovingLemmas.{independent, behind_alone, moved_alone}
use Rattle.rebuild_laws.proofs.laws.move_law.Goals as goal

pub returns-clause-independent : goal.returns-clause-independent
returns-clause-independent c = λ u w moved same l m there events all. independent moved l m u w same there events all

pub returns-clause-left_behind : goal.returns-clause-left_behind
returns-clause-left_behind c = λ w is l n moves moved events all. behind_alone w (sound_rebuilt_world w is) l n moves moved events all

pub returns-clause-moved_on : goal.returns-clause-moved_on
returns-clause-moved_on c = λ w is l n moves moved events all. moved_alone w (sound_rebuilt_world w is) l n moves moved events all
