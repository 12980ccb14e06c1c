use Rattle.site_rebuild.specs.Rebuilt.{gone_of, AreTellers}
use Rattle.site_rebuild.proofs.rebuilding.first_silent.Given as goal

abbrev pub invariant-loop-i : goal.invariant-loop-i
invariant-loop-i l = AreTellers l.i (gone_of l.lost) l.deltas
