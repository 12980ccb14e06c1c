use Rattle.std.proofs.Common.{◌≡◌, drop}
use Rattle.admission_core.specs.Core.{core_view}
use Rattle.live_site.specs.Walk.{walk}
use Rattle.live_site.proofs.overfull.first_overfull.Given as goal

abbrev pub invariant-loop-row : goal.invariant-loop-row
invariant-loop-row l = walk (core_view l.core) l.r l.given (drop l.row-index l.row-items) ≡ walk (core_view l.core) 0 0 l.row-items
