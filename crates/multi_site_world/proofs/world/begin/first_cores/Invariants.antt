use Rattle.std.proofs.Common.{◌≡◌, ℕ, ◌<◌, length, get_or}
use Rattle.admission_core.specs.Core.{Core as SiteState, Stands}
use Rattle.multi_site_world.specs.World.{first_account}
use Rattle.multi_site_world.proofs.world.begin.first_cores.Given as goal

abbrev pub invariant-loop-i : goal.invariant-loop-i
invariant-loop-i l = record {
  number : length l.cores.items ≡ l.i;
  each : (j : ℕ) (none : SiteState) → j < l.i → Stands (first_account l.earlier.sites l.layout j) (get_or l.cores.items j none);
}
