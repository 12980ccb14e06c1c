use Rattle.std.proofs.Common.{take}
use Rattle.multi_site_world.specs.World.{World}
use Rattle.multi_site_world.specs.Worlds.{StandsForWorld, IsRun}
use Rattle.multi_site_world.specs.Safe.{IsSafeWorld, AreSoundSteps}
use Rattle.multi_site_world.proofs.world.run.Given as goal

abbrev pub invariant-loop-event : goal.invariant-loop-event
invariant-loop-event l = record {
  run : (m : World) → StandsForWorld m l.initial.world → IsRun m (take l.event-index l.events) l.world l.replies.items;
  safe : IsSafeWorld l.world;
  steps : AreSoundSteps l.initial.world (take l.event-index l.events) l.replies.items l.world;
}
