use Rattle.std.proofs.Common.{◌≡◌, ◌+◌, ◌≤◌, length, string_bytes}
use Rattle.text_input.specs.Lines.{lines_of}
use Rattle.multi_site_world.specs.World.{World}
use Rattle.multi_site_world.specs.Worlds.{StandsForWorld}
use Rattle.world_script.specs.Played.{PlaysSoFar}
use Rattle.world_script.proofs.playing.play.Given as goal

abbrev pub invariant-loop-rest : goal.invariant-loop-rest
invariant-loop-rest l = record {
  so_far : (m : World) → StandsForWorld m l.initial.world
      → PlaysSoFar m l.initial.world.layout.records (lines_of l.script) (lines_of l.rest) l.number (string_bytes l.text) l.world;
  layout : l.world.layout ≡ l.initial.world.layout;
  counted : l.number + length l.rest ≤ length l.script;
}

abbrev pub decreases-loop-rest : goal.decreases-loop-rest
decreases-loop-rest l = length l.rest
