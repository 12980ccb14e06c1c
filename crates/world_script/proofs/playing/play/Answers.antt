use Rattle.std.proofs.Common.{rules, ◌≡◌, ◌+◌, Bool, true, false, List, ℕ, ◌∷◌, subst, ◌∙◌, string_bytes, arith}
use Rattle.merge_core.specs.Layout.{LayoutState}
use Rattle.text_input.specs.Lines.{lines_of}
use Rattle.multi_site_world.specs.World.{World}
use Rattle.multi_site_world.specs.Worlds.{StandsForWorld}
use Rattle.world_script.specs.Played.{PlaysEvent, PlaysLine, PlaysSoFar}
use Rattle.world_script.proofs.PlayLemmas.{played_line}
use Rattle.world_script.proofs.playing.play.Goals as goal

pub loop-rest-preserved : goal.loop-rest-preserved
loop-rest-preserved c =
    let read : c.in_ok-play_line.field-0 ≡ true = search rules in
    let line = c.cut_line.result.0.now in
    let number = c.loop-rest.number in
    let old = string_bytes c.loop-rest.text in
    let new = string_bytes c.play_line.new.text in
    let v = c.loop-rest.world in
    let w = c.play_line.new.world in
    let plays : (n : World) → StandsForWorld n v → PlaysEvent n c.args.world.now.layout.records line old new w = λ n for.
    subst (λ (l : LayoutState). PlaysEvent n l.records line old new w) c.loop-rest.invariant.layout
    (subst (λ (b : Bool). PlaysLine n v.layout.records line (number + 1) b old new w) read (c.in_ok-play_line.ensures.line n for)) in
    record {
      so_far = λ m stands.
          played_line m c.args.world.now.layout.records (lines_of c.args.script.now) (lines_of c.cut_line.result.1.now) line number old new v w
          (subst (λ (ls : List (List ℕ)). PlaysSoFar m c.args.world.now.layout.records (lines_of c.args.script.now) ls number old v) c.cut_line.ensures.lines (c.loop-rest.invariant.so_far m stands))
          plays;
      layout = c.play_line.ensures.layout ∙ c.loop-rest.invariant.layout;
      counted = omega (arith, c.loop-rest.invariant.counted, c.cut_line.ensures.shorter);
    }
