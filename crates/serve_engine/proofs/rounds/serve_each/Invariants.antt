use Rattle.std.proofs.Common.{◌≡◌, ℕ, ◌-◌, ◌≤◌, List, [], ◌++◌, length, drop}
use Rattle.line_conversation.specs.Turns.{Line}
use Rattle.serve_engine.specs.Together.{InBlock, IsAt, Start, whole_lines}
use Rattle.serve_engine.proofs.rounds.serve_each.Given as goal

abbrev pub invariant-loop-i : goal.invariant-loop-i
invariant-loop-i g l = record {
  within : l.i ≤ length l.round.lines;
  served : (s : Start g.row.K.Denot g.row.C.Denot) (behind : List Line) (n : ℕ) → IsAt s l.initial.live l.marker
      → InBlock g.K.Keeper g.K.LiveKeeper.is_outdated g.C.Conversation s l.initial.live l.initial.conversation (whole_lines l.round.lines ++ behind) [] n
      → InBlock g.K.Keeper g.K.LiveKeeper.is_outdated g.C.Conversation s l.live l.conversation (whole_lines (drop l.i l.round.lines) ++ behind) [] n;
  line : g.C.Conversation.kept l.conversation ≡ g.C.Conversation.kept l.initial.conversation;
  layout : l.live.core.layout ≡ l.initial.live.core.layout;
  site : l.live.core.site ≡ l.initial.live.core.site;
  honest : g.K.Keeper.is_honest l.live.keeper → g.K.Keeper.is_honest l.initial.live.keeper;
}

abbrev pub decreases-loop-i : goal.decreases-loop-i
decreases-loop-i g l = length l.round.lines - l.i
