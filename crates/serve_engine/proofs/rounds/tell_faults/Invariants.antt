use Rattle.std.proofs.Common.{◌≡◌, ◌≤◌, ◌-◌}
use Rattle.serve_engine.specs.declared.turns.Turned.TheVariants.{Next}
use Rattle.serve_engine.specs.Together.{TellsText, faults}
use Rattle.serve_engine.proofs.rounds.tell_faults.Given as goal

abbrev pub invariant-loop-told : goal.invariant-loop-told
invariant-loop-told g l = record {
  few : l.told ≤ l.count;
  texts : TellsText g.C.Conversation l.initial.conversation l.conversation (faults l.told) Next;
  line : g.C.Conversation.kept l.conversation ≡ g.C.Conversation.kept l.initial.conversation;
}

abbrev pub decreases-loop-told : goal.decreases-loop-told
decreases-loop-told g l = l.count - l.told
