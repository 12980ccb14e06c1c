use Rattle.std.proofs.Common.{◌≡◌, ◌+◌, ◌-◌, ◌≤◌, List, [], ◌∷◌, false}
use Rattle.admission_model.specs.Account.{Account}
use Rattle.line_conversation.specs.Turns.{Turn, Whole}
use Rattle.serve_engine.specs.Requests.{Terms}
use Rattle.serve_engine.specs.Rounds.{AreFew}
use Rattle.serve_engine.specs.Steps.{AreTerms}
use Rattle.serve_engine.specs.Together.{IsFilling}
use Rattle.serve_engine.proofs.filling.fill_round.Given as goal

abbrev pub invariant-loop-left : goal.invariant-loop-left
invariant-loop-left g l = record {
  filling : (terms : Terms) (a : Account) (k : g.row.K.Denot) (talk : g.row.C.Denot) (turns : List Turn) → AreTerms terms l.initial.held.core.layout l.marker
      → IsFilling g.K.Keeper g.B.Base.base g.C.Conversation terms a k l.initial.held l.initial.round talk turns l.initial.conversation (Whole (g.C.Conversation.kept l.initial.conversation) ∷ []) 1
      → IsFilling g.K.Keeper g.B.Base.base g.C.Conversation terms a k l.held l.round talk turns l.conversation (Whole (g.C.Conversation.kept l.conversation) ∷ []) (l.most + 1 - l.left);
  room : l.left ≤ l.most;
  few : AreFew l.most (l.most + 1 - l.left);
  running : l.initial.held.frozen ≡ false → l.held.frozen ≡ false;
  layout : l.held.core.layout ≡ l.initial.held.core.layout;
  site : l.held.core.site ≡ l.initial.held.core.site;
  honest : g.K.Keeper.is_honest l.held.keeper.keeper → g.K.Keeper.is_honest l.initial.held.keeper.keeper;
}

abbrev pub decreases-loop-left : goal.decreases-loop-left
decreases-loop-left g l = l.left
