use Rattle.std.proofs.Common.{◌≡◌, ◌-◌}
use Rattle.admission_model.specs.Account.{Account}
use Rattle.admission_core.specs.Core.{Stands}
use Rattle.admission_core.specs.Kept.{durable_of}
use Rattle.serve_engine.specs.Requests.{Terms}
use Rattle.serve_engine.specs.Steps.{AreTerms, Works}
use Rattle.serve_engine.proofs.engine.serve_lines.Given as goal

abbrev pub invariant-loop-count : goal.invariant-loop-count
invariant-loop-count g l = record {
  works : (terms : Terms) (a : Account) → AreTerms terms l.initial.live.core.layout l.marker → Stands a l.initial.live.core
      → Works g.K.Keeper g.K.LiveKeeper.is_outdated g.C.Conversation g.L.CallLog terms a (durable_of a)
      l.initial.live.keeper l.live l.initial.conversation l.conversation l.initial.log l.log l.count;
  layout : l.live.core.layout ≡ l.initial.live.core.layout;
  site : l.live.core.site ≡ l.initial.live.core.site;
  honest : g.K.Keeper.is_honest l.live.keeper → g.K.Keeper.is_honest l.initial.live.keeper;
}

abbrev pub decreases-loop-count : goal.decreases-loop-count
decreases-loop-count g l = 18446744073709551615 - l.count
