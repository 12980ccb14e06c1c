use Rattle.std.proofs.Common.{◌≡◌, ◌-◌, []}
use Rattle.admission_model.specs.Account.{Account}
use Rattle.admission_core.specs.Core.{Stands}
use Rattle.serve_engine.specs.Requests.{Terms}
use Rattle.serve_engine.specs.Steps.{AreTerms}
use Rattle.serve_engine.specs.Together.{HasHeard}
use Rattle.serve_engine.proofs.TogetherLemmas.{start_at}
use Rattle.serve_engine.proofs.rounds.serve_rounds.Given as goal

abbrev pub invariant-loop-count : goal.invariant-loop-count
invariant-loop-count g l = record {
  heard : (terms : Terms) (a : Account) → AreTerms terms l.initial.live.core.layout l.marker → Stands a l.initial.live.core
      → HasHeard g.K.Keeper g.K.LiveKeeper.is_outdated g.C.Conversation
      (start_at g.K.Keeper g.K.LiveKeeper.is_outdated g.C.Conversation l.most terms l.initial.live.core.layout l.initial.live.core.site a l.initial.live l.initial.conversation) l.live l.conversation [] l.count;
  layout : l.live.core.layout ≡ l.initial.live.core.layout;
  site : l.live.core.site ≡ l.initial.live.core.site;
  honest : g.K.Keeper.is_honest l.live.keeper → g.K.Keeper.is_honest l.initial.live.keeper;
}

abbrev pub decreases-loop-count : goal.decreases-loop-count
decreases-loop-count g l = 18446744073709551615 - l.count
