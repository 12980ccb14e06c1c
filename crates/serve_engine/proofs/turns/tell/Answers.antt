use Rattle.std.proofs.Common.{rules}
use Rattle.serve_engine.proofs.turns.tell.Goals as goal

pub returns-then-tell-clause-told : goal.returns-then-tell-clause-told
returns-then-tell-clause-told g c = search rules

pub returns-clause-told : goal.returns-clause-told
returns-clause-told g c = search rules
