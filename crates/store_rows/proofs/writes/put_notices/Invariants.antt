use Rattle.std.proofs.Common.{Ok, take}
use Rattle.store_rows.specs.Steps.{Any, Brings, Puts, with_notices}
use Rattle.store_rows.proofs.writes.put_notices.Given as goal

abbrev pub invariant-loop-notice : goal.invariant-loop-notice
invariant-loop-notice g l = Puts g.S.Store l.notice-index Any (λ _. Brings Any (with_notices (take l.notice-index l.notices))) l.initial.tx (Ok (tt {0})) l.tx
