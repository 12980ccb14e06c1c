use Rattle.std.proofs.Common.{Ok, take}
use Rattle.store_rows.specs.Steps.{Brings, Runs}
use Rattle.store_tables.specs.Rounds.{HaveFreePlaces, with_edits}
use Rattle.store_tables.proofs.rounds.edit_sessions.Given as goal

abbrev pub invariant-loop-edit : goal.invariant-loop-edit
invariant-loop-edit g l = Runs g.S.Store (λ _. Brings (λ p. HaveFreePlaces (take l.edit-index l.edits) p.sessions) (with_edits (take l.edit-index l.edits))) l.initial.tx (Ok (tt {0})) l.tx
