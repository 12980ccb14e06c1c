use Rattle.std.proofs.Common.{◌≡◌, ◌⊎◌, [], subst}
use Rattle.std.proofs.lemmas.Bool.{both_ways}
use Rattle.sqlite.specs.declared.error.Error.{Error}
use Rattle.sqlite.specs.declared.error.Error.TheVariants.{SqliteFailure}
use Rattle.sqlite.specs.declared.error.ErrorCode.TheVariants.{OutOfMemory}
use Rattle.sqlite.specs.State.{IsNotRun}
use Rattle.sqlite.specs.Held.{state}
use Rattle.store_rows.proofs.RefusalLemmas.{two_bare, two_text}
use Rattle.store_rows.specs.Refusals.{HasRefused, HasLackedMemory}
use Rattle.store_tables.proofs.RefusalLemmas.{same_error, two_refused_either, two_same}
use Rattle.store_tables.proofs.commits.check_connection.Goals as goal

pub returns-then-not-is_understood-clause-refused : goal.returns-then-not-is_understood-clause-refused
returns-then-not-is_understood-clause-refused g c clean e is =
    let old = state g.S.Store c.args.conn.now in
    let new = state g.S.Store c.prepare.new.self in
    let bare = two_bare old.now.schema in
    subst (λ (x : Error). HasRefused old new ⊎ ((x ≡ SqliteFailure OutOfMemory) × HasLackedMemory old new)) (same_error is)
    (two_refused_either two_text old new bare.0 bare.1 c.in-Err.error (λ two. both_ways _ c.if-not-is_understood.true (c.is_understood.ensures.1 two)) (c.in-Err.ensures.err clean []))

pub returns-clause-settled : goal.returns-clause-settled
returns-clause-settled g c clean =
    let old = state g.S.Store c.args.conn.now in
    let new = state g.S.Store c.prepare.new.self in
    two_same two_text old new [] (subst (IsNotRun old new two_text []) (c.is_understood.ensures.0 c.if-not-is_understood.false) (c.in-Err.ensures.err clean []))
