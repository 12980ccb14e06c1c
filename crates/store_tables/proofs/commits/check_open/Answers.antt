use Rattle.std.proofs.Common.{◌≡◌, ◌⊎◌, [], sym, subst, ◌∙◌}
use Rattle.std.proofs.lemmas.Bool.{both_ways}
use Rattle.sqlite.specs.declared.error.Error.{Error}
use Rattle.sqlite.specs.declared.error.Error.TheVariants.{SqliteFailure}
use Rattle.sqlite.specs.declared.error.ErrorCode.TheVariants.{OutOfMemory}
use Rattle.sqlite.specs.State.{IsNotRun}
use Rattle.store_rows.specs.Refusals.{HasRefused, HasLackedMemory}
use Rattle.sqlite.specs.Held.{state}
use Rattle.store_rows.proofs.RefusalLemmas.{two_bare, two_text}
use Rattle.store_tables.proofs.RefusalLemmas.{same_error, two_refused, two_refused_either, two_same}
use Rattle.store_tables.proofs.TransactLemmas.{not_run_keeps}
use Rattle.store_tables.proofs.commits.check_open.Goals as goal

pub returns-then-is_understood-clause-open : goal.returns-then-is_understood-clause-open
returns-then-is_understood-clause-open g c clean =
    let old = state g.S.Store c.args.tx.now.conn.now in
    let new = state g.S.Store c.prepare.new.self.conn.now in
    two_same two_text old new [] (subst (IsNotRun old new two_text []) (c.is_understood.ensures.0 c.if-is_understood.true) (c.in-Err.ensures.err clean []))

pub returns-then-is_understood-clause-kept : goal.returns-then-is_understood-clause-kept
returns-then-is_understood-clause-kept g c clean =
    not_run_keeps (state g.S.Store c.args.tx.now.conn.now) (state g.S.Store c.prepare.new.self.conn.now) two_text [] c.in-Err.error (c.in-Err.ensures.err clean [])

pub returns-clause-kept : goal.returns-clause-kept
returns-clause-kept g c clean =
    not_run_keeps (state g.S.Store c.args.tx.now.conn.now) (state g.S.Store c.prepare.new.self.conn.now) two_text [] c.in-Err.error (c.in-Err.ensures.err clean [])

pub returns-clause-refused : goal.returns-clause-refused
returns-clause-refused g c clean e is other =
    let old = state g.S.Store c.args.tx.now.conn.now in
    let new = state g.S.Store c.prepare.new.self.conn.now in
    let same : c.in-Err.error ≡ e = same_error is in
    let bare = two_bare old.now.schema in
    two_refused two_text old new bare.0 bare.1 c.in-Err.error (λ oom. other (sym same ∙ oom)) (λ two. both_ways _ c.if-is_understood.false (c.is_understood.ensures.1 two))
    (c.in-Err.ensures.err clean [])

pub returns-clause-either : goal.returns-clause-either
returns-clause-either g c clean e is =
    let old = state g.S.Store c.args.tx.now.conn.now in
    let new = state g.S.Store c.prepare.new.self.conn.now in
    let bare = two_bare old.now.schema in
    subst (λ (x : Error). HasRefused old new ⊎ ((x ≡ SqliteFailure OutOfMemory) × HasLackedMemory old new)) (same_error is)
    (two_refused_either two_text old new bare.0 bare.1 c.in-Err.error (λ two. both_ways _ c.if-is_understood.false (c.is_understood.ensures.1 two)) (c.in-Err.ensures.err clean []))
