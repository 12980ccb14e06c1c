use Rattle.std.proofs.Common.{◌≡◌, List, Ok, Err, ap, refl, subst}
use Rattle.sqlite_value.specs.declared.value.Value.TheVariants.{Text}
use Rattle.sqlite_value.specs.Order.{Row, column}
use Rattle.sqlite_rules.specs.Lists.{Has}
use Rattle.sqlite.specs.Held.{state}
use Rattle.store_tables.specs.Marking.{outdated_name}
use Rattle.store_tables.proofs.MarkingLemmas.{tells_names}
use Rattle.store_tables.proofs.FoundLemmas.{outdated_passed, outdated_refused, outdated_then}
use Rattle.store_tables.proofs.RefusalLemmas.{same_error}
use Rattle.store_tables.proofs.marking.read_outdated.Goals as goal

pub returns-clause-reads : goal.returns-clause-reads
returns-clause-reads g c =
    outdated_then (Ok c.has_name.result) (state g.S.Store c.args.tx.now.conn.now) (state g.S.Store c.check_open.new.tx.conn.now) (state g.S.Store c.read_marks.new.tx.conn.now) c.in_ok-check_open.ensures.open c.check_open.ensures.survives c.read_marks.ensures.survives
    (λ clean v has.
    tells_names (state g.S.Store c.check_open.new.tx.conn.now).now.trees c.in_ok-rows.rows.items c.has_name.result (c.in_ok-rows.ensures.shown clean v has)
    (λ is. subst (λ (rows : List Row). (r : Row) × Has rows r × (column r 0 ≡ Text outdated_name)) c.as_slice.ensures.value (c.has_name.ensures.found is))
    (λ is. subst (λ (rows : List Row). (r : Row) → Has rows r → column r 0 ≡ Text outdated_name → ⊥) c.as_slice.ensures.value (c.has_name.ensures.none is)))
    (λ bad. cc) (λ clean v has failed. absurd (cc))

pub returns-in_err-check_open-clause-reads : goal.returns-in_err-check_open-clause-reads
returns-in_err-check_open-clause-reads g c =
    outdated_refused c.from_residual.result c.in_err-check_open.field-0.0 (state g.S.Store c.args.tx.now.conn.now) (state g.S.Store c.check_open.new.tx.conn.now) c.from_residual.ensures.1 (λ clean other. c.in_err-check_open.ensures.refused clean _ refl other) c.check_open.ensures.survives

pub returns-in_err-rows-clause-reads : goal.returns-in_err-rows-clause-reads
returns-in_err-rows-clause-reads g c =
    outdated_passed c.from_residual-in_err-rows.result c.from_residual-in_err-rows.ensures.1
    (outdated_then (Err c.in_err-rows.field-0.0) (state g.S.Store c.args.tx.now.conn.now) (state g.S.Store c.check_open.new.tx.conn.now) (state g.S.Store c.read_marks.new.tx.conn.now) c.in_ok-check_open.ensures.open c.check_open.ensures.survives c.read_marks.ensures.survives
    (λ clean v has. tt) (λ bad. c.in_err-rows.ensures.own (ap Err (same_error bad))) (λ clean v has failed. c.in_err-rows.ensures.refused clean v has (ap Err (same_error failed))))
