use Rattle.std.proofs.Common.{refl, ◌≡◌, true, false, subst, sym, get_or, below_more, arith}
use Rattle.std.proofs.lemmas.List.{get_or_read}
use Rattle.merge_core.specs.declared.delta.Row.{Row}
use Rattle.merge_core.specs.Rows.{counters_of}
use Rattle.log_judge.specs.Excess.{IsAbove, no_row, own_in}
use Rattle.log_judge.proofs.KeepingLemmas.{past_within}
use Rattle.log_judge.proofs.keeping.are_rows_within.Goals as goal

pub rows-preserved : goal.rows-preserved
rows-preserved c =
    let row = c.index-rows-r.result in
    let here = get_or_read c.args.rows.now c.rows.r row c.rows-test.true c.index-rows-r.is no_row in
    below_more (λ k. ¬ IsAbove (counters_of (get_or c.args.rows.now k no_row)) (counters_of (own_in c.args.tables.now c.args.s k))) c.rows.r c.rows.invariant
    (λ above. let yes = c.is_over.ensures.1 (subst (λ (p : Row). IsAbove (counters_of p) (counters_of (own_in c.args.tables.now c.args.s c.rows.r))) (sym here) above) in cc (yes, c.if-is_over.false))

pub returns-then-is_over : goal.returns-then-is_over
returns-then-is_over c =
    let row = c.index-rows-r.result in
    let here = get_or_read c.args.rows.now c.rows.r row c.rows-test.true c.index-rows-r.is no_row in
    (λ no. let wrong : false ≡ true = no in absurd cc, λ none. absurd (none c.rows.r (subst (λ (p : Row). IsAbove (counters_of p) (counters_of (own_in c.args.tables.now c.args.s c.rows.r))) here (c.is_over.ensures.0 c.if-is_over.true))))

pub returns : goal.returns
returns c = (λ yes. past_within c.args.rows.now (λ r. counters_of (own_in c.args.tables.now c.args.s r)) (λ r below. c.rows.invariant r (omega (arith, below, c.rows-test.false))), λ none. refl)
