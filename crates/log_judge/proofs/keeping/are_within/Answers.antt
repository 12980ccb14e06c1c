use Rattle.std.proofs.Common.{refl, ℕ, List, [], ◌≡◌, ◌∙◌, true, false, subst, sym, get_or, below_more, arith}
use Rattle.std.proofs.lemmas.List.{get_or_read}
use Rattle.merge_core.specs.declared.delta.Row.{Row}
use Rattle.merge_core.specs.Rows.{counters_of}
use Rattle.log_judge.specs.Excess.{IsAbove, no_row, own_in}
use Rattle.log_judge.proofs.KeepingLemmas.{past_tables}
use Rattle.log_judge.proofs.keeping.are_within.Goals as goal

pub sites-preserved : goal.sites-preserved
sites-preserved c =
    let own = c.index-tables-s.result in
    let here : c.as_slice.result.now ≡ get_or c.args.tables.now c.sites.s [] = c.as_slice.ensures ∙ get_or_read c.args.tables.now c.sites.s own c.sites-test.true c.index-tables-s.is [] in
    below_more (λ k. (r : ℕ) → ¬ IsAbove (counters_of (own_in c.args.tables.now k r)) (counters_of (own_in c.args.others.now k r))) c.sites.s c.sites.invariant
    (λ r. subst (λ (rows : List Row). ¬ IsAbove (counters_of (get_or rows r no_row)) (counters_of (own_in c.args.others.now c.sites.s r))) here (c.are_rows_within.ensures.0 c.if-not-are_rows_within.false r))

pub returns-then-not-are_rows_within : goal.returns-then-not-are_rows_within
returns-then-not-are_rows_within c =
    let own = c.index-tables-s.result in
    let here : c.as_slice.result.now ≡ get_or c.args.tables.now c.sites.s [] = c.as_slice.ensures ∙ get_or_read c.args.tables.now c.sites.s own c.sites-test.true c.index-tables-s.is [] in (
      λ no. let wrong : false ≡ true = no in absurd cc,
      λ within.
          let yes = c.are_rows_within.ensures.1 (λ r. subst (λ (rows : List Row). ¬ IsAbove (counters_of (get_or rows r no_row)) (counters_of (own_in c.args.others.now c.sites.s r))) (sym here) (within c.sites.s r)) in
          cc (yes, c.if-not-are_rows_within.true),
    )

pub returns : goal.returns
returns c = (λ yes. past_tables c.args.tables.now c.args.others.now (λ s below. c.sites.invariant s (omega (arith, below, c.sites-test.false))), λ within. refl)
