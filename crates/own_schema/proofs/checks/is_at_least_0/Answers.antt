-- The nodes at the root and on both sides make the term.
use Rattle.std.proofs.Common.{◌≤◌, length, sym, ◌∙◌, arith}
use Rattle.std.proofs.lemmas.Bool.{false≢true}
use Rattle.own_schema.proofs.TermLemmas.{is_term, sides_at_root}
use Rattle.own_schema.proofs.checks.is_at_least_0.Goals as goal

pub returns-then-has_column_at : goal.returns-then-has_column_at
returns-then-has_column_at c =
    let nodes = c.args.nodes.now in
    let two : 2 ≤ length nodes = omega (arith, c.len.ensures, c.if-len-lt2.false) in
    let root = c.in-Some.ensures {u = tt} in (
      λ e. is_term nodes c.args.root c.in-Some.a c.in-Some.b c.args.place two root (c.has_column_at.ensures.0 c.if-has_column_at.true) (c.has_zero_at.ensures.0 e),
      λ e. c.has_zero_at.ensures.1 (sides_at_root nodes c.args.root c.in-Some.a c.in-Some.b c.args.place two root e).1,
    )

pub returns-else-has_column_at : goal.returns-else-has_column_at
returns-else-has_column_at c =
    let nodes = c.args.nodes.now in
    let two : 2 ≤ length nodes = omega (arith, c.len.ensures, c.if-len-lt2.false) in
    let root = c.in-Some.ensures {u = tt} in (
      λ e. absurd (false≢true (sym c.if-has_column_at.false ∙ e)),
      λ e. c.has_column_at.ensures.1 (sides_at_root nodes c.args.root c.in-Some.a c.in-Some.b c.args.place two root e).0,
    )
