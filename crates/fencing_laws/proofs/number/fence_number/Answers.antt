use Rattle.std.proofs.Common.{◌∙◌, ap, ℕ, arith, rules}
use Rattle.merge_core.specs.declared.cell.Cell.TheVariants.{Fin}
use Rattle.merge_core.specs.Book.{counter_of}
use Rattle.merge_core.specs.Layout.{LayoutState}
use Rattle.merge_core.specs.Sums.{total}
use Rattle.fencing_laws.proofs.NumberLemmas.{number_in_world}
use Rattle.fencing_laws.proofs.number.fence_number.Goals as goal

pub returns-clause-world : goal.returns-clause-world
returns-clause-world c = λ w reached i below stands.
    let core = c.args.core.now in
    c.loop-s.invariant.so_far
    ∙ (ap (λ (n : ℕ). total n (λ k. counter_of core.book c.args.r k Fin)) (omega (arith, ap (λ (l : LayoutState). l.sites) c.layout.ensures))
    ∙ number_in_world core w reached i c.args.r below stands)

pub loop-s-preserved : goal.loop-s-preserved
loop-s-preserved c = search rules
