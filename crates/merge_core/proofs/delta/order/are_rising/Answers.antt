use Rattle.std.proofs.Common.{refl, sym, ◌∙◌, arith}
use Rattle.std.proofs.lemmas.Bool.{false≢true}
use Rattle.merge_core.proofs.RowLemmas.{comes_before_read, IsRising-from_neighbours}
use Rattle.merge_core.proofs.delta.order.are_rising.Goals as goal

pub returns-then-not-comes_before : goal.returns-then-not-comes_before
returns-then-not-comes_before c = (
  λ e. absurd (false≢true e),
  λ rising. sym c.if-not-comes_before.true ∙ c.comes_before.ensures.1
      (comes_before_read c.args.rows.now c.loop-i.i _ _ (omega arith) (omega arith) c.index-rows-i.is c.index-rows-i-in-loop-i.is rising),
)

pub returns : goal.returns
returns c =
    (λ e. IsRising-from_neighbours c.args.rows.now (λ k d below. c.loop-i.invariant k d (omega arith)), λ rising. refl)
