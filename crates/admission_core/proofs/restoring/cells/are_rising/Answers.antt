use Rattle.std.proofs.Common.{refl, sym, ◌∙◌, arith}
use Rattle.std.proofs.lemmas.Bool.{false≢true}
use Rattle.admission_core.proofs.RestoringLists.{before_at, AreRising-from_neighbours}
use Rattle.admission_core.proofs.restoring.cells.are_rising.Goals as goal

pub returns-then-not-is_before : goal.returns-then-not-is_before
returns-then-not-is_before c = (
  λ e. absurd (false≢true e),
  λ rising. sym c.if-not-is_before.true ∙ (c.is_before.ensures ∙ before_at c.args.cells.now c.loop-i.i _ (omega arith) (omega arith) rising),
)

pub returns : goal.returns
returns c =
    (λ e. AreRising-from_neighbours c.args.cells.now (λ k d below. c.loop-i.invariant k d (omega arith)), λ rising. refl)
