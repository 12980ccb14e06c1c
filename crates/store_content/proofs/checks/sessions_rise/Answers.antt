-- Neighbours tell whether the list rises.
use Rattle.std.proofs.Common.{refl, sym, ◌∙◌, arith}
use Rattle.std.proofs.lemmas.Bool.{false≢true}
use Rattle.store_rows.specs.Rows.{session_before}
use Rattle.store_rows.proofs.ContentLemmas.{sessions_ordered}
use Rattle.store_content.proofs.RisingLemmas.{before_at, rising_by_neighbours}
use Rattle.store_content.proofs.checks.sessions_rise.Goals as goal

pub returns-then-not-is_before : goal.returns-then-not-is_before
returns-then-not-is_before c = (
  λ e. absurd (false≢true e),
  λ up. sym c.if-not-is_before.true ∙ (c.is_before.ensures ∙ before_at session_before sessions_ordered c.args.sessions.now c.loop-i.i _ (omega arith) (omega arith) up),
)

pub returns : goal.returns
returns c =
    (λ e. rising_by_neighbours session_before sessions_ordered c.args.sessions.now (λ k d below. c.loop-i.invariant k d (omega arith)), λ up. refl)
