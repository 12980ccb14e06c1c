-- Neighbours tell whether the list rises.
use Rattle.std.proofs.Common.{refl, sym, ◌∙◌, arith}
use Rattle.std.proofs.lemmas.Bool.{false≢true}
use Rattle.store_rows.specs.Rows.{notice_before}
use Rattle.store_rows.proofs.ContentLemmas.{notices_ordered}
use Rattle.store_content.proofs.RisingLemmas.{before_at, rising_by_neighbours}
use Rattle.store_content.proofs.checks.notices_rise.Goals as goal

pub returns-then-not-is_before : goal.returns-then-not-is_before
returns-then-not-is_before c = (
  λ e. absurd (false≢true e),
  λ up. sym c.if-not-is_before.true ∙ (c.is_before.ensures ∙ before_at notice_before notices_ordered c.args.notices.now c.loop-i.i _ (omega arith) (omega arith) up),
)

pub returns : goal.returns
returns c =
    (λ e. rising_by_neighbours notice_before notices_ordered c.args.notices.now (λ k d below. c.loop-i.invariant k d (omega arith)), λ up. refl)
