use Rattle.std.proofs.Common.{◌≡◌, ℕ, List, get_or, sum_by, take, ap, ◌∙◌, arith}
use Rattle.std.proofs.lemmas.List.{take_all}
use Rattle.std.proofs.lemmas.List.Sums.{sum_by_more}
use Rattle.merge_core.specs.declared.delta.Row.{Row}
use Rattle.merge_core.specs.Book.{counter_of}
use Rattle.admission_core.specs.Core.{IsCore}
use Rattle.admission_core.specs.Joining.{row_raises}
use Rattle.admission_core.proofs.JoiningLemmas.{placed_at, raised_sum_at}
use Rattle.admission_core.proofs.site_core.SiteCore.raised_by.Goals as goal

pub rises-risen-requires : goal.rises-risen-requires
rises-risen-requires c =
    let core = c.args.self.now in
    let read = c.rows-row-items in
    let is : IsCore core = rw (← c.self.view_is) c.self.invariant in
    placed_at core c.args.delta.now read.result.now c.loop-row.row-index c.row-item.result is read.ensures.rows c.requires
    c.loop-row-test.true c.row-item.is

pub loop-row-preserved : goal.loop-row-preserved
loop-row-preserved c =
    let rows = c.rows-row-items.result.now in
    let i = c.loop-row.row-index in
    let p = c.row-item.result in
    let f : Row → ℕ = row_raises c.args.self.now.book.sites (counter_of c.args.self.now.book) in
    let more = sum_by_more f rows i p c.loop-row-test.true in
    let here : f p ≡ f (get_or rows i p) = ap f c.row-item.is in
    record {
      counted = omega (arith, more, here, c.rises-risen.ensures.value, c.loop-row.invariant.counted);
      few = omega (arith, c.rises-risen.ensures.few);
    }

pub returns : goal.returns
returns c =
    let core = c.args.self.now in
    let read = c.rows-row-items in
    let i = c.loop-row.row-index in
    let is : IsCore core = rw (← c.self.view_is) c.self.invariant in
    let whole : take i read.result.now ≡ c.args.delta.now.rows = take_all i read.result.now (omega arith) ∙ read.ensures.rows in
    c.loop-row.invariant.counted
    ∙ (ap (λ (ps : List Row). sum_by (row_raises core.book.sites (counter_of core.book)) ps) whole
    ∙ raised_sum_at core c.args.delta.now is read.ensures.valid c.requires)
