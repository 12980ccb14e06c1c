use Rattle.std.proofs.Common.{◌<◌, sym, ap, ◌∙◌, arith}
use Rattle.merge_core.specs.Book.{book_shape, counter_of}
use Rattle.merge_core.specs.Tests.{is_placed}
use Rattle.merge_core.proofs.TestLemmas.{passes_at}
use Rattle.admission_core.specs.Core.{Core, IsCore}
use Rattle.admission_core.specs.Joining.{row_raises}
use Rattle.admission_core.proofs.JoiningLemmas.{ahead_at, none_ahead_at}
use Rattle.admission_core.proofs.site_core.SiteCore.first_ahead.Goals as goal

pub rises-requires : goal.rises-requires
rises-requires c =
    let read = c.rows-row-items in
    passes_at (is_placed (book_shape c.args.self.now.book)) c.args.delta.now.rows read.result.now c.loop-row.row-index
    c.row-item.result c.requires.placed read.ensures.rows c.loop-row-test.true c.row-item.is

pub returns-then-rises-gt0 : goal.returns-then-rises-gt0
returns-then-rises-gt0 c =
    let core = c.args.self.now in
    let read = c.rows-row-items in
    let p = c.row-item.result in
    let is : IsCore core = rw (← c.self.view_is) c.self.invariant in
    let own = c.if-row-self.true ∙ ap (λ (x : Core). x.site) c.self.view_is in
    let ahead : 0 < row_raises core.book.sites (counter_of core.book) p = omega (arith, c.rises.ensures.value, c.if-rises-gt0.true) in
    sym (ahead_at core c.args.delta.now read.result.now c.loop-row.row-index p is read.ensures.valid read.ensures.rows
    c.requires c.loop-row-test.true c.row-item.is own ahead c.loop-row.invariant)

pub returns : goal.returns
returns c =
    let core = c.args.self.now in
    let read = c.rows-row-items in
    let is : IsCore core = rw (← c.self.view_is) c.self.invariant in
    sym (none_ahead_at core c.args.delta.now read.result.now is read.ensures.rows (λ k d below own. c.loop-row.invariant k d (omega arith) own))
