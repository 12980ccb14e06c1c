use Rattle.std.proofs.Common.{◌≡◌, true, List, take, sym, ◌∙◌, subst, arith}
use Rattle.std.proofs.lemmas.List.{take_all}
use Rattle.merge_core.specs.declared.delta.Row.{Row}
use Rattle.merge_core.specs.Delta.{IsRising}
use Rattle.merge_core.specs.Layout.{Shape}
use Rattle.merge_core.specs.Tests.{is_placed, is_valid}
use Rattle.merge_core.specs.Book.{BookState, IsBook, book_shape}
use Rattle.merge_core.proofs.TestLemmas.{IsPlaced, checked_placed, passes_at}
use Rattle.merge_core.proofs.RaisedLemmas.{raised_by-joined}
use Rattle.std.proofs.Common.{All}
use Rattle.merge_core.proofs.MergeLemmas.{IsJoinedWith, IsJoinedWith-start, IsLeastWith-joined, join_step}
use Rattle.merge_core.proofs.RiseLemmas.{records_rise-same}
use Rattle.merge_core.proofs.book.Book.join.Goals as goal

pub loop-row-init : goal.loop-row-init
loop-row-init c = record {
  joined = IsJoinedWith-start c.args.self.now (rw (← c.self.view_is) c.self.invariant.0);
  counted = sym (records_rise-same _);
  few = omega arith;
}

pub join_row-risen-requires-clause-placed : goal.join_row-risen-requires-clause-placed
join_row-risen-requires-clause-placed c =
    subst (λ (shape : Shape). is_placed shape c.row-item.result ≡ true) (sym c.loop-row.invariant.joined.shape)
    (passes_at (is_placed (book_shape c.args.self.now)) c.args.delta.now.rows c.rows-row-items.result.now c.loop-row.row-index c.row-item.result c.requires.placed c.rows-row-items.ensures.rows c.loop-row-test.true c.row-item.is)

pub join_row-risen-requires-clause-valid : goal.join_row-risen-requires-clause-valid
join_row-risen-requires-clause-valid c =
    subst (λ (shape : Shape). is_valid shape c.row-item.result ≡ true) (sym c.loop-row.invariant.joined.shape)
    (passes_at (is_valid (book_shape c.args.self.now)) c.args.delta.now.rows c.rows-row-items.result.now c.loop-row.row-index c.row-item.result c.requires.valid c.rows-row-items.ensures.rows c.loop-row-test.true c.row-item.is)

pub loop-row-preserved : goal.loop-row-preserved
loop-row-preserved c =
    let rows = c.rows-row-items.result.now in
    let old : BookState = c.args.self.now in
    let book : IsBook old = rw (← c.self.view_is) c.self.invariant.0 in
    let rising : IsRising rows = rw c.rows-row-items.ensures.rows c.rows-row-items.ensures.valid.rising in
    let placed : All (IsPlaced (book_shape old)) rows = rw c.rows-row-items.ensures.rows (checked_placed (book_shape old) c.args.delta.now.rows c.requires) in
    let turn = join_step old c.loop-row.self c.join_row-risen.new.self rows c.loop-row.row-index c.row-item.result c.loop-row.risen c.join_row-risen.result book rising placed c.loop-row-test.true c.row-item.is c.loop-row.invariant.joined c.loop-row.invariant.counted c.join_row-risen.ensures.change c.join_row-risen.ensures.risen c.join_row-risen.ensures.book in
    record {
      joined = turn.0;
      counted = turn.1;
      few = omega arith;
    }

pub returns-clause-risen : goal.returns-clause-risen
returns-clause-risen c =
    let rows = c.rows-row-items.result.now in
    let old : BookState = c.args.self.now in
    let book : IsBook old = rw (← c.self.view_is) c.self.invariant.0 in
    let whole : take c.loop-row.row-index rows ≡ c.args.delta.now.rows = take_all c.loop-row.row-index rows (omega arith) ∙ c.rows-row-items.ensures.rows in
    let joined = subst (λ (ps : List Row). IsJoinedWith old c.loop-row.self ps) whole c.loop-row.invariant.joined in
    c.loop-row.invariant.counted
    ∙ sym (raised_by-joined old c.loop-row.self c.args.delta.now.rows book joined.book joined.shape joined.counters)

pub returns-clause-least : goal.returns-clause-least
returns-clause-least c =
    let rows = c.rows-row-items.result.now in
    let whole : take c.loop-row.row-index rows ≡ c.args.delta.now.rows = take_all c.loop-row.row-index rows (omega arith) ∙ c.rows-row-items.ensures.rows in
    IsLeastWith-joined c.args.self.now c.loop-row.self c.args.delta.now.rows
    (subst (λ (ps : List Row). IsJoinedWith c.args.self.now c.loop-row.self ps) whole c.loop-row.invariant.joined)
