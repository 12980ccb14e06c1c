use Rattle.merge_core.specs.Tests.{is_placed, is_valid}
use Rattle.merge_core.specs.Book.{book_shape}
use Rattle.merge_core.proofs.TestLemmas.{failing_found}
use Rattle.merge_core.proofs.book.Book.check.Goals as goal

pub returns-in-Some : goal.returns-in-Some
returns-in-Some c =
    failing_found (is_placed (book_shape c.args.self.now)) c.rows.result.now c.args.delta.now.rows c.first_misplaced.result _ c.first_misplaced.ensures c.rows.ensures.rows c.in-Some.is

pub returns-in-Some-first_invalid : goal.returns-in-Some-first_invalid
returns-in-Some-first_invalid c = (
  failing_found (is_placed (book_shape c.args.self.now)) c.rows.result.now c.args.delta.now.rows c.first_misplaced.result _ c.first_misplaced.ensures c.rows.ensures.rows c.in_default.is,
  failing_found (is_valid (book_shape c.args.self.now)) c.rows-2.result.now c.args.delta.now.rows c.first_invalid.result _ c.first_invalid.ensures c.rows-2.ensures.rows c.in-Some-first_invalid.is,
)

pub returns : goal.returns
returns c = record {
  placed = failing_found (is_placed (book_shape c.args.self.now)) c.rows.result.now c.args.delta.now.rows c.first_misplaced.result _ c.first_misplaced.ensures c.rows.ensures.rows c.in_default.is;
  valid = failing_found (is_valid (book_shape c.args.self.now)) c.rows-2.result.now c.args.delta.now.rows c.first_invalid.result _ c.first_invalid.ensures c.rows-2.ensures.rows c.in_default-first_invalid.is;
}
