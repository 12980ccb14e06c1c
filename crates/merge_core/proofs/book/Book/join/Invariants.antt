use Rattle.std.proofs.Common.{◌≡◌, ◌≤◌, ◌*◌, take}
use Rattle.merge_core.specs.Book.{book_rises}
use Rattle.merge_core.proofs.MergeLemmas.{IsJoinedWith}
use Rattle.merge_core.proofs.book.Book.join.Given as goal

abbrev pub invariant-loop-row : goal.invariant-loop-row
invariant-loop-row l = record {
  joined : IsJoinedWith l.initial.self l.self (take l.row-index l.row-items);
  counted : l.risen ≡ book_rises l.initial.self l.self;
  few : l.risen ≤ 19 * l.row-index;
}
