use Rattle.std.proofs.Common.{◌≡◌, ◌≤◌, length, take}
use Rattle.session_book.specs.Passes.{receipts_of}
use Rattle.session_book.proofs.closing.first_other.Given as goal

abbrev pub invariant-entries : goal.invariant-entries
invariant-entries l = record {
  within : l.next ≤ length l.receipts;
  same : receipts_of l.number (take l.i l.entries) ≡ take l.next l.receipts;
}
