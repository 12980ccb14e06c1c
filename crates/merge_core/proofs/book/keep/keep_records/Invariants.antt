use Rattle.merge_core.proofs.KeepLemmas.{IsKeptBelow}
use Rattle.merge_core.proofs.book.keep.keep_records.Given as goal

abbrev pub invariant-loop-r : goal.invariant-loop-r
invariant-loop-r l = IsKeptBelow l.sites l.site l.r l.initial.records.items l.records.items
