use Rattle.std.proofs.Common.{◌≡◌, take}
use Rattle.merge_core.specs.Book.{book_shape}
use Rattle.merge_core.specs.Changes.{JoinsAll}
use Rattle.merge_core.specs.Layout.{shape_of}
use Rattle.site_rebuild.specs.Rebuilt.{of_site}
use Rattle.site_rebuild.proofs.acting.book_from.Given as goal

abbrev pub invariant-loop-k : goal.invariant-loop-k
invariant-loop-k l = record {
  joined : JoinsAll l.initial.book l.book (of_site l.j (take l.k l.deltas));
  shape : book_shape l.book ≡ shape_of l.layout;
}
