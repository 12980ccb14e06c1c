use Rattle.std.proofs.Common.{sym, subst}
use Rattle.merge_core.specs.Layout.{Shape, shape_of}
use Rattle.merge_core.specs.Check.{IsChecked}
use Rattle.merge_core.specs.Book.{book_shape}
use Rattle.merge_core.proofs.GrowthLemmas.{checked_wider, IsWidened-told}
use Rattle.merge_core.proofs.book.Book.widened.Goals as goal

pub join-requires : goal.join-requires
join-requires c =
    subst (λ (at : Shape). IsChecked at c.in_ok-told.told.rows) (sym c.in_ok-wide.ensures.shape)
    (checked_wider (book_shape c.args.self.now) (shape_of c.args.layout.now) c.in_ok-told.told.rows c.requires c.in_ok-told.ensures.checked)

pub returns-clause-counters : goal.returns-clause-counters
returns-clause-counters c =
    IsWidened-told (shape_of c.args.layout.now) c.args.self.now c.in_ok-wide.wide c.join.new.self c.in_ok-told.told.rows c.in_ok-told.ensures.book c.requires c.in_ok-wide.ensures.shape c.in_ok-wide.ensures.counters c.in_ok-told.ensures.counters c.join.ensures.counters
