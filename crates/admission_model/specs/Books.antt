-- What a view shows of a book: the code of admission decides by a book, the model by a view of it.
use Rattle.std.specs.Prelude.{◌≡◌, ℕ}
use Rattle.merge_core.specs.declared.cell.Cell.{Cell}
use Rattle.merge_core.specs.Layout.{shape_of}
use Rattle.merge_core.specs.Book.{BookState, IsBook, book_shape, counter_of}
use Rattle.admission_model.specs.View.{View, view_of}
use Rattle.admission_model.specs.Account.{Account}
use Rattle.admission_model.specs.Reached.{IsReached}

-- a view shows what a book names: its layout has the book's shape, and its counters are the book's
pub record ShowsBook (b : BookState) (v : View) : Type 0 where
  pub shape : shape_of v.layout ≡ book_shape b
  pub counters : (r s : ℕ) (cell : Cell) → v.counter r s cell ≡ counter_of b r s cell

-- a book is valid, and shows what a reached account knows
pub record HasBook (a : Account) (b : BookState) : Type 0 where
  pub reached : IsReached a
  pub is_book : IsBook b
  pub shows : ShowsBook b (view_of a)
