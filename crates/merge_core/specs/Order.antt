-- The order of books and their join: set inclusion and least upper bounds (Shapiro et al., 2011), read over
-- the operations that books name.
use Rattle.std.specs.Prelude.{ℕ, ◌↔◌, ◌⊎◌, List, [], ◌∷◌}
use Rattle.merge_core.specs.declared.cell.Cell.{Cell}
use Rattle.merge_core.specs.declared.delta.Row.{Row}
use Rattle.merge_core.specs.Delta.{DeltaState}
use Rattle.merge_core.specs.Naming.{RowsName}
use Rattle.merge_core.specs.Book.{BookState, book_shape, Names}

-- all that the first book names, the second names
abbrev pub IsBelow : BookState → BookState → Type 0
IsBelow a b = (r s : ℕ) (cell : Cell) (k : ℕ) → Names a r s cell k → Names b r s cell k

-- all that the rows name, the book names
abbrev pub RowsBelow : List Row → BookState → Type 0
RowsBelow rows b = (r s : ℕ) (cell : Cell) (k : ℕ) → RowsName (book_shape b) rows r s cell k → Names b r s cell k

-- the two books name the same
abbrev pub NamesSame : BookState → BookState → Type 0
NamesSame a b = (r s : ℕ) (cell : Cell) (k : ℕ) → Names a r s cell k ↔ Names b r s cell k

-- the book names the grants, as far as each site has one, and nothing else
abbrev pub NamesGrants : BookState → Type 0
NamesGrants b =
    (r s : ℕ) (cell : Cell) (k : ℕ) → Names b r s cell k ↔ RowsName (book_shape b) [] r s cell k

-- the new book names exactly what the old book or the rows name
abbrev pub IsUnionWith : BookState → List Row → BookState → Type 0
IsUnionWith old rows new =
    (r s : ℕ) (cell : Cell) (k : ℕ) → Names new r s cell k ↔ (Names old r s cell k ⊎ RowsName (book_shape old) rows r s cell k)

-- a book or one of the deltas names the operation
abbrev pub Known : BookState → List DeltaState → ℕ → ℕ → Cell → ℕ → Type 0
Known b [] r s cell k = Names b r s cell k
Known b (d ∷ ds) r s cell k = RowsName (book_shape b) d.rows r s cell k ⊎ Known b ds r s cell k

-- the new book names exactly what the old book or one of the deltas names
abbrev pub NamesKnown : BookState → List DeltaState → BookState → Type 0
NamesKnown old deltas new = (r s : ℕ) (cell : Cell) (k : ℕ) → Names new r s cell k ↔ Known old deltas r s cell k

-- the least book above a book and rows
pub record IsLeastWith (old : BookState) (rows : List Row) (new : BookState) : Type 0 where
  pub above_book : IsBelow old new
  pub above_rows : RowsBelow rows new
  pub least : (c : BookState) → IsBelow old c → ((r s : ℕ) (cell : Cell) (k : ℕ) → RowsName (book_shape old) rows r s cell k → Names c r s cell k) → IsBelow new c

-- a join of two books: a least upper bound
pub record IsJoin (a b j : BookState) : Type 0 where
  pub left : IsBelow a j
  pub right : IsBelow b j
  pub least : (c : BookState) → IsBelow a c → IsBelow b c → IsBelow j c

-- a book names exactly what one of the two names
abbrev pub IsUnion : BookState → BookState → BookState → Type 0
IsUnion a b j = (r s : ℕ) (cell : Cell) (k : ℕ) → Names j r s cell k ↔ (Names a r s cell k ⊎ Names b r s cell k)

-- what one book and deltas know, another book and deltas know too, and the reverse
abbrev pub KnowsSame : BookState → List DeltaState → BookState → List DeltaState → Type 0
KnowsSame a ds b es = (r s : ℕ) (cell : Cell) (k : ℕ) → Known a ds r s cell k ↔ Known b es r s cell k
