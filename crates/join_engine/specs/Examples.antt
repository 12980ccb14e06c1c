-- Small inputs of `join` and what they are answered, for the laws that compute the definitions on them.
use Rattle.std.specs.Prelude.{ℕ, List, [], ◌∷◌, codes}
use Rattle.merge_core.specs.declared.delta.Row.{Row}
use Rattle.merge_core.specs.Layout.{LayoutState, Shape, shape_of}
use Rattle.merge_core.specs.Delta.{DeltaState}
use Rattle.merge_core.specs.Book.{BookState}
use Rattle.merge_core.specs.Moved.{all_moved}
use Rattle.join_engine.specs.Joins.{joined_counter}
use Rattle.layout_file.specs.LayoutFile.{built_in_layout}

-- what the join of the start with these deltas tells
abbrev pub joined_rows : Shape → List DeltaState → List Row
joined_rows shape ds = all_moved shape (joined_counter shape ds)

-- a row of the first record
abbrev pub row_of_site : ℕ → List ℕ → ℕ → ℕ → Row
row_of_site s out taken ann = record { r = 0; s = s; out = out; taken = taken; ann = ann; fin = 0 }

-- Two sites that share two seats: site 0 gave one of them away; site 0 announced a writer; and both.
abbrev pub two_sites : Shape
two_sites = shape_of built_in_layout

abbrev pub seat_given : DeltaState
seat_given = record { from = 0; rows = row_of_site 0 (2 ∷ (1 ∷ [])) 0 0 ∷ [] }

abbrev pub writer_waits : DeltaState
writer_waits = record { from = 0; rows = row_of_site 0 (2 ∷ (0 ∷ [])) 0 1 ∷ [] }

abbrev pub given_and_waiting : List Row
given_and_waiting = row_of_site 0 (2 ∷ (1 ∷ [])) 0 1 ∷ []

abbrev pub seat_given_text : List ℕ
seat_given_text =
    codes "{\"from\":0,\"rows\":[{\"ann\":0,\"fin\":0,\"out\":[2,1],\"r\":0,\"s\":0,\"taken\":0}],\"v\":1}"

-- Three sites that share three seats at site 0 under problem 2. Site 1 announces a writer. Site 0 had let a
-- reader in, hears of the writer, and sends its other two seats; then the reader leaves, and it sends the third.
abbrev pub three_sites : LayoutState
three_sites = record {
  sites = 3;
  records = record { name = codes "a"; seats = 3; home = 0; problem = 2 } ∷ [];
}

abbrev pub writer_row : Row
writer_row = row_of_site 1 (0 ∷ (0 ∷ (0 ∷ []))) 0 1

abbrev pub announced : DeltaState
announced = record { from = 1; rows = writer_row ∷ [] }

abbrev pub two_sent : DeltaState
two_sent = record { from = 0; rows = row_of_site 0 (3 ∷ (2 ∷ (0 ∷ []))) 1 0 ∷ (writer_row ∷ []) }

abbrev pub three_sent : DeltaState
three_sent = record { from = 0; rows = row_of_site 0 (4 ∷ (3 ∷ (0 ∷ []))) 1 0 ∷ (writer_row ∷ []) }

abbrev pub three_sent_text : List ℕ
three_sent_text =
    codes "{\"from\":0,\"rows\":[{\"ann\":0,\"fin\":0,\"out\":[4,3,0],\"r\":0,\"s\":0,\"taken\":1},{\"ann\":1,\"fin\":0,\"out\":[0,0,0],\"r\":0,\"s\":1,\"taken\":0}],\"v\":1}"

-- a book of three sites that knows just that
abbrev pub three_sent_book : BookState
three_sent_book = record {
  sites = 3;
  records = record {
    seats = record {
      matrix = record {
        home = 0;
        seats = 3;
        rows = (4 ∷ (3 ∷ (0 ∷ []))) ∷ ((0 ∷ (0 ∷ (0 ∷ []))) ∷ ((0 ∷ (0 ∷ (0 ∷ []))) ∷ []));
      };
      taken = 1 ∷ (0 ∷ (0 ∷ []));
    };
    notices = record { announced = 0 ∷ (1 ∷ (0 ∷ [])); finished = 0 ∷ (0 ∷ (0 ∷ [])) };
  } ∷ [];
}

-- A row of the first of two sites, as it told it before the second one came; one that lacks its own site's
-- counter; and one of three sites.
abbrev pub told_alone : Row
told_alone = row_of_site 0 (2 ∷ []) 1 0

abbrev pub told_by_both : Row
told_by_both = row_of_site 0 (2 ∷ (0 ∷ [])) 1 0

abbrev pub lacks_its_own : Row
lacks_its_own = row_of_site 1 (0 ∷ []) 0 0

abbrev pub told_of_three : Row
told_of_three = row_of_site 0 (2 ∷ (1 ∷ (0 ∷ []))) 0 0
