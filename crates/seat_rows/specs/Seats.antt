-- A bounded counter of one record (Balegas et al., 2015): its rights matrix, and how many seats were taken
-- at each site, the decrements. A seat that is given back is counted as an increment in the matrix.
use Rattle.std.specs.Prelude.{◌≡◌, ℕ, ◌+◌, ◌-◌, ◌<◌, ◌≤◌, ◌==◌, max, if◌then◌else◌, List, length, replicate, slice_index, slice_index_or, slice_set, ℤ, pos, ◌-ℤ◌}
use Rattle.grow_counters.specs.Counts.{counter_limit, maxima, rise_count}
use Rattle.rights_matrix.specs.Joined.{joined, joined_at, rise_counts}
use Rattle.rights_matrix.specs.Matrix.{MatrixState, site_count, grant, entry, start_matrix, raised, gained, spent, rights_of, HasRights, IsValidRow, IsMatrix}

-- what contracts see of the seats of one record
pub record SeatState : Type 0 where
  pub matrix : MatrixState
  pub taken : List ℕ

-- 0 where there is no such site
abbrev pub taken_at : SeatState → ℕ → ℕ
taken_at st i = slice_index st.taken i

-- the seats that were given back at site i: its increments beyond its grant
abbrev pub returned_at : SeatState → ℕ → ℕ
returned_at st i = entry st.matrix i i - grant st.matrix i

-- the seats that are taken at site i and not given back
abbrev pub inside_of : SeatState → ℕ → ℕ
inside_of st i = taken_at st i - returned_at st i

abbrev pub seat_rights : SeatState → ℕ → ℕ
seat_rights st i = rights_of st.matrix i (taken_at st i)

-- the rights of site i are no negative number
abbrev pub HasSeatRights : SeatState → ℕ → Type 0
HasSeatRights st i = HasRights st.matrix i (taken_at st i)

-- the same as an integer: below 0 where not all that was sent to site i is known here
abbrev pub signed_rights : SeatState → ℕ → ℤ
signed_rights st i = pos (gained st.matrix i) -ℤ pos (spent st.matrix i (taken_at st i))

-- each of these numbers, one for each site, is what the formula adds up to (this project's own cache)
pub record TellsRights (st : SeatState) (numbers : List ℤ) : Type 0 where
  pub size : length numbers ≡ site_count st.matrix
  pub each : (i : ℕ) → i < site_count st.matrix → slice_index_or numbers i (pos 0) ≡ signed_rights st i

-- what holds of the seats of every record: no site gives back more than it took
pub record IsSeatState (st : SeatState) : Type 0 where
  pub matrix : IsMatrix st.matrix
  pub size : length st.taken ≡ site_count st.matrix
  pub returned : (i : ℕ) → i < site_count st.matrix → returned_at st i ≤ taken_at st i
  pub limit : (i : ℕ) → i < site_count st.matrix → taken_at st i ≤ counter_limit

-- what site s may say of itself: a valid row of the matrix, and no more given back than taken
pub record IsValidSeatRow (m : MatrixState) (s : ℕ) (row : List ℕ) (taken : ℕ) : Type 0 where
  pub in_matrix : IsValidRow m s row
  pub returned : slice_index row s - grant m s ≤ taken
  pub limit : taken ≤ counter_limit

-- the start: all seats at home, none taken
abbrev pub start_seats : ℕ → ℕ → ℕ → SeatState
start_seats n home seats = record { matrix = start_matrix n home seats; taken = replicate {A = ℕ} n 0 }

-- w more seats were taken at site i
abbrev pub after_take : SeatState → ℕ → ℕ → SeatState
after_take st i w = record st { taken = slice_set st.taken i (taken_at st i + w) }

-- n more at entry (i, j) of the matrix
abbrev pub after_raise : SeatState → ℕ → ℕ → ℕ → SeatState
after_raise st i j n = record st { matrix = raised st.matrix i j n }

-- the join with another copy, counter by counter the greater one (Shapiro et al., 2011)
abbrev pub joined_seats : SeatState → SeatState → SeatState
joined_seats a b = record { matrix = joined a.matrix b.matrix; taken = maxima a.taken b.taken }

-- the join with what was heard of site s
abbrev pub joined_seats_at : SeatState → ℕ → List ℕ → ℕ → SeatState
joined_seats_at st s row taken = record {
  matrix = joined_at st.matrix s row;
  taken = slice_set st.taken s (max (taken_at st s) taken);
}

-- how many counters of the new state are above those of the old one
abbrev pub seat_rises : SeatState → SeatState → ℕ
seat_rises old new = rise_counts old.matrix.rows new.matrix.rows + rise_count old.taken new.taken

-- the seats that site i is known to have taken after a restart of a site: its own alone
abbrev pub kept_taken : SeatState → ℕ → ℕ → ℕ
kept_taken st site i = if i == site then taken_at st i else 0
