-- Which record of a layout is at fault (this project's own): the first one that is, its place counted from 1.
use Rattle.std.specs.Prelude.{◌≡◌, ℕ, ◌-◌, Bool, true, false, not, List, take, Option, Some, None}
use Rattle.std.specs.List.{list_all}
use Rattle.merge_core.specs.declared.layout.RecordSpec.{RecordSpec}
use Rattle.merge_core.specs.declared.layout.LayoutError.{LayoutError}
use Rattle.merge_core.specs.declared.layout.LayoutError.TheVariants.{BadName, SameName, BadSeats, BadHome, BadProblem}
use Rattle.merge_core.specs.Layout.{has_good_home, has_good_name, has_good_problem, has_good_seats, has_name, names_differ}

-- no record has the fault that an error names; the others are faults of no single record
abbrev pub are_free_of : LayoutError → ℕ → List RecordSpec → Bool
are_free_of BadName sites records = list_all has_good_name records
are_free_of SameName sites records = names_differ records
are_free_of BadSeats sites records = list_all has_good_seats records
are_free_of BadHome sites records = list_all (has_good_home sites) records
are_free_of BadProblem sites records = list_all has_good_problem records
are_free_of _ sites records = true

-- a record behind others has the fault that an error names
abbrev pub has_fault : LayoutError → ℕ → List RecordSpec → RecordSpec → Bool
has_fault BadName sites earlier r = not (has_good_name r)
has_fault SameName sites earlier r = has_name r.name earlier
has_fault BadSeats sites earlier r = not (has_good_seats r)
has_fault BadHome sites earlier r = not (has_good_home sites r)
has_fault BadProblem sites earlier r = not (has_good_problem r)
has_fault _ sites earlier r = false

-- the record at this place is the first one with the fault: the records in front of it are free of it, and with it they are not
pub record IsFirstAtFault (error : LayoutError) (sites : ℕ) (records : List RecordSpec) (place : ℕ) : Type 0 where
  pub before : are_free_of error sites (take (place - 1) records) ≡ true
  pub at : are_free_of error sites (take place records) ≡ false

-- the place of the record that an error is about, where it is about one
abbrev pub NamesRecord : LayoutError → ℕ → List RecordSpec → Option ℕ → Type 0
NamesRecord error sites records (Some place) = IsFirstAtFault error sites records place
NamesRecord error sites records None = are_free_of error sites records ≡ true
