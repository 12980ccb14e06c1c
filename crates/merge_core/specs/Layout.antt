-- What every site agrees on before it starts: the sites, and for each record its name, its seats, the
-- site where they start, and the rule of admission.
use Rattle.std.specs.Prelude.{◌≡◌, ℕ, ◌<◌, ◌≤◌, ◌⊎◌, Bool, true, false, not, ◌&&◌, ◌||◌, List, [], ◌∷◌, length, map, nat_lt, nat_le, ◌==◌, if◌then◌else◌, Option, Some, None, IsTrue, All}
use Rattle.std.specs.List.{list_all, list_any}
use Rattle.std.specs.Str.{bytes_eq}
use Rattle.merge_core.specs.declared.layout.RecordSpec.{RecordSpec}
use Rattle.merge_core.specs.declared.layout.LayoutError.{LayoutError}
use Rattle.merge_core.specs.declared.layout.LayoutError.TheVariants.{TooFewSites, TooManySites, NoRecords, TooManyRecords, BadName, SameName, BadSeats, BadHome, BadProblem}

-- a layout as contracts see it
pub record LayoutState : Type 0 where
  pub sites : ℕ
  pub records : List RecordSpec

-- a to z, 0 to 9 or `-`
abbrev pub is_name_byte : ℕ → Bool
is_name_byte b = (nat_le 97 b && nat_le b 122) || ((nat_le 48 b && nat_le b 57) || (b == 45))

-- 1 to 16 such bytes, the first a letter
abbrev pub is_record_name : List ℕ → Bool
is_record_name [] = false
is_record_name (b ∷ bs) = (nat_le 97 b && nat_le b 122) && (nat_le (length bs) 15 && list_all is_name_byte bs)

-- some record of the list has the name
abbrev pub has_name : List ℕ → List RecordSpec → Bool
has_name name records = list_any (λ r. bytes_eq r.name name) records

-- no two records of the list have one name
abbrev pub names_differ : List RecordSpec → Bool
names_differ [] = true
names_differ (r ∷ rs) = not (has_name r.name rs) && names_differ rs

abbrev pub has_good_name : RecordSpec → Bool
has_good_name r = is_record_name r.name

abbrev pub has_good_seats : RecordSpec → Bool
has_good_seats r = nat_le 1 r.seats && nat_le r.seats 65535

abbrev pub has_good_home : ℕ → RecordSpec → Bool
has_good_home sites r = nat_lt r.home sites

abbrev pub has_good_problem : RecordSpec → Bool
has_good_problem r = (r.problem == 1) || (r.problem == 2)

-- what is wrong with sites and records: kind by kind over all records, the first kind that applies
abbrev pub layout_fault : ℕ → List RecordSpec → Option LayoutError
layout_fault sites records =
    if sites == 0 then Some TooFewSites else (
    if nat_lt 16 sites then Some TooManySites else (
    if length records == 0 then Some NoRecords else (
    if nat_lt 256 (length records) then Some TooManyRecords else (
    if not (list_all has_good_name records) then Some BadName else (
    if not (names_differ records) then Some SameName else (
    if not (list_all has_good_seats records) then Some BadSeats else (
    if not (list_all (has_good_home sites) records) then Some BadHome else (
    if not (list_all has_good_problem records) then Some BadProblem else None))))))))

-- a layout: 1 to 16 sites; 1 to 256 records, each with a name of its own, 1 to 65,535 seats that start at
-- one of the sites, and the first or second problem of Courtois, Heymans and Parnas (1971)
pub record IsLayout (l : LayoutState) : Type 0 where
  pub some_sites : 1 ≤ l.sites
  pub few_sites : l.sites ≤ 16
  pub some_records : 1 ≤ length l.records
  pub few_records : length l.records ≤ 256
  pub names : All (λ r. IsTrue (has_good_name r)) l.records
  pub apart : IsTrue (names_differ l.records)
  pub seats : All (λ r. (1 ≤ r.seats) × (r.seats ≤ 65535)) l.records
  pub homes : All (λ r. r.home < l.sites) l.records
  pub problems : All (λ r. (r.problem ≡ 1) ⊎ (r.problem ≡ 2)) l.records

-- what of a record decides its counters: how many seats, and at which site they start
pub record RecordShape : Type 0 where
  pub seats : ℕ
  pub home : ℕ

-- what of a layout decides a book's counters
pub record Shape : Type 0 where
  pub sites : ℕ
  pub records : List RecordShape

abbrev pub record_shape : RecordSpec → RecordShape
record_shape r = record { seats = r.seats; home = r.home }

abbrev pub shape_of : LayoutState → Shape
shape_of l = record { sites = l.sites; records = map record_shape l.records }

-- one shape is an earlier one of another's growth: the same records at fewer sites
pub record IsEarlierShape (old new : Shape) : Type 0 where
  pub same_records : new.records ≡ old.records
  pub some_sites : 1 ≤ old.sites
  pub fewer_sites : old.sites < new.sites

-- the same records at another number of sites
abbrev pub at_sites : ℕ → LayoutState → LayoutState
at_sites n l = record l { sites = n }

-- a layout is an earlier one of another's growth: the same records at fewer sites, every home among them
pub record IsEarlier (old new : LayoutState) : Type 0 where
  pub same_records : old.records ≡ new.records
  pub fewer_sites : old.sites < new.sites
  pub homes : All (λ r. r.home < old.sites) old.records
