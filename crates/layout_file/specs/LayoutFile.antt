-- What a layout file says (this project's own format, in TOML): the keys `sites` and `record` and no other,
-- and in each record `name`, `seats`, `home` and `problem` and no other.
use Rattle.std.specs.Prelude.{◌≡◌, ℕ, ◌+◌, min, ◌==◌, nat_le, pos, List, [], ◌∷◌, codes, if◌then◌else◌, Option, Some, None, IsUtf8, Result, Ok, Err}
use Rattle.toml.specs.Data.{Data, integer, array, table, Items, no_items, item, Members, no_members, member, get, as_str}
use Rattle.toml.specs.Parse.{parse_document}
use Rattle.text_parts.specs.Readers.{◌>>=◌}
use Rattle.merge_core.specs.declared.layout.RecordSpec.{RecordSpec}
use Rattle.merge_core.specs.declared.layout.LayoutError.{LayoutError}
use Rattle.merge_core.specs.declared.layout.LayoutError.TheVariants as layout_error
use Rattle.merge_core.specs.Layout.{LayoutState, layout_fault}
use Rattle.text_input.specs.declared.input.InputError.TheVariants as input
use Rattle.text_input.specs.Input.{LosesSome, ReadsUpTo}
use Rattle.text_input.specs.Source.{SourceState}
use Rattle.layout_file.specs.declared.fault.LayoutFault.{LayoutFault}
use Rattle.layout_file.specs.declared.fault.LayoutFault.TheVariants.{NotRead, TooLong, NotToml, WrongKeys, Refused, Memory, BadGrowth, NoSite}
use Rattle.layout_file.specs.declared.refusal.LayoutRefusal.{LayoutRefusal}
use Rattle.layout_file.specs.Places.{NamesRecord}

abbrev pub count_members : Members → ℕ
count_members no_members = 0
count_members (member k d ms) = count_members ms + 1

-- how many keys a table has; 0 for what is no table
abbrev pub key_count : Data → ℕ
key_count (table ms) = count_members ms
key_count _ = 0

-- an integer from 0 to 65,536
abbrev pub number_in : Data → Option ℕ
number_in (integer (pos n)) = if nat_le n 65536 then Some n else None
number_in _ = None

-- the number at a key
unfoldable pub number_at_key : List ℕ → Data → Option ℕ
number_at_key key d = get key d >>= number_in

-- the number at a key, of which 65,536 is taken as 65,535
unfoldable pub short_at_key : List ℕ → Data → Option ℕ
short_at_key key d = number_at_key key d >>= λ n. Some (min n 65535)

unfoldable pub text_at_key : List ℕ → Data → Option (List ℕ)
text_at_key key d = get key d >>= as_str

-- one record: a table of just these four keys
unfoldable pub record_in : Data → Option RecordSpec
record_in d = if key_count d == 4 then (do
  name ← text_at_key (codes "name") d
  seats ← number_at_key (codes "seats") d
  home ← short_at_key (codes "home") d
  problem ← short_at_key (codes "problem") d
  Some (record { name = name; seats = seats; home = home; problem = problem })) else None

-- each item a record
abbrev pub records_in : Items → Option (List RecordSpec)
records_in no_items = Some []
records_in (item d ds) = record_in d >>= λ r. records_in ds >>= λ rs. Some (r ∷ rs)

abbrev pub records_of : Data → Option (List RecordSpec)
records_of (array ds) = records_in ds
records_of _ = None

unfoldable pub records_at_key : List ℕ → Data → Option (List RecordSpec)
records_at_key key d = get key d >>= records_of

-- the whole file: a table of just these two keys. What the numbers and names have to be is judged later
unfoldable pub parts_in : Data → Option LayoutState
parts_in d = if key_count d == 2 then (do
  sites ← short_at_key (codes "sites") d
  records ← records_at_key (codes "record") d
  Some (record { sites = sites; records = records })) else None

-- a refusal for a fault of no single record
abbrev pub whole_refusal : LayoutFault → LayoutRefusal
whole_refusal fault = record { fault = fault; place = None }

-- sites and records were read, and are no layout
abbrev pub IsRefused : Option LayoutState → LayoutError → Type 0
IsRefused read error = (layout : LayoutState) × (read ≡ Some layout) × (layout_fault layout.sites layout.records ≡ Some error)

-- The refusal of a document whose sites and records were read, if they were. The place of a record is told where the
-- fault is that of a record.
abbrev pub TellsRefusal : Option LayoutState → LayoutFault → Option ℕ → Type 0
TellsRefusal read NotRead place = ⊥
TellsRefusal read TooLong place = ⊥
TellsRefusal read NotToml place = ⊥
TellsRefusal read WrongKeys place = (read ≡ None) × (place ≡ None)
TellsRefusal read (Refused e) place =
    (layout : LayoutState) × (read ≡ Some layout) × (layout_fault layout.sites layout.records ≡ Some e)
    × NamesRecord e layout.sites layout.records place
TellsRefusal read Memory place = place ≡ None
TellsRefusal read BadGrowth place = ⊥
TellsRefusal read NoSite place = ⊥

-- The answer to a document whose sites and records were read, if they were.
abbrev pub TellsLayout : Option LayoutState → Result LayoutState LayoutRefusal → Type 0
TellsLayout read (Ok layout) = (read ≡ Some layout) × (layout_fault layout.sites layout.records ≡ None)
TellsLayout read (Err refusal) = TellsRefusal read refusal.fault refusal.place

-- the bytes are a TOML document, whose sites and records were read, if it tells them
abbrev pub ReadsDocument : List ℕ → (Option LayoutState → Type 0) → Type 0
ReadsDocument bytes Told = (ms : Members) × IsUtf8 bytes × (parse_document bytes ≡ Some ms) × Told (parts_in (table ms))

-- why bytes describe no layout: they are no TOML document, or it is told by the document's keys
abbrev pub RefusesLayout : List ℕ → LayoutFault → Option ℕ → Type 0
RefusesLayout bytes NotToml place = (IsUtf8 bytes → parse_document bytes ≡ None) × (place ≡ None)
RefusesLayout bytes Memory place = place ≡ None
RefusesLayout bytes fault place = ReadsDocument bytes (λ read. TellsRefusal read fault place)

-- What reading a layout from a file's bytes answers. They are no TOML document; or they are one, and the answer
-- is told by its keys. Memory may run out at any time.
abbrev pub ReadsLayout : List ℕ → Result LayoutState LayoutRefusal → Type 0
ReadsLayout bytes (Ok layout) = ReadsDocument bytes (λ read. TellsLayout read (Ok layout))
ReadsLayout bytes (Err refusal) = RefusesLayout bytes refusal.fault refusal.place

-- the names of the faults, as the program writes them
abbrev pub layout_error_name : LayoutError → List ℕ
layout_error_name layout_error.TooFewSites = codes "TooFewSites"
layout_error_name layout_error.TooManySites = codes "TooManySites"
layout_error_name layout_error.NoRecords = codes "NoRecords"
layout_error_name layout_error.TooManyRecords = codes "TooManyRecords"
layout_error_name layout_error.BadName = codes "BadName"
layout_error_name layout_error.SameName = codes "SameName"
layout_error_name layout_error.BadSeats = codes "BadSeats"
layout_error_name layout_error.BadHome = codes "BadHome"
layout_error_name layout_error.BadProblem = codes "BadProblem"

abbrev pub layout_fault_name : LayoutFault → List ℕ
layout_fault_name NotRead = codes "NotRead"
layout_fault_name TooLong = codes "TooLong"
layout_fault_name NotToml = codes "NotToml"
layout_fault_name WrongKeys = codes "WrongKeys"
layout_fault_name (Refused e) = layout_error_name e
layout_fault_name Memory = codes "Memory"
layout_fault_name BadGrowth = codes "BadGrowth"
layout_fault_name NoSite = codes "NoSite"

-- the layout without a file: two sites, and one record `a` of two seats at site 0, under problem 1
abbrev pub built_in_layout : LayoutState
built_in_layout = record {
  sites = 2;
  records = record { name = codes "a"; seats = 2; home = 0; problem = 1 } ∷ [];
}

-- the most bytes of a layout file (this project's own limit)
abbrev pub layout_limit : ℕ
layout_limit = 1048576

-- why a file holds no layout: a read failed, or there are more bytes than the limit, or all its bytes describe none
abbrev pub RefusesLayoutFile : SourceState → SourceState → LayoutFault → Option ℕ → Type 0
RefusesLayoutFile old new NotRead place = ReadsUpTo layout_limit old new (Err input.Io) × (place ≡ None)
RefusesLayoutFile old new TooLong place = ReadsUpTo layout_limit old new (Err input.TooLong) × (place ≡ None)
RefusesLayoutFile old new Memory place = LosesSome old new (layout_limit + 1) × (place ≡ None)
RefusesLayoutFile old new fault place = (bytes : List ℕ) × ReadsUpTo layout_limit old new (Ok bytes) × RefusesLayout bytes fault place

-- What reading a layout file answers: what all its bytes describe; or a read failed, or there are more bytes than
-- the limit. Memory may run out at any time.
abbrev pub ReadsLayoutFile : SourceState → SourceState → Result LayoutState LayoutRefusal → Type 0
ReadsLayoutFile old new (Ok layout) = (bytes : List ℕ) × ReadsUpTo layout_limit old new (Ok bytes) × ReadsLayout bytes (Ok layout)
ReadsLayoutFile old new (Err refusal) = RefusesLayoutFile old new refusal.fault refusal.place
