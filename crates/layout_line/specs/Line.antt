-- The line that a store keeps of its layout, and how one that was found compares with a layout (this project's own).
use Rattle.std.specs.Prelude.{◌≡◌, ◌≢◌, ℕ, ◌<◌, List, ◌++◌, codes, decimal}
use Rattle.std.specs.List.{flat_map}
use Rattle.merge_core.specs.declared.layout.RecordSpec.{RecordSpec}
use Rattle.merge_core.specs.Layout.{LayoutState, IsEarlier, at_sites}
use Rattle.layout_line.specs.declared.Line.{Line}
use Rattle.layout_line.specs.declared.Line.TheVariants.{Same, Earlier, Other}

-- a record: its name, seats, home and problem
abbrev pub record_text : RecordSpec → List ℕ
record_text r = codes ";" ++ (r.name ++ (codes "," ++ (decimal r.seats ++ (codes "," ++ (decimal r.home ++ (codes "," ++ decimal r.problem))))))

-- the records, in order
abbrev pub records_text : List RecordSpec → List ℕ
records_text records = flat_map record_text records

-- the number of sites, and then the records
abbrev pub line_of : LayoutState → List ℕ
line_of l = decimal l.sites ++ records_text l.records

-- a line is that of an earlier layout, of n sites, one of which is i
pub record IsEarlierLine (layout : LayoutState) (i : ℕ) (line : List ℕ) (n : ℕ) : Type 0 where
  pub earlier : IsEarlier (at_sites n layout) layout
  pub there : i < n
  pub is_its : line ≡ line_of (at_sites n layout)

-- how a line compares with a layout at site i
abbrev pub IsLine : LayoutState → ℕ → List ℕ → Line → Type 0
IsLine layout i line Same = line ≡ line_of layout
IsLine layout i line Earlier = (n : ℕ) × IsEarlierLine layout i line n
IsLine layout i line Other = (line ≢ line_of layout) × ((n : ℕ) → ¬ IsEarlierLine layout i line n)
