-- What a site begins with that is built again of the lines of an input (the project's own).
use Rattle.std.specs.Prelude.{◌≡◌, ◌≢◌, ◌==◌, ◌&&◌, nat_le, ℕ, Bool, true, false, List, length, Some, None, Ok, Err}
use Rattle.merge_core.specs.Delta.{DeltaState}
use Rattle.merge_core.specs.Layout.{LayoutState, shape_of}
use Rattle.admission_model.specs.declared.durable.DurableCell.{DurableCell}
use Rattle.admission_model.specs.Account.{Account}
use Rattle.admission_core.specs.Core.{Core, Stands}
use Rattle.durable_keeper.specs.Keeping.{IsChange}
use Rattle.rebuild_laws.specs.Groups.{told_most}
use Rattle.group_names.specs.Names.{generation_of, is_group_name}
use Rattle.site_rebuild.specs.declared.rebuilding.RebuildError.{RebuildError}
use Rattle.site_rebuild.specs.declared.rebuilding.RebuildError.TheVariants.{Memory}
use Rattle.site_rebuild.specs.Rebuilt.{IsRebuilt, gone_of, part_by}
use Rattle.text_input.specs.Lines.{lines_of}
use Rattle.rebuild_engine.specs.declared.rebuilding.RebuildStop.{RebuildStop}
use Rattle.rebuild_engine.specs.declared.rebuilding.RebuildStop.TheVariants.{NoRoom, NotMoved, Line, Site}
use Rattle.rebuild_engine.specs.declared.lines.LineStop.TheVariants as lines
use Rattle.rebuild_engine.specs.Lines.{AreRead, StopsAt}
use Rattle.rebuild_engine.specs.Shown.{shown_text}

-- the site is lost alone
abbrev pub is_alone : List ℕ → Bool
is_alone lost = length lost == 1

-- the counters with which a site begins that is built again of deltas
abbrev pub cells_told : LayoutState → ℕ → List ℕ → List DeltaState → List DurableCell
cells_told layout i lost ds = (part_by layout (gone_of lost) i (told_most (shape_of layout) ds)).cells

-- a group of this name was moved
abbrev pub is_moved_name : List ℕ → Bool
is_moved_name name = is_group_name name && nat_le 2 (generation_of (Some name))

-- A core, counters and a text: a group of the name was moved; the lines of the bytes are deltas, each of another site; of these the core was built again, the
-- counters are those with which it begins, as a keeper may be told them, and the text shows it.
pub record IsBuiltOf (layout : LayoutState) (i : ℕ) (lost name bytes : List ℕ) (core : Core) (cells : List DurableCell) (shown : List ℕ) : Type 0 where
  pub moved : is_moved_name name ≡ true
  pub deltas : List DeltaState
  pub read : AreRead layout.records name (is_alone lost) (lines_of bytes) deltas
  pub rebuilt : IsRebuilt layout lost i deltas (Ok core)
  pub same_layout : core.layout ≡ layout
  pub told : cells ≡ cells_told layout i lost deltas
  pub is_change : IsChange core.layout i (record { cells = cells; session = None })
  pub is_shown : (a : Account) → Stands a core → shown ≡ shown_text a layout (is_alone lost) deltas

-- the core alone, of these deltas
pub record IsCoreOf (layout : LayoutState) (i : ℕ) (lost name bytes : List ℕ) (core : Core) (deltas : List DeltaState) : Type 0 where
  pub read : AreRead layout.records name (is_alone lost) (lines_of bytes) deltas
  pub rebuilt : IsRebuilt layout lost i deltas (Ok core)

-- there is no such site in a group of which this is the name: memory ran out, a line is refused, or the deltas of the lines are
abbrev pub IsUnbuiltIn : LayoutState → ℕ → List ℕ → List ℕ → List ℕ → RebuildStop → Type 0
IsUnbuiltIn layout i lost name bytes NoRoom = Unit {0}
IsUnbuiltIn layout i lost name bytes NotMoved = ⊥
IsUnbuiltIn layout i lost name bytes (Line it) = StopsAt layout.records name (is_alone lost) (lines_of bytes) (lines.Refused it)
IsUnbuiltIn layout i lost name bytes (Site error) =
    (error ≢ Memory) × ((deltas : List DeltaState) × AreRead layout.records name (is_alone lost) (lines_of bytes) deltas × IsRebuilt layout lost i deltas (Err error))

-- .. or no group of the name was moved
abbrev pub IsUnbuilt : LayoutState → ℕ → List ℕ → List ℕ → List ℕ → RebuildStop → Type 0
IsUnbuilt layout i lost name bytes NoRoom = Unit {0}
IsUnbuilt layout i lost name bytes NotMoved = is_moved_name name ≡ false
IsUnbuilt layout i lost name bytes (Line it) = (is_moved_name name ≡ true) × IsUnbuiltIn layout i lost name bytes (Line it)
IsUnbuilt layout i lost name bytes (Site error) = (is_moved_name name ≡ true) × IsUnbuiltIn layout i lost name bytes (Site error)
