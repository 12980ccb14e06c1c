-- What the program does with a move of the store at a path, and with a rebuild (the project's own). Which files stand at a path,
-- and what they hold, no contract can say.
use Rattle.std.specs.Prelude.{◌≡◌, ℕ, ◌<◌, List, Some}
use Rattle.merge_core.specs.Layout.{LayoutState}
use Rattle.admission_model.specs.declared.durable.DurableCell.{DurableCell}
use Rattle.admission_model.specs.Restoring.{AreCells, AreSessions}
use Rattle.admission_core.specs.Core.{Core}
use Rattle.admission_core.specs.Kept.{DurableState}
use Rattle.group_names.specs.Names.{next_name}
use Rattle.layout_file.specs.declared.fault.LayoutFault.TheVariants.{NoSite}
use Rattle.exit_status.specs.declared.status.Status.TheVariants.{Memory, NoLayout, NoStore}
use Rattle.rebuild_engine.specs.Parts.{IsBuiltOf, IsUnbuilt}
use Rattle.live_databases.specs.declared.rebuilding.RebuildEnd.{RebuildEnd}
use Rattle.live_databases.specs.declared.rebuilding.RebuildEnd.TheVariants.{Ended, Unbuilt}
use Rattle.live_databases.specs.declared.service_end.ServiceEnd.{ServiceEnd}
use Rattle.live_databases.specs.declared.service_end.ServiceEnd.TheVariants as ends
use Rattle.live_databases.specs.Moves.{whole_text}

-- a site of the group that began with some durable part was moved to the next generation, and the text is of all that it knows
pub record MovesSome (layout : LayoutState) (i : ℕ) (group text : List ℕ) : Type 0 where
  pub name : List ℕ
  pub is_next : next_name group ≡ Some name
  pub first : DurableState
  pub cells : AreCells layout i first.cells
  pub sessions : AreSessions layout i first.cells first.sessions
  pub is_text : text ≡ whole_text layout i name first

-- No text is given: the layout has no such site; or it has one, and the store is refused, or its file, or memory ran out. After a
-- fault of the device the store may have moved.
abbrev pub EndsUntold : LayoutState → ℕ → ServiceEnd → Type 0
EndsUntold layout i (ends.Ended (NoLayout fault)) = (fault ≡ NoSite) × (¬ (i < layout.sites))
EndsUntold layout i (ends.Ended Memory) = i < layout.sites
EndsUntold layout i (ends.Ended (NoStore refusal)) = i < layout.sites
EndsUntold layout i (ends.Absent absence) = i < layout.sites
EndsUntold layout i ended = ⊥

-- No store is made of a site that was built again: the store is refused, or its file, or memory ran out. After a fault of the device
-- it may be made.
abbrev pub EndsUnmade : LayoutState → ℕ → ServiceEnd → Type 0
EndsUnmade layout i (ends.Ended Memory) = Unit {0}
EndsUnmade layout i (ends.Ended (NoStore refusal)) = i < layout.sites
EndsUnmade layout i (ends.Absent absence) = i < layout.sites
EndsUnmade layout i ended = ⊥

-- a site was built again of the lines of the bytes, its store made, and the text shows it
pub record RebuildsSome (layout : LayoutState) (i : ℕ) (lost name bytes text : List ℕ) : Type 0 where
  pub core : Core
  pub cells : List DurableCell
  pub built : IsBuiltOf layout i lost name bytes core cells text

-- none was, or its store was not made
abbrev pub RebuildsNone : LayoutState → ℕ → List ℕ → List ℕ → List ℕ → RebuildEnd → Type 0
RebuildsNone layout i lost name bytes (Unbuilt stop) = IsUnbuilt layout i lost name bytes stop
RebuildsNone layout i lost name bytes (Ended ended) = EndsUnmade layout i ended
