-- A keeper in memory, as contracts see it: what it was made for, and what it keeps.
use Rattle.std.specs.Prelude.{ℕ}
use Rattle.merge_core.specs.Layout.{LayoutState}
use Rattle.admission_core.specs.Kept.{DurableState}

pub record MemoryState : Type 0 where
  pub layout : LayoutState
  pub site : ℕ
  pub part : DurableState
