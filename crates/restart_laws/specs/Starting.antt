-- A site that is started from what a crash left of its store.
use Rattle.std.specs.Prelude.{◌≡◌, ◌≤◌, ℕ, List, Result}
use Rattle.sqlite_trees.specs.declared.store.Store.{Ghosts}
use Rattle.sqlite.specs.Held.{Held}
use Rattle.merge_core.specs.Layout.{IsLayout, LayoutState, at_sites}
use Rattle.admission_model.specs.Account.{Account}
use Rattle.admission_model.specs.Reached.{IsReached}
use Rattle.admission_core.specs.declared.restoring.RestoreError.{RestoreError}
use Rattle.admission_core.specs.Core.{Core}
use Rattle.admission_core.specs.Kept.{DurableState}
use Rattle.admission_core.specs.Restored.{IsRestored}
use Rattle.store_rows.specs.Rows.{Stored}
use Rattle.store_rows.specs.Holding.{Keeps, KeepsEither, KeepsNothingOr}
use Rattle.store_content.specs.Content.{durable_in}
use Rattle.site_store.specs.declared.sql.SqlKeeper.{SqlKeeper}
use Rattle.site_store.specs.Sql.{IsOneOf, KeepsPart, is_honest}
use Rattle.site_store.specs.Opened.{Settles, SettlesOr}

-- the site of a reached account may start again under this layout: it is that of the account, or a later one
pub record MayStart (layout : LayoutState) (a : Account) : Type 0 where
  pub is_layout : IsLayout layout
  pub reached : IsReached a
  pub same_records : layout ≡ at_sites layout.sites a.origin.layout
  pub no_fewer : a.sites ≤ layout.sites

module _ {S : Type 0} (g : Ghosts S) where
  -- A crash left one of two contents, each with one of two durable parts: what a keeper keeps that told a fault at a change, as
  -- `KeepsEitherPart` says it.
  pub record LeavesPart (layout : LayoutState) (site : List ℕ) (d e : DurableState) (c : Held S) : Type 0 where
    pub first : Stored
    pub second : Stored
    pub left : KeepsEither g c first second
    pub is_first : IsOneOf layout site d e first
    pub is_second : IsOneOf layout site d e second

  -- What contracts say of three calls in a row: a store was opened over a connection (`store`, `settles` and `settles_or` of
  -- `open` and `open_served`), what its keeper keeps was loaded while the device is honest (`found` of `load`), and a core was asked for of
  -- what was found (`answer` of `restore`).
  pub record Starts (layout : LayoutState) (i : ℕ) (c : Held S) (restored : Result Core RestoreError) : Type 0 where
    pub opened : SqlKeeper S g
    pub stored : (it : Stored) → Keeps g c it → KeepsPart opened (durable_in it)
    pub settles : (a b : Stored) → KeepsEither g c a b → Settles a b opened
    pub settles_or : (it : Stored) → KeepsNothingOr g c it → SettlesOr it opened
    pub loaded : SqlKeeper S g
    pub honest : is_honest loaded
    pub found : DurableState
    pub finds : (d : DurableState) → KeepsPart opened d → is_honest loaded → found ≡ d
    pub answer : IsRestored layout i found restored
