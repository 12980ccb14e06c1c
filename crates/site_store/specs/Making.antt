-- A store that is made with counters in it (this project's own).
use Rattle.std.specs.Prelude.{◌≡◌, ◌≢◌, ℕ, true, false, List, [], Option, None}
use Rattle.sqlite_trees.specs.declared.store.Store.{Ghosts}
use Rattle.sqlite.specs.Held.{Held}
use Rattle.merge_core.specs.Layout.{LayoutState}
use Rattle.layout_line.specs.Line.{line_of}
use Rattle.admission_model.specs.declared.durable.DurableCell.{DurableCell}
use Rattle.admission_core.specs.Kept.{ChangeState}
use Rattle.store_rows.specs.Rows.{Stored}
use Rattle.store_rows.specs.Holding.{KeepsNothing, KeepsNothingOr}
use Rattle.store_tables.specs.Transacts.{made}
use Rattle.store_content.specs.Content.{durable_in}
use Rattle.store_content.specs.Plan.{after_change}
use Rattle.site_store.specs.declared.error.ServedError.{ServedError}
use Rattle.site_store.specs.declared.error.ServedError.TheVariants.{StoreFault}
use Rattle.site_store.specs.declared.served.Permission.{Permission}
use Rattle.site_store.specs.SiteText.{site_text}
use Rattle.site_store.specs.Sql.{IsOf}

-- what the making of a store asks of a database: that it holds nothing
abbrev pub to_make : Permission
to_make = record { create = true; grow = false }

-- counters and no session
abbrev pub counters_alone : List DurableCell → ChangeState
counters_alone cells = record { cells = cells; session = None }

-- the content of a new store with these counters
abbrev pub new_content : LayoutState → ℕ → Option (List ℕ) → List DurableCell → Stored
new_content layout i group cells = after_change (counters_alone cells) (made (site_text i group) (line_of layout))

-- it is one of the site, and stands for the durable part of these counters and no session
pub record IsNew (layout : LayoutState) (i : ℕ) (group : Option (List ℕ)) (cells : List DurableCell) : Type 0 where
  pub own : IsOf layout (site_text i group) (new_content layout i group cells)
  pub part : durable_in (new_content layout i group cells) ≡ record { cells = cells; sessions = [] }

module _ {S : Type 0} (g : Ghosts S) where
  -- after an empty database was refused: nothing, or after a fault perhaps the store that was to come
  pub record IsLeftNew (layout : LayoutState) (i : ℕ) (group : Option (List ℕ)) (cells : List DurableCell) (c : Held S) (e : ServedError) : Type 0 where
    pub either : KeepsNothingOr g c (new_content layout i group cells)
    pub still : e ≢ StoreFault → KeepsNothing g c
