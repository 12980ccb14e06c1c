-- A content whose row for the site was set is a content, and an index knows it.
use Rattle.std.proofs.Common.{◌≡◌, ℕ, List, refl, subst}
use Rattle.sqlite_trees.specs.declared.store.Store.{Ghosts}
use Rattle.sqlite.specs.Held.{Held}
use Rattle.merge_core.specs.Layout.{LayoutState}
use Rattle.store_rows.specs.Rows.{Stored}
use Rattle.store_rows.specs.Holding.{Keeps, KeepsEither}
use Rattle.store_tables.specs.Transacts.{with_site}
use Rattle.store_content.specs.Content.{IsContent}
use Rattle.store_content.specs.declared.index.Index.{Index}
use Rattle.store_content.specs.Known.{Knows}
use Rattle.store_tables.specs.declared.error.TableError.{TableError}
use Rattle.store_tables.specs.declared.error.TableError.TheVariants as tables
use Rattle.durable_keeper.specs.declared.error.KeeperError.TheVariants as keeper
use Rattle.site_store.specs.Errors.{keeper_error}
use Rattle.site_store.specs.Sql.{IsOf, Stores}

-- memory ran out where a keeper says so
pub memory_is : (e : TableError) → keeper_error e ≡ keeper.Memory → e ≡ tables.Memory
memory_is tables.BadStore is = cc
memory_is tables.Memory is = refl
memory_is tables.StoreFault is = cc

pub content_moved : (site : List ℕ) (it : Stored) → IsContent it → IsContent (with_site site it)
content_moved site it h = record {
  rows = record {
    cells_rise = h.rows.cells_rise;
    cells = h.rows.cells;
    notices_rise = h.rows.notices_rise;
    notices = h.rows.notices;
    sessions_rise = h.rows.sessions_rise;
    places = h.rows.places;
  };
  once = h.once;
}

pub own_moved : (layout : LayoutState) (site to row : List ℕ) (it : Stored) → to ≡ row → IsOf layout site it → IsOf layout row (with_site to it)
own_moved layout site to row it same h = record { second = h.second; its_site = same; its_layout = h.its_layout; content = content_moved to it h.content }

pub knows_moved : (index : Index) (site : List ℕ) (it : Stored) → Knows index it → Knows index (with_site site it)
knows_moved index site it h = record { places = h.places; notices = h.notices; unique = h.unique; greatest = h.greatest }

module _ {S : Type 0} (g : Ghosts S) where
  -- a connection stores the content with the row that was written, which is the keeper's own
  pub stores_moved : (layout : LayoutState) (site written to row : List ℕ) (c after : Held S) (index : Index) (it : Stored)
      → written ≡ to → to ≡ row → Keeps g after (with_site written it) → Stores g layout site c index it → Stores g layout row after index (with_site to it)
  stores_moved layout site written to row c after index it is same kept h = record {
    own = own_moved layout site to row it same h.own;
    kept = subst (λ (t : List ℕ). Keeps g after (with_site t it)) is kept;
    known = knows_moved index to it h.known;
  }

  pub either_moved : (written to : List ℕ) (after : Held S) (it : Stored) → written ≡ to → KeepsEither g after it (with_site written it) → KeepsEither g after it (with_site to it)
  either_moved written to after it is either = subst (λ (t : List ℕ). KeepsEither g after it (with_site t it)) is either
