-- What a keeper over SQLite keeps, and what it was made for.
use Rattle.std.specs.Prelude.{◌≡◌, ◌⊎◌, ℕ, List, Option, string_bytes, if◌then◌else◌}
use Rattle.std.specs.Option.{option_map}
use Rattle.sqlite_trees.specs.declared.store.Store.{Ghosts}
use Rattle.merge_core.specs.Layout.{LayoutState}
use Rattle.layout_line.specs.Line.{line_of}
use Rattle.admission_core.specs.Kept.{DurableState, ChangeState}
use Rattle.store_schema.specs.declared.Version.TheVariants.{Second}
use Rattle.store_rows.specs.Rows.{Stored}
use Rattle.sqlite.specs.State.{HasCleanDisk}
use Rattle.sqlite.specs.Held.{Held, state}
use Rattle.store_rows.specs.Holding.{Keeps, KeepsEither}
use Rattle.store_tables.specs.Kept.{has_failed, connection_of, KeepsOutdated as KeepsMark}
use Rattle.store_content.specs.declared.index.Index.{Index}
use Rattle.store_content.specs.Content.{IsContent, durable_in}
use Rattle.durable_keeper.specs.Keeping.{changed}
use Rattle.store_content.specs.Known.{Knows}
use Rattle.store_content.specs.Plan.{after_change}
use Rattle.site_store.specs.declared.sql.SqlKeeper.{SqlKeeper}
use Rattle.site_store.specs.SiteText.{site_text}

-- a content is that of the site which this text names, of a layout, in the second version
pub record IsOf (layout : LayoutState) (site : List ℕ) (it : Stored) : Type 0 where
  pub second : it.version ≡ Second
  pub its_site : it.site ≡ site
  pub its_layout : it.layout ≡ line_of layout
  pub content : IsContent it

-- a content of a site has one of two durable parts
pub record IsOneOf (layout : LayoutState) (site : List ℕ) (d e : DurableState) (it : Stored) : Type 0 where
  pub own : IsOf layout site it
  pub part : (durable_in it ≡ d) ⊎ (durable_in it ≡ e)

module _ {S : Type 0} (g : Ghosts S) where
  -- a connection keeps a content of a site, which an index knows
  pub record Stores (layout : LayoutState) (site : List ℕ) (c : Held S) (index : Index) (it : Stored) : Type 0 where
    pub own : IsOf layout site it
    pub kept : Keeps g c it
    pub known : Knows index it

  -- a change was made of a content of a site: the content after it is kept, which stands for the durable part after it
  pub record Changes (layout : LayoutState) (site : List ℕ) (change : ChangeState) (it : Stored) (c : Held S) (index : Index) : Type 0 where
    pub stores : Stores layout site c index (after_change change it)
    pub part : durable_in (after_change change it) ≡ changed change (durable_in it)

  -- a crash leaves that content, or the one after the change
  pub record ChangesEither (layout : LayoutState) (site : List ℕ) (change : ChangeState) (it : Stored) (c : Held S) : Type 0 where
    pub second : Stored
    pub left : KeepsEither g c it second
    pub which : (second ≡ it) ⊎ (second ≡ after_change change it)
    pub is_first : IsOneOf layout site (durable_in it) (changed change (durable_in it)) it
    pub is_second : IsOneOf layout site (durable_in it) (changed change (durable_in it)) second

module _ {S : Type 0} {g : Ghosts S} where
  abbrev pub layout_of : SqlKeeper S g → LayoutState
  layout_of k = k.layout

  abbrev pub site_of : SqlKeeper S g → ℕ
  site_of k = k.site

  -- the name of its site's group, if that has one
  abbrev pub group_of : SqlKeeper S g → Option (List ℕ)
  group_of k = option_map string_bytes k.group

  -- what its store's row for the site says
  abbrev pub row_of : SqlKeeper S g → List ℕ
  row_of k = site_text k.site (group_of k)

  -- the connection below
  abbrev pub below : SqlKeeper S g → Held S
  below k = connection_of k.tables

  -- the device has given back what was written so far
  abbrev pub is_honest : SqlKeeper S g → Type 0
  is_honest k = HasCleanDisk (state g (below k))

  abbrev pub faults_of : SqlKeeper S g → ℕ
  faults_of k = if has_failed k.tables then 1 else 0

  -- it keeps a content of its site
  abbrev pub KeepsContent : SqlKeeper S g → Stored → Type 0
  KeepsContent k it = Stores g k.layout (row_of k) (below k) k.index it

  -- a crash leaves a content, or that after a change
  abbrev pub KeepsContentOr : SqlKeeper S g → ChangeState → Stored → Type 0
  KeepsContentOr k change it = KeepsEither g (below k) it (after_change change it)

  -- while its device is honest, it keeps a content with this durable part
  abbrev pub KeepsPart : SqlKeeper S g → DurableState → Type 0
  KeepsPart k d = is_honest k → (it : Stored) × (KeepsContent k it × (durable_in it ≡ d))

  -- while its device is honest, a crash leaves one of two contents, each with one of two durable parts
  abbrev pub KeepsEitherPart : SqlKeeper S g → DurableState → DurableState → Type 0
  KeepsEitherPart k d e = is_honest k → (a : Stored) × ((b : Stored) × (KeepsEither g (below k) a b × (IsOneOf k.layout (row_of k) d e a × IsOneOf k.layout (row_of k) d e b)))

  -- whatever a crash leaves is marked as older than what others have seen of its site
  abbrev pub KeepsOutdated : SqlKeeper S g → Type 0
  KeepsOutdated k = KeepsMark k.tables
