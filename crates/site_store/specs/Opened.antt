-- What the opening of a store comes to.
use Rattle.std.specs.Prelude.{◌≡◌, ◌≢◌, ◌⊎◌, ℕ, List, Option, Result, Ok, Err, ⊤}
use Rattle.sqlite_trees.specs.declared.store.Store.{Ghosts}
use Rattle.sqlite.specs.State.{HasCleanDisk, Survives}
use Rattle.sqlite.specs.Held.{Held, state}
use Rattle.merge_core.specs.Layout.{LayoutState}
use Rattle.layout_line.specs.declared.Line.{Line}
use Rattle.layout_line.specs.declared.Line.TheVariants as lines
use Rattle.layout_line.specs.Line.{line_of, IsLine}
use Rattle.store_schema.specs.declared.Version.TheVariants.{Second}
use Rattle.store_rows.specs.Rows.{Stored}
use Rattle.store_rows.specs.Changes.{renewed}
use Rattle.store_rows.specs.Holding.{Keeps, KeepsEither, KeepsNothing, KeepsNothingOr}
use Rattle.store_tables.specs.Transacts.{made}
use Rattle.store_rows.specs.Refusals.{HasRefused}
use Rattle.store_content.specs.declared.index.Index.{Index}
use Rattle.store_content.specs.Content.{IsContent, durable_in}
use Rattle.store_content.specs.Known.{Knows}
use Rattle.durable_keeper.specs.Keeping.{nothing_kept}
use Rattle.site_store.specs.declared.error.StoreOpenError.{StoreOpenError}
use Rattle.site_store.specs.declared.error.StoreOpenError.TheVariants.{BadStore, WrongSite, WrongGroup, WrongLayout, StoreFault, Memory}
use Rattle.site_store.specs.declared.sql.SqlKeeper.{SqlKeeper}
use Rattle.site_store.specs.SiteText.{NamesOther, NamesSite, site_text}
use Rattle.site_store.specs.Sql.{Stores, KeepsPart, below, group_of, layout_of, site_of, faults_of, is_honest}

-- a layout line is that of a layout, or of an earlier one that has the site
abbrev pub Fits : LayoutState → ℕ → Stored → Type 0
Fits layout i it = IsLine layout i it.layout lines.Same ⊎ IsLine layout i it.layout lines.Earlier

-- A content is the site's own, in its group or in none: it is one that a site's store has, it names this site and group,
-- and its line is that of the layout or of an earlier one. What a creation, a commit or an opening leaves is such a content.
pub record IsOwn (layout : LayoutState) (i : ℕ) (group : Option (List ℕ)) (it : Stored) : Type 0 where
  pub content : IsContent it
  pub its_site : it.site ≡ site_text i group
  pub its_layout : Fits layout i it

-- a content has the second version and the layout's own line, so that an opening has nothing to write
pub record IsCurrent (layout : LayoutState) (it : Stored) : Type 0 where
  pub second : it.version ≡ Second
  pub its_line : it.layout ≡ line_of layout

-- an opening has to write: the content is the site's own, and has the first version or an earlier layout's line
abbrev pub IsDue : LayoutState → ℕ → Option (List ℕ) → Stored → Type 0
IsDue layout i group it = IsOwn layout i group it × (¬ IsCurrent layout it)

-- why a store is refused: the first of these that is so. When a fault comes, IsFault says.
abbrev pub IsCause : LayoutState → ℕ → Option (List ℕ) → Stored → StoreOpenError → Type 0
IsCause layout i group it BadStore = ¬ IsContent it
IsCause layout i group it WrongSite = IsContent it × NamesOther i it.site
IsCause layout i group it WrongGroup = IsContent it × ((it.site ≢ site_text i group) × NamesSite i it.site)
IsCause layout i group it WrongLayout = IsContent it × ((it.site ≡ site_text i group) × IsLine layout i it.layout lines.Other)
IsCause layout i group it StoreFault = ⊤
IsCause layout i group it Memory = ⊤

-- an empty database is refused by the device alone
abbrev pub IsDeviceCause : StoreOpenError → Type 0
IsDeviceCause BadStore = ⊥
IsDeviceCause WrongSite = ⊥
IsDeviceCause WrongGroup = ⊥
IsDeviceCause WrongLayout = ⊥
IsDeviceCause StoreFault = ⊤
IsDeviceCause Memory = ⊤

-- a content was judged: it is one of this site, with its index and how its line compares; or why not
abbrev pub IsJudged : LayoutState → ℕ → Option (List ℕ) → Stored → Result (Index × Line) StoreOpenError → Type 0
IsJudged layout i group it (Ok x) = IsOwn layout i group it × (Knows x.0 it × IsLine layout i it.layout x.1)
IsJudged layout i group it (Err e) = IsCause layout i group it e × (e ≢ StoreFault)

module _ {S : Type 0} (g : Ghosts S) where
  -- what a connection keeps after a refusal: what it kept, or after a fault perhaps the content that was to come
  abbrev pub IsLeft : LayoutState → Stored → Held S → StoreOpenError → Type 0
  IsLeft layout it c StoreFault = KeepsEither g c it (renewed (line_of layout) it)
  IsLeft layout it c BadStore = Keeps g c it
  IsLeft layout it c WrongSite = Keeps g c it
  IsLeft layout it c WrongGroup = Keeps g c it
  IsLeft layout it c WrongLayout = Keeps g c it
  IsLeft layout it c Memory = Keeps g c it

  -- the same of a database without tables
  abbrev pub IsLeftBlank : LayoutState → ℕ → Option (List ℕ) → Held S → StoreOpenError → Type 0
  IsLeftBlank layout i group c StoreFault = KeepsNothingOr g c (made (site_text i group) (line_of layout))
  IsLeftBlank layout i group c BadStore = KeepsNothing g c
  IsLeftBlank layout i group c WrongSite = KeepsNothing g c
  IsLeftBlank layout i group c WrongGroup = KeepsNothing g c
  IsLeftBlank layout i group c WrongLayout = KeepsNothing g c
  IsLeftBlank layout i group c Memory = KeepsNothing g c

  -- What it keeps after a refusal, where it was not known which of two contents it kept: still one of the two, or what is
  -- left of a store that is known to have the first, or the second.
  abbrev pub IsLeftEither : LayoutState → Stored → Stored → Held S → StoreOpenError → Type 0
  IsLeftEither layout a b c e = ∥ KeepsEither g c a b ⊎ (IsLeft layout a c e ⊎ IsLeft layout b c e) ∥₁

  -- the same where it was not known whether it kept a content or none
  abbrev pub IsLeftOr : LayoutState → ℕ → Option (List ℕ) → Stored → Held S → StoreOpenError → Type 0
  IsLeftOr layout i group it c e = ∥ KeepsNothingOr g c it ⊎ (IsLeftBlank layout i group c e ⊎ IsLeft layout it c e) ∥₁

  -- a store with a content was refused
  pub record IsRefused (layout : LayoutState) (i : ℕ) (group : Option (List ℕ)) (it : Stored) (c : Held S) (e : StoreOpenError) : Type 0 where
    pub cause : HasCleanDisk (state g c) → IsCause layout i group it e
    pub left : IsLeft layout it c e

  -- a database without tables was refused
  pub record IsRefusedBlank (layout : LayoutState) (i : ℕ) (group : Option (List ℕ)) (c : Held S) (e : StoreOpenError) : Type 0 where
    pub cause : HasCleanDisk (state g c) → IsDeviceCause e
    pub left : IsLeftBlank layout i group c e

  -- a store with a content is ready, of this layout now
  pub record IsReady (layout : LayoutState) (i : ℕ) (group : Option (List ℕ)) (it : Stored) (c : Held S) (index : Index) : Type 0 where
    pub fits : HasCleanDisk (state g c) → IsOwn layout i group it
    pub stores : HasCleanDisk (state g c) → Stores g layout (site_text i group) c index (renewed (line_of layout) it)

  -- nothing was committed: what a crash leaves now, it could leave before
  abbrev pub CommitsNothing : Held S → Held S → Type 0
  CommitsNothing old new = Survives (state g old) (state g new) (λ _. ⊥)

  -- the device refused a call, or the connection was shut, or its queries may take only so many steps
  abbrev pub IsRefusal : Held S → Held S → Type 0
  IsRefusal old new = HasRefused (state g old) (state g new)

  -- A fault told by an honest device: a call was refused so; or a content was to be written, and that was refused.
  abbrev pub IsFault : LayoutState → ℕ → Option (List ℕ) → Stored → Held S → (StoreOpenError × Held S) → Type 0
  IsFault layout i group it old x = x.0 ≡ StoreFault → HasCleanDisk (state g x.1) → IsRefusal old x.1 ⊎ IsDue layout i group it

  -- a refusal by an honest device alone, and not for what the store holds
  abbrev pub IsByDevice : (StoreOpenError × Held S) → Type 0
  IsByDevice x = HasCleanDisk (state g x.1) → IsDeviceCause x.0

  -- whatever was judged, nothing was committed before
  abbrev pub IsJudgedFirst : Held S → (StoreOpenError × Held S) → Type 0
  IsJudgedFirst old x = x.0 ≢ StoreFault → x.0 ≢ Memory → CommitsNothing old x.1

  -- the answer to the opening of a connection that keeps a content, and of one without tables
  abbrev pub Readies : LayoutState → ℕ → Option (List ℕ) → Stored → Held S → Result Index StoreOpenError → Type 0
  Readies layout i group it c (Ok index) = IsReady layout i group it c index
  Readies layout i group it c (Err e) = IsRefused layout i group it c e

  abbrev pub ReadiesBlank : LayoutState → ℕ → Option (List ℕ) → Held S → Result Index StoreOpenError → Type 0
  ReadiesBlank layout i group c (Ok index) = HasCleanDisk (state g c) → Stores g layout (site_text i group) c index (made (site_text i group) (line_of layout))
  ReadiesBlank layout i group c (Err e) = IsRefusedBlank layout i group c e

module _ {S : Type 0} {g : Ghosts S} where
  -- a keeper is one of a site of a layout, of a group or of none, whose device has refused no call
  pub record IsKeeperOf (layout : LayoutState) (i : ℕ) (group : Option (List ℕ)) (k : SqlKeeper S g) : Type 0 where
    pub its_layout : layout_of k ≡ layout
    pub its_site : site_of k ≡ i
    pub its_group : group_of k ≡ group
    pub sound : faults_of k ≡ 0

  -- the connection after an opening
  abbrev pub left_by : Result (SqlKeeper S g) (StoreOpenError × Held S) → Held S
  left_by (Ok k) = below k
  left_by (Err x) = x.1

  -- The answer to an opening. Where the connection kept a content: a keeper of its durable part, the content being one
  -- of this site; or the connection again, with what it kept.
  abbrev pub Opens : LayoutState → ℕ → Option (List ℕ) → Stored → Result (SqlKeeper S g) (StoreOpenError × Held S) → Type 0
  Opens layout i group it (Ok k) = (is_honest k → IsOwn layout i group it) × KeepsPart k (durable_in it)
  Opens layout i group it (Err x) = IsRefused g layout i group it x.1 x.0

  -- where it kept a database without tables: a keeper of nothing, or the connection again
  abbrev pub OpensBlank : LayoutState → ℕ → Option (List ℕ) → Result (SqlKeeper S g) (StoreOpenError × Held S) → Type 0
  OpensBlank layout i group (Ok k) = KeepsPart k nothing_kept
  OpensBlank layout i group (Err x) = IsRefusedBlank g layout i group x.1 x.0

  -- where it was not known which of two contents a connection keeps, a keeper of one of them
  abbrev pub Settles : Stored → Stored → SqlKeeper S g → Type 0
  Settles a b k = ∥ KeepsPart k (durable_in a) ⊎ KeepsPart k (durable_in b) ∥₁

  -- where it was not known whether it keeps a content or none, a keeper of nothing or of this content
  abbrev pub SettlesOr : Stored → SqlKeeper S g → Type 0
  SettlesOr it k = KeepsPart k nothing_kept ⊎ KeepsPart k (durable_in it)
