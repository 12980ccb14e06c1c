-- What the opening of a store for a service comes to (this project's own).
use Rattle.std.specs.Prelude.{◌≡◌, ◌≢◌, ◌⊎◌, ◌↔◌, ℕ, Bool, true, false, List, Option, Result, Ok, Err, ⊤, IsTrue, IfOk, IfErr}
use Rattle.sqlite_trees.specs.declared.store.Store.{Ghosts}
use Rattle.sqlite_schema.specs.declared.schema.Schema.{Schema}
use Rattle.sqlite.specs.Effect.{Database, IsDatabase}
use Rattle.sqlite.specs.State.{State, HasCleanDisk}
use Rattle.sqlite.specs.Held.{Held, state}
use Rattle.merge_core.specs.Layout.{LayoutState}
use Rattle.layout_line.specs.declared.Line.TheVariants as lines
use Rattle.layout_line.specs.Line.{line_of, IsLine}
use Rattle.store_schema.specs.declared.Version.{Version}
use Rattle.store_schema.specs.Tables.{no_schema}
use Rattle.own_schema.specs.declared.Origin.{Origin}
use Rattle.own_schema.specs.declared.Origin.TheVariants.{Nothing, Store, Foreign}
use Rattle.own_schema.specs.Made.{IsForeign, IsMadeHere}
use Rattle.store_rows.specs.Rows.{Stored}
use Rattle.store_rows.specs.Changes.{renewed}
use Rattle.store_rows.specs.Holding.{Keeps, KeepsBeside, KeepsEither, KeepsNothing, KeepsNothingOr, Leaves}
use Rattle.store_tables.specs.Marking.{HasOutdatedMark, TellsOutdated}
use Rattle.store_tables.specs.declared.tables.Tables.{Tables}
use Rattle.store_tables.specs.Kept.{connection_of, has_failed, IsBlank}
use Rattle.store_tables.specs.Transacts.{made}
use Rattle.store_content.specs.declared.index.Index.{Index}
use Rattle.store_content.specs.Content.{IsContent, durable_in}
use Rattle.durable_keeper.specs.Keeping.{nothing_kept}
use Rattle.site_store.specs.declared.error.StoreOpenError.{StoreOpenError}
use Rattle.site_store.specs.declared.error.ServedError.{ServedError}
use Rattle.site_store.specs.declared.error.ServedError.TheVariants.{NotAStore, NoStore, Exists, BadStore, WrongSite, WrongGroup, Outdated, WrongLayout, StoreFault, Memory}
use Rattle.site_store.specs.Errors.{served_error}
use Rattle.site_store.specs.declared.served.Permission.{Permission}
use Rattle.site_store.specs.declared.sql.SqlKeeper.{SqlKeeper}
use Rattle.site_store.specs.SiteText.{NamesOther, NamesSite, site_text}
use Rattle.site_store.specs.Sql.{KeepsPart, Stores, below, is_honest}
use Rattle.site_store.specs.Opened.{CommitsNothing, IsCurrent, IsOwn, IsReady, IsDue, IsRefusal}

-- ---- the schema, before any row is read

-- a schema is that of a store of some version, as this program makes it
abbrev pub IsMade : Schema → Type 0
IsMade schema = (v : Version) × IsMadeHere v schema

-- what an opening may go on from: nothing where a store is to be made, and else a store
abbrev pub IsPermitted : Permission → Schema → Type 0
IsPermitted p schema = ((p.create ≡ true) × (schema ≡ no_schema)) ⊎ ((p.create ≡ false) × IsMade schema)

-- why a database is refused for its schema alone; the device may refuse it whatever it is
abbrev pub IsDenied : Permission → Schema → ServedError → Type 0
IsDenied p schema NotAStore = IsForeign schema
IsDenied p schema NoStore = (p.create ≡ false) × (schema ≡ no_schema)
IsDenied p schema Exists = (p.create ≡ true) × IsMade schema
IsDenied p schema BadStore = ⊥
IsDenied p schema WrongSite = ⊥
IsDenied p schema WrongGroup = ⊥
IsDenied p schema Outdated = ⊥
IsDenied p schema WrongLayout = ⊥
IsDenied p schema StoreFault = ⊤
IsDenied p schema Memory = ⊤

-- which schema each refusal tells of: what a store holds is judged only where one is there and none was to be made
abbrev pub IsSchemaCause : Permission → Schema → ServedError → Type 0
IsSchemaCause p schema NotAStore = IsForeign schema
IsSchemaCause p schema NoStore = (p.create ≡ false) × (schema ≡ no_schema)
IsSchemaCause p schema Exists = (p.create ≡ true) × IsMade schema
IsSchemaCause p schema BadStore = (p.create ≡ false) × IsMade schema
IsSchemaCause p schema WrongSite = (p.create ≡ false) × IsMade schema
IsSchemaCause p schema WrongGroup = (p.create ≡ false) × IsMade schema
IsSchemaCause p schema Outdated = (p.create ≡ false) × IsMade schema
IsSchemaCause p schema WrongLayout = (p.create ≡ false) × IsMade schema
IsSchemaCause p schema StoreFault = ⊤
IsSchemaCause p schema Memory = ⊤

-- how a schema and where its tables come from belong together
pub record IsOriginOf (schema : Schema) (origin : Origin) : Type 0 where
  pub nothing : (origin ≡ Nothing) ↔ (schema ≡ no_schema)
  pub store : (v : Version) → ((origin ≡ Store v) ↔ IsMadeHere v schema)
  pub foreign : (origin ≡ Foreign) ↔ IsForeign schema

-- a connection is open, and sees its last commit
pub record IsSettled (s : State) : Type 0 where
  pub is_open : IsTrue s.is_open
  pub sound : IsDatabase s.now
  pub committed : s.now ≡ s.committed

-- ---- what a store holds

-- a content is the site's own, and unless its store may grow its line is the layout's own
pub record IsTaken (grow : Bool) (layout : LayoutState) (i : ℕ) (group : Option (List ℕ)) (it : Stored) : Type 0 where
  pub own : IsOwn layout i group it
  pub its_line : grow ≡ false → it.layout ≡ line_of layout

-- a line that is told as another layout's: where a store may not grow, an earlier layout's is one
abbrev pub IsOtherLine : Bool → LayoutState → ℕ → List ℕ → Type 0
IsOtherLine grow layout i line = IsLine layout i line lines.Other ⊎ ((grow ≡ false) × IsLine layout i line lines.Earlier)

-- where a store may not grow, its line is not an earlier layout's
abbrev pub IsNotEarlier : Bool → LayoutState → ℕ → List ℕ → Type 0
IsNotEarlier grow layout i line = grow ≡ false → IsLine layout i line lines.Same ⊎ IsLine layout i line lines.Other

-- the device, or the want of memory, refuses an opening whatever the store holds
abbrev pub IsDevice : ServedError → Type 0
IsDevice e = (e ≡ StoreFault) ⊎ (e ≡ Memory)

-- a refusal that any opening has
abbrev pub IsOpenRefusal : ServedError → Type 0
IsOpenRefusal e = (o : StoreOpenError) × (e ≡ served_error o)

-- a refusal for what a store holds, or by the device
abbrev pub IsHeldRefusal : ServedError → Type 0
IsHeldRefusal e = IsOpenRefusal e ⊎ (e ≡ Outdated)

-- a content that is taken is refused by the device, or for its mark
abbrev pub IsDeviceOrMark : ServedError → Type 0
IsDeviceOrMark e = IsDevice e ⊎ (e ≡ Outdated)

-- why a store is refused for what it holds: the first of these that is so; `Outdated` for its mark too, which is no part of
-- a content
abbrev pub IsContentCause : Bool → LayoutState → ℕ → Option (List ℕ) → Stored → ServedError → Type 0
IsContentCause grow layout i group it NotAStore = ⊥
IsContentCause grow layout i group it NoStore = ⊥
IsContentCause grow layout i group it Exists = ⊥
IsContentCause grow layout i group it BadStore = ¬ IsContent it
IsContentCause grow layout i group it WrongSite = IsContent it × NamesOther i it.site
IsContentCause grow layout i group it WrongGroup = IsContent it × ((it.site ≢ site_text i group) × NamesSite i it.site)
IsContentCause grow layout i group it Outdated = IsContent it × (it.site ≡ site_text i group)
IsContentCause grow layout i group it WrongLayout = IsContent it × ((it.site ≡ site_text i group) × IsOtherLine grow layout i it.layout)
IsContentCause grow layout i group it StoreFault = ⊤
IsContentCause grow layout i group it Memory = ⊤

-- why an opening of a store is refused: it was to be made, and is there; or for what it holds
abbrev pub IsStoreCause : Permission → LayoutState → ℕ → Option (List ℕ) → Stored → ServedError → Type 0
IsStoreCause p layout i group it e = ((p.create ≡ true) × ((e ≡ Exists) ⊎ IsDevice e)) ⊎ ((p.create ≡ false) × IsContentCause p.grow layout i group it e)

-- why an opening of an empty database is refused: nothing was to be made
abbrev pub IsNothingCause : Permission → ServedError → Type 0
IsNothingCause p e = ((p.create ≡ false) × (e ≡ NoStore)) ⊎ IsDevice e

-- what an opening tells of a store that was there: none was to be made, none was made, and the content is the site's own
pub record IsFoundStore (p : Permission) (layout : LayoutState) (i : ℕ) (group : Option (List ℕ)) (it : Stored) (was_made : Bool) : Type 0 where
  pub permitted : p.create ≡ false
  pub told : was_made ≡ false
  pub taken : IsTaken p.grow layout i group it

-- ---- what a connection keeps

module _ {S : Type 0} (g : Ghosts S) where
  -- after a store was refused: what it kept, or after a fault perhaps the content that was to come
  pub record IsLeftOfStore (layout : LayoutState) (it : Stored) (c : Held S) (e : ServedError) : Type 0 where
    pub either : KeepsEither g c it (renewed (line_of layout) it)
    pub still : e ≢ StoreFault → Keeps g c it

  -- after an empty database was refused: nothing, or after a fault perhaps the store that was to come
  pub record IsLeftOfNothing (layout : LayoutState) (i : ℕ) (group : Option (List ℕ)) (c : Held S) (e : ServedError) : Type 0 where
    pub either : KeepsNothingOr g c (made (site_text i group) (line_of layout))
    pub still : e ≢ StoreFault → KeepsNothing g c

  -- after a refusal where it was not known which of two contents it kept: still one of the two, or what is left of a store
  -- that is known to have the first, or the second
  abbrev pub IsLeftOfEither : LayoutState → Stored → Stored → Held S → ServedError → Type 0
  IsLeftOfEither layout a b c e = ∥ KeepsEither g c a b ⊎ (IsLeftOfStore layout a c e ⊎ IsLeftOfStore layout b c e) ∥₁

  -- the same where it was not known whether it kept a content or none
  abbrev pub IsLeftOfDoubt : LayoutState → ℕ → Option (List ℕ) → Stored → Held S → ServedError → Type 0
  IsLeftOfDoubt layout i group it c e = ∥ KeepsNothingOr g c it ⊎ (IsLeftOfNothing layout i group c e ⊎ IsLeftOfStore layout it c e) ∥₁

  -- an opening that was to make no store refused one
  pub record IsUntaken (grow : Bool) (layout : LayoutState) (i : ℕ) (group : Option (List ℕ)) (it : Stored) (c : Held S) (e : ServedError) : Type 0 where
    pub cause : HasCleanDisk (state g c) → IsContentCause grow layout i group it e
    pub left : IsLeftOfStore layout it c e

  -- an opening refused a store
  pub record IsRefusedStore (p : Permission) (layout : LayoutState) (i : ℕ) (group : Option (List ℕ)) (it : Stored) (c : Held S) (e : ServedError) : Type 0 where
    pub cause : HasCleanDisk (state g c) → IsStoreCause p layout i group it e
    pub left : IsLeftOfStore layout it c e

  -- an opening refused an empty database
  pub record IsRefusedNothing (p : Permission) (layout : LayoutState) (i : ℕ) (group : Option (List ℕ)) (c : Held S) (e : ServedError) : Type 0 where
    pub cause : HasCleanDisk (state g c) → IsNothingCause p e
    pub left : IsLeftOfNothing layout i group c e

  -- a store with a content is ready, and its line was the layout's own unless it may grow
  pub record IsReadyAs (grow : Bool) (layout : LayoutState) (i : ℕ) (group : Option (List ℕ)) (it : Stored) (c : Held S) (index : Index) : Type 0 where
    pub ready : IsReady g layout i group it c index
    pub its_line : HasCleanDisk (state g c) → grow ≡ false → it.layout ≡ line_of layout

  -- the answer to an opening that is to make no store, of a connection that keeps a content
  abbrev pub Finds : Bool → LayoutState → ℕ → Option (List ℕ) → Stored → Held S → Result Index ServedError → Type 0
  Finds grow layout i group it c (Ok index) = IsReadyAs grow layout i group it c index
  Finds grow layout i group it c (Err e) = IsUntaken grow layout i group it c e

  -- a fault told by an honest device: a call was refused; or a content was to be written, and that was refused
  abbrev pub IsServedFault : LayoutState → ℕ → Option (List ℕ) → Stored → Held S → (ServedError × Held S) → Type 0
  IsServedFault layout i group it old x = x.0 ≡ StoreFault → HasCleanDisk (state g x.1) → IsRefusal g old x.1 ⊎ IsDue layout i group it

  -- a refusal by an honest device, for want of memory, or for the mark of an outdated store
  abbrev pub IsServedByDevice : (ServedError × Held S) → Type 0
  IsServedByDevice x = HasCleanDisk (state g x.1) → IsDeviceOrMark x.0

  -- whatever a crash leaves has no row of the name of that mark
  abbrev pub KeepsNoMark : Held S → Type 0
  KeepsNoMark c = Leaves g c (TellsOutdated false)

  -- whatever a crash leaves has the mark
  abbrev pub KeepsMark : Held S → Type 0
  KeepsMark c = Leaves g c HasOutdatedMark

  -- whatever was judged, nothing was committed before
  abbrev pub IsServedJudgedFirst : Held S → (ServedError × Held S) → Type 0
  IsServedJudgedFirst old x = x.0 ≢ StoreFault → x.0 ≢ Memory → CommitsNothing g old x.1

module _ {S : Type 0} {g : Ghosts S} where
  -- the connection after an opening
  abbrev pub left_served : Result (SqlKeeper S g × Bool) (ServedError × Held S) → Held S
  left_served (Ok x) = below x.0
  left_served (Err x) = x.1

  -- The answer by the schema alone: a store was made exactly where that was permitted and nothing was there, and opened
  -- where it was not to be made and was there; or the refusal that this schema has.
  abbrev pub AnswersBySchema : Permission → Schema → Result (SqlKeeper S g × Bool) (ServedError × Held S) → Type 0
  AnswersBySchema p schema (Ok x) = IsPermitted p schema × (x.1 ≡ p.create)
  AnswersBySchema p schema (Err x) = IsSchemaCause p schema x.0

  -- where the connection kept a content: a keeper of its durable part, or the connection again with what it kept
  abbrev pub ServesStore : Permission → LayoutState → ℕ → Option (List ℕ) → Stored → Result (SqlKeeper S g × Bool) (ServedError × Held S) → Type 0
  ServesStore p layout i group it (Ok x) = (is_honest x.0 → IsFoundStore p layout i group it x.1) × KeepsPart x.0 (durable_in it)
  ServesStore p layout i group it (Err x) = IsRefusedStore g p layout i group it x.1 x.0

  -- where it kept an empty database: a keeper of nothing, which was to be made, or the connection again
  abbrev pub ServesNothing : Permission → LayoutState → ℕ → Option (List ℕ) → Result (SqlKeeper S g × Bool) (ServedError × Held S) → Type 0
  ServesNothing p layout i group (Ok x) = (is_honest x.0 → (p.create ≡ true) × (x.1 ≡ true)) × KeepsPart x.0 nothing_kept
  ServesNothing p layout i group (Err x) = IsRefusedNothing g p layout i group x.1 x.0

  -- what an opening of tables comes to in which this content was found, if an honest device kept that
  pub record FindsContent (grow : Bool) (layout : LayoutState) (i : ℕ) (group : Option (List ℕ)) (content : Stored) (old new : Tables S g) (r : Result Index ServedError) : Type 0 where
    pub ready : (it : Stored) → Keeps g (connection_of old) it → (HasCleanDisk (state g (connection_of old)) → content ≡ it) → Finds g grow layout i group it (connection_of new) r
    pub beside : (it : Stored) → (others : Database) → Keeps g (connection_of old) it → (HasCleanDisk (state g (connection_of old)) → content ≡ it)
        → KeepsBeside g (connection_of old) others → KeepsBeside g (connection_of new) others
    pub honest : HasCleanDisk (state g (connection_of new)) → HasCleanDisk (state g (connection_of old))

  -- what an opening of tables that is to make no store comes to, by what their connection kept
  pub record FindsStore (grow : Bool) (layout : LayoutState) (i : ℕ) (group : Option (List ℕ)) (old new : Tables S g) (r : Result Index ServedError) : Type 0 where
    pub ready : (it : Stored) → Keeps g (connection_of old) it → Finds g grow layout i group it (connection_of new) r
    pub settles : (a b : Stored) → KeepsEither g (connection_of old) a b
        → IfOk r (λ index. ∥ IsReady g layout i group a (connection_of new) index ⊎ IsReady g layout i group b (connection_of new) index ∥₁)
    pub settles_or : (it : Stored) → KeepsNothingOr g (connection_of old) it → IfOk r (IsReady g layout i group it (connection_of new))
    pub own : (a b : Stored) → IsTaken grow layout i group a → IsTaken grow layout i group b → KeepsEither g (connection_of old) a b
        → IfErr r (λ e. HasCleanDisk (state g (connection_of new)) → IsDeviceOrMark e)
    pub left : (a b : Stored) → KeepsEither g (connection_of old) a b → IfErr r (IsLeftOfEither g layout a b (connection_of new))
    pub left_or : (it : Stored) → KeepsNothingOr g (connection_of old) it → IfErr r (IsLeftOfDoubt g layout i group it (connection_of new))
    pub kind : IfErr r IsHeldRefusal
    pub marked : (it : Stored) → Keeps g (connection_of old) it → KeepsMark g (connection_of old) → IfOk r (λ _. ¬ HasCleanDisk (state g (connection_of new)))
    pub unmarked : (it : Stored) → Keeps g (connection_of old) it → KeepsNoMark g (connection_of old) → IfErr r (λ e. HasCleanDisk (state g (connection_of new)) → e ≢ Outdated)
    pub beside : (a b : Stored) → (others : Database) → KeepsEither g (connection_of old) a b → KeepsBeside g (connection_of old) others → KeepsBeside g (connection_of new) others
    pub fault : has_failed old ≡ false → (it : Stored) → Keeps g (connection_of old) it
        → IfErr r (λ e. e ≡ StoreFault → HasCleanDisk (state g (connection_of new)) → IsRefusal g (connection_of old) (connection_of new) ⊎ IsDue layout i group it)
    pub current : (it : Stored) → IsCurrent layout it → Keeps g (connection_of old) it → HasCleanDisk (state g (connection_of new))
        → CommitsNothing g (connection_of old) (connection_of new)

  -- what the making of a store in tables comes to
  pub record MakesStore (layout : LayoutState) (i : ℕ) (group : Option (List ℕ)) (old new : Tables S g) (r : Result Index ServedError) : Type 0 where
    pub ready : IsBlank old → IfOk r (λ index. HasCleanDisk (state g (connection_of new))
        → Stores g layout (site_text i group) (connection_of new) index (made (site_text i group) (line_of layout)))
    pub device : KeepsNothing g (connection_of old) → IfErr r (λ e. HasCleanDisk (state g (connection_of new)) → IsDevice e)
    pub left : KeepsNothing g (connection_of old) → IfErr r (IsLeftOfNothing g layout i group (connection_of new))
