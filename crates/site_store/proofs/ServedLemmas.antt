-- What the opening of a store for a service comes to: by the schema, by what was kept, and by the device.
use Rattle.std.proofs.Common.{◌≡◌, ◌≢◌, ◌⊎◌, ◌↔◌, ◌≤◌, ℕ, Bool, true, false, inl, inr, refl, sym, ap, subst, List, ◌∙◌, Option, Some, None, Result, Ok, Err, IsTrue, IfOk, IfErr, IsSome, MatchResult, OnOk, arith}
use Rattle.std.proofs.lemmas.Bool.{both_ways, cases_Bool}
use Rattle.std.proofs.lemmas.Option.{none-some, same_Some}
use Rattle.std.proofs.Math.Logic.{∥∥₁_elim, ∥∥₁_map}
use Rattle.sqlite_trees.specs.Tree.{Trees}
use Rattle.sqlite_trees.specs.declared.store.Store.{Ghosts}
use Rattle.sqlite_schema.specs.declared.schema.Schema.{Schema}
use Rattle.sqlite.specs.Effect.{Database, IsDatabase}
use Rattle.sqlite.specs.State.{State, HasCleanDisk, Survives}
use Rattle.sqlite.specs.Held.{Held, state}
use Rattle.merge_core.specs.Layout.{LayoutState}
use Rattle.layout_line.specs.declared.Line.TheVariants as lines
use Rattle.layout_line.specs.Line.{IsLine, line_of}
use Rattle.store_schema.specs.declared.Version.{Version}
use Rattle.store_schema.specs.Tables.{AreBehind, IsSchemaOf, no_schema, others_in}
use Rattle.own_schema.specs.declared.Origin.{Origin}
use Rattle.own_schema.specs.declared.Origin.TheVariants as origins
use Rattle.own_schema.specs.Made.{IsMadeHere}
use Rattle.own_schema.proofs.OriginLemmas.{not_nothing}
use Rattle.store_rows.specs.Rows.{Stored}
use Rattle.store_rows.specs.Changes.{renewed}
use Rattle.store_rows.specs.Holding.{Holds, HoldsNothing, Keeps, KeepsEither, KeepsNothing, Leaves}
use Rattle.store_rows.specs.Refusals.{HasRefused}
use Rattle.store_tables.specs.Transacts.{made}
use Rattle.store_tables.proofs.KeepLemmas.{bare, leaves_first, leaves_still, store_of}
use Rattle.store_tables.proofs.RefusalLemmas.{refused_since, schema_once}
use Rattle.store_content.specs.declared.index.Index.{Index}
use Rattle.sqlite.specs.declared.error.Error.{Error as SqlError}
use Rattle.sqlite.specs.declared.error.Error.TheVariants.{SqliteFailure}
use Rattle.sqlite.specs.declared.error.ErrorCode.TheVariants.{OutOfMemory}
use Rattle.store_tables.specs.declared.error.TableError.{TableError}
use Rattle.store_tables.specs.declared.error.TableError.TheVariants as tables
use Rattle.site_store.specs.declared.error.StoreOpenError.{StoreOpenError}
use Rattle.site_store.specs.declared.error.StoreOpenError.TheVariants as opening
use Rattle.site_store.specs.declared.error.ServedError.{ServedError}
use Rattle.site_store.specs.declared.error.ServedError.TheVariants as served
use Rattle.site_store.specs.declared.served.Permission.{Permission}
use Rattle.site_store.specs.Errors.{marked_error, open_error, served_error}
use Rattle.site_store.specs.SiteText.{site_text}
use Rattle.site_store.specs.Opened.{Fits, IsCause, IsDeviceCause, IsLeft, IsLeftBlank, IsOwn, IsReady}
use Rattle.site_store.proofs.OpenLemmas.{if_honest}
use Rattle.site_store.proofs.OwnLemmas.{same_line, table_cause}
use Rattle.site_store.specs.Served.{Finds, IsContentCause, IsDenied, IsDevice, IsDeviceOrMark, IsHeldRefusal, IsLeftOfDoubt, IsLeftOfEither, IsLeftOfNothing, IsLeftOfStore, IsMade, IsNotEarlier, IsNothingCause, IsOriginOf, IsOtherLine, IsPermitted, IsReadyAs, IsRefusedNothing, IsRefusedStore, IsSchemaCause, IsSettled, IsStoreCause, IsTaken}

-- ---- the schema

-- a store's schema is one that this program makes
pub made_here : (v : Version) (schema : Schema) → IsSchemaOf v schema → AreBehind (others_in schema) → IsMadeHere v schema
made_here v schema is apart = (is, apart)

module _ (p : Permission) (schema : Schema) where
  -- where a store is there, none was to be made; where nothing is, one was; and the other way round
  pub permitted_made : IsPermitted p schema → ∥ IsMade schema ∥₁ → p.create ≡ false
  permitted_made (inl (on, none)) some = absurd (∥∥₁_elim some (λ a b. absurd a) (λ m. not_nothing m.0 schema m.1 none))
  permitted_made (inr (off, m)) some = off

  pub permitted_none : IsPermitted p schema → schema ≡ no_schema → p.create ≡ true
  permitted_none (inl (on, same)) none = on
  permitted_none (inr (off, m)) none = absurd (not_nothing m.0 schema m.1 none)

  pub none_there : p.create ≡ true → IsPermitted p schema → schema ≡ no_schema
  none_there on (inl (_, none)) = none
  none_there on (inr (off, m)) = absurd (both_ways _ off on)

  pub store_there : p.create ≡ false → IsPermitted p schema → IsMade schema
  store_there off (inl (on, none)) = absurd (both_ways _ off on)
  store_there off (inr (_, m)) = m

-- how a permission fits an origin
module _ (p : Permission) (schema : Schema) (origin : Origin) (is : IsOriginOf schema origin) where
  pub foreign_denied : origin ≡ origins.Foreign → IsDenied p schema served.NotAStore
  foreign_denied same = is.foreign.0 same

  pub nothing_permitted : origin ≡ origins.Nothing → p.create ≡ true → IsPermitted p schema
  nothing_permitted same on = inl (on, is.nothing.0 same)

  pub nothing_denied : origin ≡ origins.Nothing → p.create ≡ false → IsDenied p schema served.NoStore
  nothing_denied same off = (off, is.nothing.0 same)

  pub store_permitted : (v : Version) → origin ≡ origins.Store v → p.create ≡ false → IsPermitted p schema
  store_permitted v same off = inr (off, (v, (is.store v).0 same))

  pub store_denied : (v : Version) → origin ≡ origins.Store v → p.create ≡ true → IsDenied p schema served.Exists
  store_denied v same on = (on, (v, (is.store v).0 same))

-- ---- the device

pub device_content : (grow : Bool) (layout : LayoutState) (i : ℕ) (group : Option (List ℕ)) (it : Stored) (e : ServedError) → IsDevice e → IsContentCause grow layout i group it e
device_content grow layout i group it e (inl is) = subst (IsContentCause grow layout i group it) (sym is) tt
device_content grow layout i group it e (inr is) = subst (IsContentCause grow layout i group it) (sym is) tt

pub device_store : (p : Permission) (layout : LayoutState) (i : ℕ) (group : Option (List ℕ)) (it : Stored) (e : ServedError) → IsDevice e → IsStoreCause p layout i group it e
device_store p layout i group it e device = elim (cases_Bool p.create) [
  | inl on ↦ inl (on, inr device)
  | inr off ↦ inr (off, device_content p.grow layout i group it e device)
]

pub device_schema : (p : Permission) (schema : Schema) (e : ServedError) → IsDevice e → IsSchemaCause p schema e
device_schema p schema e (inl is) = subst (IsSchemaCause p schema) (sym is) tt
device_schema p schema e (inr is) = subst (IsSchemaCause p schema) (sym is) tt

-- what an opening refuses for the device alone, one for a service does too
pub device_of : (o : StoreOpenError) → IsDeviceCause o → IsDevice (served_error o)
device_of opening.BadStore cause = absurd cause
device_of opening.WrongSite cause = absurd cause
device_of opening.WrongGroup cause = absurd cause
device_of opening.WrongLayout cause = absurd cause
device_of opening.StoreFault cause = inl refl
device_of opening.Memory cause = inr refl

pub device_two : (e : ServedError) → IsDevice e → e ≢ served.StoreFault → e ≢ served.Memory → ⊥
device_two e (inl is) fault memory = fault is
device_two e (inr is) fault memory = memory is

pub memory_is_none : served.Memory ≡ served.StoreFault → ⊥
memory_is_none is = absurd (cc)

-- a fault or a want of memory is that of the opening below
pub fault_below : (o : StoreOpenError) → served_error o ≡ served.StoreFault → o ≡ opening.StoreFault
fault_below opening.BadStore is = absurd (cc)
fault_below opening.WrongSite is = absurd (cc)
fault_below opening.WrongGroup is = absurd (cc)
fault_below opening.WrongLayout is = absurd (cc)
fault_below opening.StoreFault is = refl
fault_below opening.Memory is = absurd (cc)

-- ---- refusals by the schema

module _ (p : Permission) (schema : Schema) where
  pub denied_schema : (e : ServedError) → IsDenied p schema e → IsSchemaCause p schema e
  denied_schema served.NotAStore denied = denied
  denied_schema served.NoStore denied = denied
  denied_schema served.Exists denied = denied
  denied_schema served.BadStore denied = absurd denied
  denied_schema served.WrongSite denied = absurd denied
  denied_schema served.WrongGroup denied = absurd denied
  denied_schema served.Outdated denied = absurd denied
  denied_schema served.WrongLayout denied = absurd denied
  denied_schema served.StoreFault denied = tt
  denied_schema served.Memory denied = tt

  -- a store that was there is refused since one was to be made, or by the device
  pub denied_made : (e : ServedError) → IsDenied p schema e → (e ≢ served.StoreFault → e ≢ served.Memory → ∥ IsMade schema ∥₁) → ((p.create ≡ true) × (e ≡ served.Exists)) ⊎ IsDevice e
  denied_made served.NotAStore denied some = absurd (∥∥₁_elim (some (λ is. absurd (cc)) (λ is. absurd (cc))) (λ a b. absurd a) (λ m. denied.elsewhere m.0 m.1))
  denied_made served.NoStore denied some = absurd (∥∥₁_elim (some (λ is. absurd (cc)) (λ is. absurd (cc))) (λ a b. absurd a) (λ m. not_nothing m.0 schema m.1 denied.1))
  denied_made served.Exists denied some = inl (denied.0, refl)
  denied_made served.BadStore denied some = absurd denied
  denied_made served.WrongSite denied some = absurd denied
  denied_made served.WrongGroup denied some = absurd denied
  denied_made served.Outdated denied some = absurd denied
  denied_made served.WrongLayout denied some = absurd denied
  denied_made served.StoreFault denied some = inr (inl refl)
  denied_made served.Memory denied some = inr (inr refl)

  -- and an empty database since none was
  pub denied_none : (e : ServedError) → IsDenied p schema e → (e ≢ served.StoreFault → e ≢ served.Memory → schema ≡ no_schema) → IsNothingCause p e
  denied_none served.NotAStore denied none = absurd (denied.some (none (λ is. absurd (cc)) (λ is. absurd (cc))))
  denied_none served.NoStore denied none = inl (denied.0, refl)
  denied_none served.Exists denied none = absurd (not_nothing denied.1.0 schema denied.1.1 (none (λ is. absurd (cc)) (λ is. absurd (cc))))
  denied_none served.BadStore denied none = absurd denied
  denied_none served.WrongSite denied none = absurd denied
  denied_none served.WrongGroup denied none = absurd denied
  denied_none served.Outdated denied none = absurd denied
  denied_none served.WrongLayout denied none = absurd denied
  denied_none served.StoreFault denied none = inr (inl refl)
  denied_none served.Memory denied none = inr (inr refl)

  -- what is judged of a content is told of a schema that is a store's
  opened_schema : (o : StoreOpenError) → (p.create ≡ false) × IsMade schema → IsSchemaCause p schema (served_error o)
  opened_schema opening.BadStore there = there
  opened_schema opening.WrongSite there = there
  opened_schema opening.WrongGroup there = there
  opened_schema opening.WrongLayout there = there
  opened_schema opening.StoreFault there = tt
  opened_schema opening.Memory there = tt

  pub judged_schema : (e : ServedError) → IsHeldRefusal e → p.create ≡ false → IsMade schema → IsSchemaCause p schema e
  judged_schema e (inl (o, is)) off m = subst (IsSchemaCause p schema) (sym is) (opened_schema o (off, m))
  judged_schema e (inr is) off m = subst (IsSchemaCause p schema) (sym is) (off, m)

pub denied_store : (p : Permission) (schema : Schema) (layout : LayoutState) (i : ℕ) (group : Option (List ℕ)) (it : Stored) (e : ServedError) → ((p.create ≡ true) × (e ≡ served.Exists)) ⊎ IsDevice e
    → IsStoreCause p layout i group it e
denied_store p schema layout i group it e (inl (on, is)) = inl (on, inl is)
denied_store p schema layout i group it e (inr device) = device_store p layout i group it e device

pub denied_device : (p : Permission) (e : ServedError) → p.create ≡ false → ((p.create ≡ true) × (e ≡ served.Exists)) ⊎ IsDevice e → IsDevice e
denied_device p e off (inl (on, is)) = absurd (both_ways _ off on)
denied_device p e off (inr device) = device

-- ---- refusals by the content

-- a cause of an opening is one of an opening for a service
pub content_cause : (grow : Bool) (layout : LayoutState) (i : ℕ) (group : Option (List ℕ)) (it : Stored) (o : StoreOpenError) → IsCause layout i group it o → IsContentCause grow layout i group it (served_error o)
content_cause grow layout i group it opening.BadStore cause = cause
content_cause grow layout i group it opening.WrongSite cause = cause
content_cause grow layout i group it opening.WrongGroup cause = cause
content_cause grow layout i group it opening.WrongLayout cause = (cause.0, (cause.1.0, inl cause.1.1))
content_cause grow layout i group it opening.StoreFault cause = tt
content_cause grow layout i group it opening.Memory cause = tt

-- an earlier layout's line is another's where the store may not grow
pub earlier_cause : (layout : LayoutState) (i : ℕ) (group : Option (List ℕ)) (it : Stored) → IsOwn layout i group it → IsLine layout i it.layout lines.Earlier → IsContentCause false layout i group it served.WrongLayout
earlier_cause layout i group it own earlier = (own.content, (own.its_site, inr (refl, earlier)))

taken_line : (grow : Bool) (layout : LayoutState) (i : ℕ) (group : Option (List ℕ)) (it : Stored) → layout.sites ≤ 16 → IsTaken grow layout i group it → IsOtherLine grow layout i it.layout → ⊥
taken_line grow layout i group it few taken (inl other) = by taken.own.its_layout
  where
    by : Fits layout i it → ⊥
    by (inl same) = other.0 same
    by (inr earlier) = other.1 earlier.0 earlier.1
taken_line grow layout i group it few taken (inr (off, earlier)) =
    let same : lines.Earlier ≡ lines.Same = same_line layout i it.layout lines.Earlier few (taken.its_line off) earlier in absurd (cc)

-- a content that an opening takes is refused by the device, or for the mark of its store
pub taken_device : (grow : Bool) (layout : LayoutState) (i : ℕ) (group : Option (List ℕ)) (it : Stored) → layout.sites ≤ 16 → (e : ServedError) → IsTaken grow layout i group it → IsContentCause grow layout i group it e → IsDeviceOrMark e
taken_device grow layout i group it few served.NotAStore taken cause = absurd cause
taken_device grow layout i group it few served.NoStore taken cause = absurd cause
taken_device grow layout i group it few served.Exists taken cause = absurd cause
taken_device grow layout i group it few served.BadStore taken cause = absurd (cause taken.own.content)
taken_device grow layout i group it few served.WrongSite taken cause = absurd (cause.1 group taken.own.its_site)
taken_device grow layout i group it few served.WrongGroup taken cause = absurd (cause.1.0 taken.own.its_site)
taken_device grow layout i group it few served.Outdated taken cause = inr refl
taken_device grow layout i group it few served.WrongLayout taken cause = absurd (taken_line grow layout i group it few taken cause.1.1)
taken_device grow layout i group it few served.StoreFault taken cause = inl (inl refl)
taken_device grow layout i group it few served.Memory taken cause = inl (inr refl)

-- a content of the site's own whose line is no earlier layout's has the layout's own
pub own_line : (grow : Bool) (layout : LayoutState) (i : ℕ) (it : Stored) → Fits layout i it → IsNotEarlier grow layout i it.layout → grow ≡ false → it.layout ≡ line_of layout
own_line grow layout i it fits known off = by fits (known off)
  where
    by : Fits layout i it → IsLine layout i it.layout lines.Same ⊎ IsLine layout i it.layout lines.Other → it.layout ≡ line_of layout
    by (inl same) _ = same
    by (inr earlier) (inl same) = same
    by (inr earlier) (inr other) = absurd (other.1 earlier.0 earlier.1)

-- what is known of such a refusal by truncation
no_mark : (e : ServedError) → e ≢ served.StoreFault → e ≢ served.Memory → e ≢ served.Outdated → ∥ IsDeviceOrMark e ∥₁ → IsDeviceOrMark e
no_mark e fault memory mark h = absurd (∥∥₁_elim h (λ a b. absurd a) (λ d. elim d [ inl device ↦ device_two e device fault memory | inr is ↦ mark is ]))

pub mark_stable : (e : ServedError) → ∥ IsDeviceOrMark e ∥₁ → IsDeviceOrMark e
mark_stable served.NotAStore h = no_mark served.NotAStore (λ is. absurd (cc)) (λ is. absurd (cc)) (λ is. absurd (cc)) h
mark_stable served.NoStore h = no_mark served.NoStore (λ is. absurd (cc)) (λ is. absurd (cc)) (λ is. absurd (cc)) h
mark_stable served.Exists h = no_mark served.Exists (λ is. absurd (cc)) (λ is. absurd (cc)) (λ is. absurd (cc)) h
mark_stable served.BadStore h = no_mark served.BadStore (λ is. absurd (cc)) (λ is. absurd (cc)) (λ is. absurd (cc)) h
mark_stable served.WrongSite h = no_mark served.WrongSite (λ is. absurd (cc)) (λ is. absurd (cc)) (λ is. absurd (cc)) h
mark_stable served.WrongGroup h = no_mark served.WrongGroup (λ is. absurd (cc)) (λ is. absurd (cc)) (λ is. absurd (cc)) h
mark_stable served.Outdated h = inr refl
mark_stable served.WrongLayout h = no_mark served.WrongLayout (λ is. absurd (cc)) (λ is. absurd (cc)) (λ is. absurd (cc)) h
mark_stable served.StoreFault h = inl (inl refl)
mark_stable served.Memory h = inl (inr refl)

-- a refusal of what a connection kept on is one from before
pub refused_from : (a b c : State) → Survives a b (λ _. ⊥) → HasCleanDisk b → Survives b c (λ _. ⊥) → HasRefused b c → HasRefused a c
refused_from a b c one clean two why = refused_since a b c one clean two.counts why

-- ---- what is kept

module _ {S : Type 0} (g : Ghosts S) (c : Held S) where
  -- after a refusal by anything but a fault, what was kept still is
  pub kept_store : (layout : LayoutState) (it : Stored) (e : ServedError) → Keeps g c it → IsLeftOfStore g layout it c e
  kept_store layout it e keeps = record { either = leaves_first g c (Holds it) (Holds (renewed (line_of layout) it)) keeps; still = λ _. keeps }

  pub kept_nothing : (layout : LayoutState) (i : ℕ) (group : Option (List ℕ)) (e : ServedError) → KeepsNothing g c → IsLeftOfNothing g layout i group c e
  kept_nothing layout i group e keeps = record { either = leaves_first g c HoldsNothing (Holds (made (site_text i group) (line_of layout))) keeps; still = λ _. keeps }

  -- what an opening leaves, one for a service leaves
  pub left_store : (layout : LayoutState) (it : Stored) (o : StoreOpenError) → IsLeft g layout it c o → IsLeftOfStore g layout it c (served_error o)
  left_store layout it opening.BadStore left = kept_store layout it served.BadStore left
  left_store layout it opening.WrongSite left = kept_store layout it served.WrongSite left
  left_store layout it opening.WrongGroup left = kept_store layout it served.WrongGroup left
  left_store layout it opening.WrongLayout left = kept_store layout it served.WrongLayout left
  left_store layout it opening.StoreFault left = record { either = left; still = λ other. absurd (other refl) }
  left_store layout it opening.Memory left = kept_store layout it served.Memory left

  pub left_nothing : (layout : LayoutState) (i : ℕ) (group : Option (List ℕ)) (o : StoreOpenError) → IsLeftBlank g layout i group c o → IsLeftOfNothing g layout i group c (served_error o)
  left_nothing layout i group opening.BadStore left = kept_nothing layout i group served.BadStore left
  left_nothing layout i group opening.WrongSite left = kept_nothing layout i group served.WrongSite left
  left_nothing layout i group opening.WrongGroup left = kept_nothing layout i group served.WrongGroup left
  left_nothing layout i group opening.WrongLayout left = kept_nothing layout i group served.WrongLayout left
  left_nothing layout i group opening.StoreFault left = record { either = left; still = λ other. absurd (other refl) }
  left_nothing layout i group opening.Memory left = kept_nothing layout i group served.Memory left

  -- what is left has to be shown of an honest device alone
  pub left_honest : (layout : LayoutState) (it : Stored) (e : ServedError) → (HasCleanDisk (state g c) → IsLeftOfStore g layout it c e) → IsLeftOfStore g layout it c e
  left_honest layout it e h = record {
    either = if_honest g c (λ db. Holds it db ⊎ Holds (renewed (line_of layout) it) db) (λ clean. (h clean).either);
    still = λ other. if_honest g c (Holds it) (λ clean. (h clean).still other);
  }

  pub left_nothing_honest : (layout : LayoutState) (i : ℕ) (group : Option (List ℕ)) (e : ServedError) → (HasCleanDisk (state g c) → IsLeftOfNothing g layout i group c e) → IsLeftOfNothing g layout i group c e
  left_nothing_honest layout i group e h = record {
    either = if_honest g c (λ db. HoldsNothing db ⊎ Holds (made (site_text i group) (line_of layout)) db) (λ clean. (h clean).either);
    still = λ other. if_honest g c HoldsNothing (λ clean. (h clean).still other);
  }

-- what an open connection that sees its last commit keeps, it sees
module _ {S : Type 0} (g : Ghosts S) (stays : (s : S) → IsTrue (g.view s).is_open → g.recovers s (g.view s).committed) (c : Held S) (settled : IsSettled (state g c)) (clean : HasCleanDisk (state g c)) where
  seen : (P : Trees → Type 0) → Leaves g c P → ∥ P (state g c).now.trees ∥₁
  seen P keeps = subst (λ (d : Database). ∥ P d.trees ∥₁) (sym settled.committed) (keeps.left clean (state g c).committed.trees (stays c.store settled.is_open))

  is_made : (it : Stored) → Holds it (state g c).now.trees → IsMade (state g c).now.schema
  is_made it holds = let is = store_of (state g c).now it settled.sound holds in (it.version, made_here it.version (state g c).now.schema is.schema is.apart)

  pub store_seen : (it : Stored) → Keeps g c it → ∥ IsMade (state g c).now.schema ∥₁
  store_seen it keeps = ∥∥₁_map (seen (Holds it) keeps) (is_made it)

  pub either_seen : (a b : Stored) → KeepsEither g c a b → ∥ IsMade (state g c).now.schema ∥₁
  either_seen a b keeps = ∥∥₁_map (seen (λ db. Holds a db ⊎ Holds b db) keeps) (λ h. elim h [ inl x ↦ is_made a x | inr y ↦ is_made b y ])

  pub none_seen : KeepsNothing g c → (state g c).now.schema ≡ no_schema
  none_seen keeps = ∥∥₁_elim (seen HoldsNothing keeps) (schema_once _ _) (λ h. bare (state g c).now settled.sound h)

  -- and where it sees no table it keeps none
  pub none_kept : ((s : S) (db : Trees) → IsTrue (g.view s).is_open → g.recovers s db → db ≡ (g.view s).committed) → (state g c).now.schema ≡ no_schema → KeepsNothing g c
  none_kept settles none = record {
    left = λ _ db left.
        let there : HoldsNothing (state g c).now.trees = subst (λ (s : Schema). IsDatabase (record { schema = s; trees = (state g c).now.trees })) none settled.sound in
        let last : db ≡ (state g c).now.trees = settles c.store db settled.is_open left ∙ sym (ap (λ (d : Database). d.trees) settled.committed) in
        ∣ subst HoldsNothing (sym last) there ∣₁;
  }

-- ---- one of two contents was kept, and a look found it

module _ {S : Type 0} (g : Ghosts S) (c : Held S) (grow : Bool) (layout : LayoutState) (i : ℕ) (group : Option (List ℕ)) (a b : Stored) (P Q H : Type 0) (t : Option Stored)
    (found : ∥ (P × (H → t ≡ Some a)) ⊎ (Q × (H → t ≡ Some b)) ∥₁) where
  pub settled_as : (content : Stored) → t ≡ Some content → (r : Result Index ServedError) → (P → (H → content ≡ a) → Finds g grow layout i group a c r) → (Q → (H → content ≡ b) → Finds g grow layout i group b c r)
      → IfOk r (λ index. ∥ IsReady g layout i group a c index ⊎ IsReady g layout i group b c index ∥₁)
  settled_as content is (Err e) first second = tt
  settled_as content is (Ok index) first second = ∥∥₁_map found (λ f. elim f [
    | inl x ↦ inl (first x.0 (λ clean. same_Some content a (sym is ∙ x.1 clean))).ready
    | inr y ↦ inr (second y.0 (λ clean. same_Some content b (sym is ∙ y.1 clean))).ready
  ])

  pub either_taken : H → (content : Stored) → t ≡ Some content → IsTaken grow layout i group a → IsTaken grow layout i group b → (e : ServedError) → (IsTaken grow layout i group content → IsDeviceOrMark e) → IsDeviceOrMark e
  either_taken clean content is first second e refused = mark_stable e (∥∥₁_map found (λ f. elim f [
    | inl x ↦ refused (subst (IsTaken grow layout i group) (sym (same_Some content a (sym is ∙ x.1 clean))) first)
    | inr y ↦ refused (subst (IsTaken grow layout i group) (sym (same_Some content b (sym is ∙ y.1 clean))) second)
  ]))

  pub left_as : (content : Stored) → t ≡ Some content → (r : Result Index ServedError) (e : ServedError) → r ≡ Err e → (P → (H → content ≡ a) → Finds g grow layout i group a c r) → (Q → (H → content ≡ b) → Finds g grow layout i group b c r)
      → IsLeftOfEither g layout a b c e
  left_as content is r e failed first second = ∥∥₁_map found (λ f. elim f [
    | inl x ↦ inr (inl (subst (Finds g grow layout i group a c) failed (first x.0 (λ clean. same_Some content a (sym is ∙ x.1 clean)))).left)
    | inr y ↦ inr (inr (subst (Finds g grow layout i group b c) failed (second y.0 (λ clean. same_Some content b (sym is ∙ y.1 clean)))).left)
  ])

  pub not_found : H → t ≡ None → ⊥
  not_found clean none = ∥∥₁_elim found (λ x y. absurd x) (λ f. elim f [
    | inl x ↦ none-some a (sym none ∙ x.1 clean)
    | inr y ↦ none-some b (sym none ∙ y.1 clean)
  ])

-- a content is ready whatever is not known of a device that can't be honest
pub ready_honest : {S : Type 0} (g : Ghosts S) (c : Held S) (layout : LayoutState) (i : ℕ) (group : Option (List ℕ)) (it : Stored) (index : Index) → (HasCleanDisk (state g c) → IsReady g layout i group it c index) → IsReady g layout i group it c index
ready_honest g c layout i group it index h = record { fits = λ clean. (h clean).fits clean; stores = λ clean. (h clean).stores clean }

-- an opened store keeps the line that its content had, unless it may grow
pub ready_as : {S : Type 0} (g : Ghosts S) (c : Held S) (grow : Bool) (layout : LayoutState) (i : ℕ) (group : Option (List ℕ)) (it content : Stored) (index : Index) → (HasCleanDisk (state g c) → content ≡ it)
    → IsNotEarlier grow layout i content.layout → IsReady g layout i group it c index → IsReadyAs g grow layout i group it c index
ready_as g c grow layout i group it content index found known ready = record {
  ready = ready;
  its_line = λ clean off. own_line grow layout i it (ready.fits clean).its_layout (subst (λ (s : Stored). IsNotEarlier grow layout i s.layout) (found clean) known) off;
}

-- ---- a permission that was found to fit a connection, whose schema and whose last commit it told of

module _ {S : Type 0} (g : Ghosts S) (stays : (s : S) → IsTrue (g.view s).is_open → g.recovers s (g.view s).committed) (p : Permission) (old new : Held S) (survives : Survives (state g old) (state g new) (λ _. ⊥))
    (settled : HasCleanDisk (state g new) → IsSettled (state g old)) where
  some_store : (it : Stored) → Keeps g old it → HasCleanDisk (state g new) → ∥ IsMade (state g old).now.schema ∥₁
  some_store it keeps clean = store_seen g stays old (settled clean) (omega (arith, survives.clean)) it keeps

  some_either : (a b : Stored) → KeepsEither g old a b → HasCleanDisk (state g new) → ∥ IsMade (state g old).now.schema ∥₁
  some_either a b keeps clean = either_seen g stays old (settled clean) (omega (arith, survives.clean)) a b keeps

  no_store : KeepsNothing g old → HasCleanDisk (state g new) → (state g old).now.schema ≡ no_schema
  no_store keeps clean = none_seen g stays old (settled clean) (omega (arith, survives.clean)) keeps

  module _ (granted : HasCleanDisk (state g new) → IsPermitted p (state g old).now.schema) where
    pub off_store : (it : Stored) → Keeps g old it → HasCleanDisk (state g new) → p.create ≡ false
    off_store it keeps clean = permitted_made p (state g old).now.schema (granted clean) (some_store it keeps clean)

    pub off_either : (a b : Stored) → KeepsEither g old a b → HasCleanDisk (state g new) → p.create ≡ false
    off_either a b keeps clean = permitted_made p (state g old).now.schema (granted clean) (some_either a b keeps clean)

    pub on_nothing : KeepsNothing g old → HasCleanDisk (state g new) → p.create ≡ true
    on_nothing keeps clean = permitted_none p (state g old).now.schema (granted clean) (no_store keeps clean)

-- a permission was found not to fit
module _ {S : Type 0} (g : Ghosts S) (stays : (s : S) → IsTrue (g.view s).is_open → g.recovers s (g.view s).committed) (p : Permission) (old new : Held S) (survives : Survives (state g old) (state g new) (λ _. ⊥)) (e : ServedError)
    (settled : HasCleanDisk (state g new) → e ≢ served.StoreFault → e ≢ served.Memory → IsSettled (state g old)) (denied : HasCleanDisk (state g new) → IsDenied p (state g old).now.schema e) where
  pub refused_store : (layout : LayoutState) (i : ℕ) (group : Option (List ℕ)) (it : Stored) → Keeps g old it → IsRefusedStore g p layout i group it new e
  refused_store layout i group it keeps = record {
    cause = λ clean. denied_store p (state g old).now.schema layout i group it e (denied_made p (state g old).now.schema e (denied clean) (λ fault memory.
        store_seen g stays old (settled clean fault memory) (omega (arith, survives.clean)) it keeps));
    left = kept_store g new layout it e (leaves_still g old new (Holds it) survives keeps);
  }

  pub refused_nothing : (layout : LayoutState) (i : ℕ) (group : Option (List ℕ)) → KeepsNothing g old → IsRefusedNothing g p layout i group new e
  refused_nothing layout i group keeps = record {
    cause = λ clean. denied_none p (state g old).now.schema e (denied clean) (λ fault memory. none_seen g stays old (settled clean fault memory) (omega (arith, survives.clean)) keeps);
    left = kept_nothing g new layout i group e (leaves_still g old new HoldsNothing survives keeps);
  }

  pub refused_device : (a b : Stored) → KeepsEither g old a b → p.create ≡ false → HasCleanDisk (state g new) → IsDevice e
  refused_device a b keeps off clean = denied_device p e off (denied_made p (state g old).now.schema e (denied clean) (λ fault memory.
      either_seen g stays old (settled clean fault memory) (omega (arith, survives.clean)) a b keeps))

-- there was no memory
module _ {S : Type 0} (g : Ghosts S) (p : Permission) (old new : Held S) (survives : Survives (state g old) (state g new) (λ _. ⊥)) where
  pub memory_store : (layout : LayoutState) (i : ℕ) (group : Option (List ℕ)) (it : Stored) → Keeps g old it → IsRefusedStore g p layout i group it new served.Memory
  memory_store layout i group it keeps = record {
    cause = λ clean. device_store p layout i group it served.Memory (inr refl);
    left = kept_store g new layout it served.Memory (leaves_still g old new (Holds it) survives keeps);
  }

  pub memory_nothing : (layout : LayoutState) (i : ℕ) (group : Option (List ℕ)) → KeepsNothing g old → IsRefusedNothing g p layout i group new served.Memory
  memory_nothing layout i group keeps = record {
    cause = λ clean. inr (inr refl);
    left = kept_nothing g new layout i group served.Memory (leaves_still g old new HoldsNothing survives keeps);
  }

-- what a connection that is open since is refused, it was refused from the start
pub refused_open : (a b c : State) → Survives a b (λ _. ⊥) → IsTrue b.is_open → HasRefused b c → HasRefused a c
refused_open a b c one up (inl more) = inl (omega (arith, more, one.counts))
refused_open a b c one up (inr (inl shut)) = absurd (both_ways _ shut up)
refused_open a b c one up (inr (inr limit)) = inr (inr (subst (λ (l : Option ℕ). IsSome l) one.limit limit))

-- ---- answers

pub match_ok : {A E : Type 0} (P : Type 0) (Q : E → Type 0) (r : Result A E) → MatchResult r (λ _. P) Q → OnOk r P
match_ok P Q (Ok x) h = h
match_ok P Q (Err e) h = tt

pub match_err : {A E : Type 0} (P : A → Type 0) (Q : E → Type 0) (r : Result A E) → MatchResult r P Q → IfErr r Q
match_err P Q (Ok x) h = tt
match_err P Q (Err e) h = h

pub all_errs : {A E : Type 0} {Q : E → Type 0} (r : Result A E) → ((e : E) → Q e) → IfErr r Q
all_errs (Ok x) f = tt
all_errs (Err e) f = f e

-- a call of the device that was refused is told as such
pub table_device : (u : TableError) → u ≢ tables.BadStore → IsDevice (served_error (open_error u))
table_device u other = device_of (open_error u) (table_cause u other)

pub device_denied : (p : Permission) (schema : Schema) (e : ServedError) → IsDevice e → IsDenied p schema e
device_denied p schema e (inl is) = subst (IsDenied p schema) (sym is) tt
device_denied p schema e (inr is) = subst (IsDenied p schema) (sym is) tt

-- a fault is told of no want of memory
pub not_memory : (u : TableError) (e : SqlError) → (u ≡ tables.Memory ↔ (e ≡ SqliteFailure OutOfMemory)) → u ≡ tables.StoreFault → e ≡ SqliteFailure OutOfMemory → ⊥
not_memory u e both is oom = let clash : tables.Memory ≡ tables.StoreFault = sym (both.1 oom) ∙ is in absurd (cc)

-- no answer is a fault
pub none_faulty : {A : Type 0} (Q : Type 0) (r : Result A ServedError) → IfErr r (λ e. ¬ IsDevice e) → IfErr r (λ e. e ≡ served.StoreFault → Q)
none_faulty Q (Ok x) h = tt
none_faulty Q (Err e) h = λ is. absurd (h (inl is))

pub layout_is_none : served.WrongLayout ≡ served.StoreFault → ⊥
layout_is_none is = absurd (cc)

-- nothing or one content was kept, and a look found it
module _ {S : Type 0} (g : Ghosts S) (c : Held S) (grow : Bool) (layout : LayoutState) (i : ℕ) (group : Option (List ℕ)) (it : Stored) (P Q H : Type 0) (t : Option Stored)
    (found : ∥ (P × (H → t ≡ None)) ⊎ (Q × (H → t ≡ Some it)) ∥₁) (early : HasCleanDisk (state g c) → H) where
  pub left_doubt_as : (content : Stored) → t ≡ Some content → (r : Result Index ServedError) (e : ServedError) → r ≡ Err e → (Q → (H → content ≡ it) → Finds g grow layout i group it c r) → IsLeftOfDoubt g layout i group it c e
  left_doubt_as content is r e failed second = ∥∥₁_map found (λ f. elim f [
    | inl x ↦ inl (if_honest g c (λ db. HoldsNothing db ⊎ Holds it db) (λ clean. absurd (none-some content (sym (x.1 (early clean)) ∙ is))))
    | inr y ↦ inr (inr (subst (Finds g grow layout i group it c) failed (second y.0 (λ clean. same_Some content it (sym is ∙ y.1 clean)))).left)
  ])

-- what is told of a schema is told of no device
pub foreign_told : ¬ IsDevice served.NotAStore
foreign_told d = device_two served.NotAStore d (λ is. absurd (cc)) (λ is. absurd (cc))

pub none_told : ¬ IsDevice served.NoStore
none_told d = device_two served.NoStore d (λ is. absurd (cc)) (λ is. absurd (cc))

pub there_told : ¬ IsDevice served.Exists
there_told d = device_two served.Exists d (λ is. absurd (cc)) (λ is. absurd (cc))
