-- What the opening of a store comes to.
use Rattle.std.proofs.Common.{◌≡◌, ◌⊎◌, ℕ, inl, inr, refl, sym, ap, subst, List, ◌∙◌, Option, Some, None, Result, Ok, Err, IfOk}
use Rattle.std.proofs.lemmas.Option.{none-some, same_Some}
use Rattle.std.proofs.Math.Logic.{∥∥₁_elim, ∥∥₁_map}
use Rattle.sqlite_trees.specs.Tree.{Trees}
use Rattle.sqlite_trees.specs.declared.store.Store.{Ghosts}
use Rattle.sqlite.specs.Effect.{Database}
use Rattle.sqlite.specs.State.{HasCleanDisk}
use Rattle.sqlite.specs.Held.{Held, state}
use Rattle.merge_core.specs.Layout.{LayoutState}
use Rattle.layout_line.specs.declared.Line.{Line}
use Rattle.layout_line.specs.declared.Line.TheVariants as lines
use Rattle.layout_line.specs.Line.{IsLine, line_of}
use Rattle.store_schema.specs.declared.Version.{Version}
use Rattle.store_schema.specs.declared.Version.TheVariants.{Second}
use Rattle.store_rows.specs.Rows.{Stored}
use Rattle.store_rows.specs.Changes.{renewed}
use Rattle.store_rows.specs.Holding.{Keeps, KeepsBeside, KeepsEither, KeepsNothing, Leaves, Holds, HoldsNothing}
use Rattle.store_tables.specs.Transacts.{made}
use Rattle.store_content.specs.Content.{IsContent}
use Rattle.store_content.specs.declared.index.Index.{Index}
use Rattle.store_content.specs.Known.{Knows}
use Rattle.store_tables.specs.declared.error.TableError.{TableError}
use Rattle.store_tables.specs.declared.error.TableError.TheVariants as tables
use Rattle.store_tables.proofs.KeepLemmas.{leaves_first}
use Rattle.site_store.specs.declared.error.StoreOpenError.{StoreOpenError}
use Rattle.site_store.specs.declared.error.StoreOpenError.TheVariants as opening
use Rattle.site_store.specs.Errors.{open_error}
use Rattle.site_store.specs.SiteText.{site_text}
use Rattle.site_store.specs.Sql.{Stores}
use Rattle.site_store.specs.Opened.{Fits, IsOwn, IsLeft, IsLeftBlank, IsReady, IsRefused, IsRefusedBlank, Readies, ReadiesBlank}

-- a line that is not another's is that of the layout or of an earlier one
pub fits_of : (layout : LayoutState) (i : ℕ) (it : Stored) (line : Line) → (line ≡ lines.Other → ⊥) → IsLine layout i it.layout line → Fits layout i it
fits_of layout i it lines.Same other is = inl is
fits_of layout i it lines.Earlier other is = inr is
fits_of layout i it lines.Other other is = absurd (other refl)

-- a content that is as it is to be is not changed
pub as_renewed : (line : List ℕ) (it : Stored) → it.version ≡ Second → it.layout ≡ line → renewed line it ≡ it
as_renewed line it second same =
    ap (λ (v : Version). record it { version = v; layout = line }) (sym second) ∙ ap (λ (l : List ℕ). record it { layout = l }) (sym same)

-- a new store has the content of a site
pub made_content : (site line : List ℕ) → IsContent (made site line)
made_content site line = record {
  rows = record { cells_rise = _; cells = _; notices_rise = _; notices = _; sessions_rise = _; places = _ };
  once = _;
}

-- and what is renewed keeps it
pub renewed_content : (line : List ℕ) (it : Stored) → IsContent it → IsContent (renewed line it)
renewed_content line it h = record {
  rows = record { cells_rise = h.rows.cells_rise; cells = h.rows.cells; notices_rise = h.rows.notices_rise; notices = h.rows.notices; sessions_rise = h.rows.sessions_rise; places = h.rows.places };
  once = h.once;
}

pub renewed_known : (line : List ℕ) (it : Stored) (index : Index) → Knows index it → Knows index (renewed line it)
renewed_known line it index h = record { places = h.places; notices = h.notices; unique = h.unique; greatest = h.greatest }

module _ {S : Type 0} (g : Ghosts S) (c : Held S) where
  -- what is left needs to be shown of an honest device alone
  pub if_honest : (P : Trees → Type 0) → (HasCleanDisk (state g c) → Leaves g c P) → Leaves g c P
  if_honest P h = record { left = λ clean db left. (h clean).left clean db left }

  pub twice : (it : Stored) → Keeps g c it → KeepsEither g c it it
  twice it keeps = record { left = λ clean db left. ∥∥₁_map (keeps.left clean db left) (λ h. inl h) }

  -- what is stored for a layout and a site is so for those that are the same
  pub stored_again : (layout copy : LayoutState) (site row : List ℕ) (index : Index) (it : Stored) → copy ≡ layout → row ≡ site
      → Stores g layout site c index it → Stores g copy row c index it
  stored_again layout copy site row index it same same_row stores =
      subst (λ (l : LayoutState). Stores g l row c index it) (sym same) (subst (λ (t : List ℕ). Stores g layout t c index it) (sym same_row) stores)

  -- a content of this site is ready once it is renewed and kept
  pub is_ready : (layout : LayoutState) (i : ℕ) (group : Option (List ℕ)) (it content : Stored) (index : Index) → (HasCleanDisk (state g c) → content ≡ it)
      → IsOwn layout i group content → Knows index content → (HasCleanDisk (state g c) → Keeps g c (renewed (line_of layout) it)) → IsReady g layout i group it c index
  is_ready layout i group it content index found fits knows kept =
      let line = line_of layout in
      let is_for : HasCleanDisk (state g c) → IsOwn layout i group it = λ clean. subst (IsOwn layout i group) (found clean) fits in
      record {
        fits = is_for;
        stores = λ clean. record {
          own = record { second = refl; its_site = (is_for clean).its_site; its_layout = refl; content = renewed_content line it (is_for clean).content };
          kept = kept clean;
          known = renewed_known line it index (subst (Knows index) (found clean) knows);
        };
      }

  -- a refusal of the tables
  pub refused : (layout : LayoutState) (i : ℕ) (group : Option (List ℕ)) (it : Stored) (e : TableError) → (e ≡ tables.BadStore → HasCleanDisk (state g c) → ¬ IsContent it)
      → Keeps g c it → IsRefused g layout i group it c (open_error e)
  refused layout i group it tables.BadStore bad keeps = record { cause = bad refl; left = keeps }
  refused layout i group it tables.Memory bad keeps = record { cause = λ _. _; left = keeps }
  refused layout i group it tables.StoreFault bad keeps = record { cause = λ _. _; left = leaves_first g c (Holds it) (Holds (renewed (line_of layout) it)) keeps }

  -- a refused renewal leaves what was kept, or after a fault perhaps what was to come
  pub refused_renewal : (layout : LayoutState) (i : ℕ) (group : Option (List ℕ)) (it : Stored) (e : TableError) → (e ≡ tables.BadStore → ⊥) → (e ≡ tables.Memory → Keeps g c it)
      → (e ≡ tables.StoreFault → KeepsEither g c it (renewed (line_of layout) it)) → IsRefused g layout i group it c (open_error e)
  refused_renewal layout i group it tables.BadStore good memory fault = absurd (good refl)
  refused_renewal layout i group it tables.Memory good memory fault = record { cause = λ _. _; left = memory refl }
  refused_renewal layout i group it tables.StoreFault good memory fault = record { cause = λ _. _; left = fault refl }

  pub refused_blank : (layout : LayoutState) (i : ℕ) (group : Option (List ℕ)) (e : TableError) → (e ≡ tables.BadStore → HasCleanDisk (state g c) → ⊥)
      → KeepsNothing g c → IsRefusedBlank g layout i group c (open_error e)
  refused_blank layout i group tables.BadStore bad keeps = record { cause = bad refl; left = keeps }
  refused_blank layout i group tables.Memory bad keeps = record { cause = λ _. _; left = keeps }
  refused_blank layout i group tables.StoreFault bad keeps = record { cause = λ _. _; left = leaves_first g c HoldsNothing (Holds (made (site_text i group) (line_of layout))) keeps }

  -- nothing needs to be shown of a device that can't be honest
  module _ (never : HasCleanDisk (state g c) → ⊥) where
    leaves_any : (P : Trees → Type 0) → Leaves g c P
    leaves_any P = record { left = λ clean db left. absurd (never clean) }

    left_any : (layout : LayoutState) (it : Stored) (e : StoreOpenError) → IsLeft g layout it c e
    left_any layout it opening.BadStore = leaves_any (Holds it)
    left_any layout it opening.WrongSite = leaves_any (Holds it)
    left_any layout it opening.WrongGroup = leaves_any (Holds it)
    left_any layout it opening.WrongLayout = leaves_any (Holds it)
    left_any layout it opening.StoreFault = leaves_any (λ db. Holds it db ⊎ Holds (renewed (line_of layout) it) db)
    left_any layout it opening.Memory = leaves_any (Holds it)

    left_blank_any : (layout : LayoutState) (i : ℕ) (group : Option (List ℕ)) (e : StoreOpenError) → IsLeftBlank g layout i group c e
    left_blank_any layout i group opening.BadStore = leaves_any HoldsNothing
    left_blank_any layout i group opening.WrongSite = leaves_any HoldsNothing
    left_blank_any layout i group opening.WrongGroup = leaves_any HoldsNothing
    left_blank_any layout i group opening.WrongLayout = leaves_any HoldsNothing
    left_blank_any layout i group opening.StoreFault = leaves_any (λ db. HoldsNothing db ⊎ Holds (made (site_text i group) (line_of layout)) db)
    left_blank_any layout i group opening.Memory = leaves_any HoldsNothing

    pub readies_any : (layout : LayoutState) (i : ℕ) (group : Option (List ℕ)) (it : Stored) (r : Result Index StoreOpenError) → Readies g layout i group it c r
    readies_any layout i group it (Ok index) = record { fits = λ clean. absurd (never clean); stores = λ clean. absurd (never clean) }
    readies_any layout i group it (Err e) = record { cause = λ clean. absurd (never clean); left = left_any layout it e }

    pub readies_blank_any : (layout : LayoutState) (i : ℕ) (group : Option (List ℕ)) (r : Result Index StoreOpenError) → ReadiesBlank g layout i group c r
    readies_blank_any layout i group (Ok index) = λ clean. absurd (never clean)
    readies_blank_any layout i group (Err e) = record { cause = λ clean. absurd (never clean); left = left_blank_any layout i group e }

  -- one of two contents was kept, and a look found it or none
  module _ (layout : LayoutState) (i : ℕ) (group : Option (List ℕ)) (a b : Stored) (P Q C : Type 0) (early : HasCleanDisk (state g c) → C) where
    pub settled_none : (t : Option Stored) → t ≡ None → (r : Result Index StoreOpenError) → ∥ (P × (C → t ≡ Some a)) ⊎ (Q × (C → t ≡ Some b)) ∥₁
        → IfOk r (λ index. ∥ IsReady g layout i group a c index ⊎ IsReady g layout i group b c index ∥₁)
    settled_none t none (Err e) found = _
    settled_none t none (Ok index) found = ∥∥₁_map found (λ f. elim f [
      | inl x ↦ inl (readies_any (λ clean. none-some a (sym none ∙ x.1 (early clean))) layout i group a (Ok index))
      | inr y ↦ inr (readies_any (λ clean. none-some b (sym none ∙ y.1 (early clean))) layout i group b (Ok index))
    ])

    pub settled : (t : Option Stored) (content : Stored) → t ≡ Some content → (r : Result Index StoreOpenError) → (P → (C → content ≡ a) → Readies g layout i group a c r)
        → (Q → (C → content ≡ b) → Readies g layout i group b c r)
        → ∥ (P × (C → t ≡ Some a)) ⊎ (Q × (C → t ≡ Some b)) ∥₁ → IfOk r (λ index. ∥ IsReady g layout i group a c index ⊎ IsReady g layout i group b c index ∥₁)
    settled t content is (Err e) first second found = _
    settled t content is (Ok index) first second found = ∥∥₁_map found (λ f. elim f [
      | inl x ↦ inl (first x.0 (λ clean. same_Some content a (sym is ∙ x.1 clean)))
      | inr y ↦ inr (second y.0 (λ clean. same_Some content b (sym is ∙ y.1 clean)))
    ])

  -- the other tables stay, whichever of two contents was kept
  module _ (a b : Stored) (P Q C : Type 0) (others : Database) (early : HasCleanDisk (state g c) → C) where
    pub beside_none : (t : Option Stored) → t ≡ None → ∥ (P × (C → t ≡ Some a)) ⊎ (Q × (C → t ≡ Some b)) ∥₁ → KeepsBeside g c others
    beside_none t none found = record {
      left = λ clean db left. ∥∥₁_elim found squash₁ (λ f. elim f [
        | inl x ↦ absurd (none-some a (sym none ∙ x.1 (early clean)))
        | inr y ↦ absurd (none-some b (sym none ∙ y.1 (early clean)))
      ]);
    }

    pub beside_some : (t : Option Stored) (content : Stored) → t ≡ Some content → (P → (C → content ≡ a) → KeepsBeside g c others) → (Q → (C → content ≡ b) → KeepsBeside g c others)
        → ∥ (P × (C → t ≡ Some a)) ⊎ (Q × (C → t ≡ Some b)) ∥₁ → KeepsBeside g c others
    beside_some t content is first second found = record {
      left = λ clean db left. ∥∥₁_elim found squash₁ (λ f. elim f [
        | inl x ↦ (first x.0 (λ honest. same_Some content a (sym is ∙ x.1 honest))).left clean db left
        | inr y ↦ (second y.0 (λ honest. same_Some content b (sym is ∙ y.1 honest))).left clean db left
      ]);
    }
