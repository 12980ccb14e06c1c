-- What a refused opening leaves where it was not known what the connection keeps.
use Rattle.std.proofs.Common.{◌≡◌, ◌⊎◌, ℕ, inl, inr, sym, subst, List, ◌∙◌, Option, Some, None, Result, Err}
use Rattle.std.proofs.lemmas.Option.{none-some, same_Some}
use Rattle.std.proofs.Math.Logic.{∥∥₁_map}
use Rattle.sqlite_trees.specs.declared.store.Store.{Ghosts}
use Rattle.sqlite.specs.State.{HasCleanDisk}
use Rattle.sqlite.specs.Held.{Held, state}
use Rattle.merge_core.specs.Layout.{LayoutState}
use Rattle.store_rows.specs.Rows.{Stored}
use Rattle.store_rows.specs.Holding.{Holds, HoldsNothing}
use Rattle.store_content.specs.declared.index.Index.{Index}
use Rattle.site_store.specs.declared.error.StoreOpenError.{StoreOpenError}
use Rattle.site_store.specs.Opened.{IsLeft, IsLeftBlank, IsLeftEither, IsLeftOr, Readies, ReadiesBlank}
use Rattle.site_store.proofs.OpenLemmas.{if_honest}

module _ {S : Type 0} (g : Ghosts S) (c : Held S) (layout : LayoutState) (i : ℕ) (group : Option (List ℕ)) (r : Result Index StoreOpenError) (e : StoreOpenError) (is : r ≡ Err e) where
  -- an answer that is a refusal tells what is left
  left_of : (it : Stored) → Readies g layout i group it c r → IsLeft g layout it c e
  left_of it ready = (subst (Readies g layout i group it c) is ready).left

  left_blank_of : ReadiesBlank g layout i group c r → IsLeftBlank g layout i group c e
  left_blank_of ready = (subst (ReadiesBlank g layout i group c) is ready).left

  -- one of two contents was kept, and a look found it or none
  module _ (a b : Stored) (P Q H : Type 0) (t : Option Stored) (found : ∥ (P × (H → t ≡ Some a)) ⊎ (Q × (H → t ≡ Some b)) ∥₁) where
    pub left_some : (content : Stored) → t ≡ Some content → (P → (H → content ≡ a) → Readies g layout i group a c r) → (Q → (H → content ≡ b) → Readies g layout i group b c r)
        → IsLeftEither g layout a b c e
    left_some content there first second = ∥∥₁_map found (λ f. elim f [
      | inl x ↦ inr (inl (left_of a (first x.0 (λ clean. same_Some content a (sym there ∙ x.1 clean)))))
      | inr y ↦ inr (inr (left_of b (second y.0 (λ clean. same_Some content b (sym there ∙ y.1 clean)))))
    ])

    pub left_none : t ≡ None → (HasCleanDisk (state g c) → H) → IsLeftEither g layout a b c e
    left_none none early = ∥∥₁_map found (λ f. inl (if_honest g c (λ db. Holds a db ⊎ Holds b db) (λ clean. elim f [
      | inl x ↦ absurd (none-some a (sym none ∙ x.1 (early clean)))
      | inr y ↦ absurd (none-some b (sym none ∙ y.1 (early clean)))
    ])))

  -- nothing or one content was kept, and a look found it or none
  module _ (it : Stored) (P Q H : Type 0) (t : Option Stored) (found : ∥ (P × (H → t ≡ None)) ⊎ (Q × (H → t ≡ Some it)) ∥₁) (early : HasCleanDisk (state g c) → H) where
    pub left_or_some : (content : Stored) → t ≡ Some content → (Q → (H → content ≡ it) → Readies g layout i group it c r) → IsLeftOr g layout i group it c e
    left_or_some content there second = ∥∥₁_map found (λ f. elim f [
      | inl x ↦ inl (if_honest g c (λ db. HoldsNothing db ⊎ Holds it db) (λ clean. absurd (none-some content (sym (x.1 (early clean)) ∙ there))))
      | inr y ↦ inr (inr (left_of it (second y.0 (λ clean. same_Some content it (sym there ∙ y.1 clean)))))
    ])

    pub left_or_none : t ≡ None → (P → ReadiesBlank g layout i group c r) → IsLeftOr g layout i group it c e
    left_or_none none first = ∥∥₁_map found (λ f. elim f [
      | inl x ↦ inr (inl (left_blank_of (first x.0)))
      | inr y ↦ inl (if_honest g c (λ db. HoldsNothing db ⊎ Holds it db) (λ clean. absurd (none-some it (sym none ∙ y.1 (early clean)))))
    ])
