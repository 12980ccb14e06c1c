-- No site begins from a table with a counter out of its place.
use Rattle.std.proofs.Common.{◌≡◌, inl, inr, ℕ, ◌<◌, ◌≤◌, true, nat_lt, ◌==◌, ◌&&◌, List, [], ◌∷◌, ◌++◌, Some, None, refl, sym, ap₂, ◌∙◌, arith}
use Rattle.std.specs.List.{AllByRecursion}
use Rattle.std.specs.Prelude.{IsSome}
use Rattle.std.proofs.lemmas.Bool.{cases_Bool}
use Rattle.std.proofs.lemmas.Bool.Decides.{nat_tests}
use Rattle.sqlite_rules.specs.Lists.{Has}
use Rattle.merge_core.specs.Layout.{LayoutState}
use Rattle.admission_model.specs.declared.durable.DurableCell.{DurableCell}
use Rattle.admission_model.specs.Durable.{named}
use Rattle.admission_model.specs.Restoring.{AreCells, stored_at}
use Rattle.store_rows.specs.declared.content.StoredCell.{StoredCell}
use Rattle.store_rows.specs.declared.content.StoredNotice.{StoredNotice}
use Rattle.store_rows.specs.Rows.{Stored}
use Rattle.store_content.specs.Content.{HasMisplaced, IsContent, IsNotice, announced_cells, durable_cells, finished_cells, misplaced_cells, nameless_slot, table_cells}
use Rattle.store_content.specs.Plan.{IsSlot}
use Rattle.durable_keeper.proofs.CellLists.{or_else, stored_append, stored_puts}
use Rattle.store_content.proofs.PutLemmas.{all_weaker, each_of, stored_none}
use Rattle.store_content.proofs.SlotLaws.{sites_low}
use Rattle.store_content.proofs.TableLemmas.{stored_misplaced}
use Rattle.store_content.proofs.TellableLemmas.{slot_is}
use Rattle.store_content.proofs.ToldLemmas.{stored_high}

same_value : (r slot : ℕ) (x : DurableCell) → x.r ≡ r → x.slot ≡ slot → stored_at (x ∷ []) r slot ≡ Some x.value
same_value r slot x p q = let e : ((x.r == r) && (x.slot == slot)) ≡ true = grind (arith, nat_tests) in rw e refl

-- the first one is told
first_told : (cs : List StoredCell) (c : StoredCell) → Has cs c → 300 ≤ c.slot → (r : ℕ) × (n : ℕ) × (stored_at (misplaced_cells cs) r nameless_slot ≡ Some n)
first_told [] c there high = absurd there
first_told (d ∷ cs) c there high = elim (cases_Bool (nat_lt d.slot 300)) [
  | inl e ↦ elim there [
    | inl same ↦ absurd (let small : c.slot < 300 = rw same (grind (arith, nat_tests)) in omega (arith, small, high))
    | inr later ↦ rw e (first_told cs c later high)
  ]
  | inr e ↦ rw e (d.r, d.n, same_value d.r nameless_slot (record { r = d.r; slot = nameless_slot; value = d.n }) refl refl)
]

no_notice : (ns : List StoredNotice) (r : ℕ) → AllByRecursion IsNotice ns → stored_at (announced_cells ns ++ finished_cells ns) r nameless_slot ≡ None
no_notice ns r each =
    stored_append (announced_cells ns) (finished_cells ns) r nameless_slot
    ∙ ap₂ or_else (stored_high 300 (λ n. n.announced) ns r nameless_slot (sites_low ns each) (omega arith)) (stored_high 400 (λ n. n.finished) ns r nameless_slot (sites_low ns each) (omega arith))

past : IsSlot nameless_slot → ⊥
past (inl x) = absurd (omega (arith, x))
past (inr (inl x)) = absurd (omega (arith, x.1))
past (inr (inr x)) = absurd (omega (arith, x.1))

pub no_begin : (layout : LayoutState) (i : ℕ) (it : Stored) → layout.sites ≤ 16 → IsContent it → HasMisplaced it → AreCells layout i (durable_cells it) → ⊥
no_begin layout i it few is bad cells =
    let first = first_told it.cells bad.0 bad.1 bad.2 in
    let there : stored_at (durable_cells it) first.0 nameless_slot ≡ Some first.1 =
    stored_puts (announced_cells it.notices ++ finished_cells it.notices) (table_cells it.cells) first.0 nameless_slot
    ∙ ap₂ or_else (no_notice it.notices first.0 is.rows.notices) (stored_misplaced it.cells first.0 nameless_slot (omega arith) ∙ first.2) in
    let slots : AllByRecursion (λ c. IsSlot c.slot) (durable_cells it) =
    all_weaker (λ c. IsSome (named layout.sites i c.slot)) (λ c. IsSlot c.slot) (λ c some. slot_is layout.sites i c.slot few some) (durable_cells it) (each_of (λ c. IsSome (named layout.sites i c.slot)) (durable_cells it) cells.slots) in
    let none = stored_none IsSlot (durable_cells it) first.0 nameless_slot slots past in
    absurd (let clash : None ≡ Some first.1 = sym none ∙ there in cc)
