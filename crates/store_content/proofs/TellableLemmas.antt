-- A change that a keeper may be told is one that rows can tell.
use Rattle.std.proofs.Common.{◌≡◌, ◌≢◌, ◌⊎◌, inl, inr, ℕ, ◌-◌, ◌<◌, ◌≤◌, Bool, true, false, ◌&&◌, not, eqb, cond, ltb, length, Option, Some, None, is_some, IsSome, refl, sym, ap, ◌∙◌, arith}
use Rattle.std.proofs.lemmas.Bool.{cases_lt, cond-true, cond-false, lt-ltb, le-ltb, true≢false}
use Rattle.merge_core.specs.declared.cell.Cell.{Cell}
use Rattle.merge_core.specs.declared.cell.Cell.TheVariants.{Ann, Fin}
use Rattle.merge_core.specs.Layout.{LayoutState, Shape, shape_of}
use Rattle.merge_core.specs.Rows.{start_counter}
use Rattle.admission_model.specs.declared.durable.DurableCell.{DurableCell}
use Rattle.admission_model.specs.Durable.{Named, at_slot, counter_named, named, of_other}
use Rattle.admission_model.proofs.SlotLemmas.{high_slot, of_other-no}
use Rattle.admission_core.specs.declared.change.SessionChange.{SessionChange}
use Rattle.admission_core.specs.declared.change.SessionChange.TheVariants as changes
use Rattle.admission_core.specs.Kept.{ChangeState}
use Rattle.admission_core.specs.Restored.{IsListed}
use Rattle.durable_keeper.specs.Keeping.{IsChange, IsSessionChange, most_kept}
use Rattle.store_content.specs.Plan.{IsCell, IsHeld, IsSlot, IsTellable}

low_or_high : (slot : ℕ) (sites i : ℕ) → 300 ≤ slot → (named sites i slot ≡ of_other sites i (slot - 300) Ann) × (slot < 400) ⊎ ((named sites i slot ≡ of_other sites i (slot - 400) Fin) × (400 ≤ slot))
low_or_high slot sites i high = elim (cases_lt slot 400) [
  | inl a ↦ inl (high_slot sites i slot high ∙ cond-true (ltb slot 400) _ _ (lt-ltb slot 400 a), a)
  | inr a ↦ inr (high_slot sites i slot high ∙ cond-false (ltb slot 400) _ _ (le-ltb slot 400 a), a)
]

-- another site that a slot names is one of the sites
of_some : (sites i j : ℕ) (cell : Cell) (o : Option Named) → o ≡ of_other sites i j cell → IsSome o → j < sites
of_some sites i j cell o e some = elim (cases_lt j sites) [
  | inl low ↦ low
  | inr high ↦ absurd (true≢false (sym (sym (ap is_some (e ∙ of_other-no sites i j cell high)) ∙ some)))
]

pub slot_is : (sites i slot : ℕ) → sites ≤ 16 → IsSome (named sites i slot) → IsSlot slot
slot_is sites i slot few some = elim (cases_lt slot 300) [
  | inl low ↦ inl low
  | inr high ↦ elim (low_or_high slot sites i high) [
    | inl a ↦ let there = of_some sites i (slot - 300) Ann (named sites i slot) a.0 some in inr (inl (high, omega arith))
    | inr a ↦ let there = of_some sites i (slot - 400) Fin (named sites i slot) a.0 some in let past : 400 ≤ slot = a.1 in inr (inr (past, omega arith))
  ]
]

-- the counters of notices begin at 0
start_announced : (shape : Shape) (sites i j r : ℕ) → counter_named (start_counter shape) r (of_other sites i j Ann) ≡ 0
start_announced shape sites i j r = by (ltb j sites && not (eqb j i))
  where
    by : (b : Bool) → counter_named (start_counter shape) r (cond b (Some (record { s = j; cell = Ann })) None) ≡ 0
    by true = refl
    by false = refl

start_finished : (shape : Shape) (sites i j r : ℕ) → counter_named (start_counter shape) r (of_other sites i j Fin) ≡ 0
start_finished shape sites i j r = by (ltb j sites && not (eqb j i))
  where
    by : (b : Bool) → counter_named (start_counter shape) r (cond b (Some (record { s = j; cell = Fin })) None) ≡ 0
    by true = refl
    by false = refl

start_none : (shape : Shape) (sites i r slot : ℕ) → 300 ≤ slot → at_slot sites i (start_counter shape) r slot ≡ 0
start_none shape sites i r slot high = elim (low_or_high slot sites i high) [
  | inl a ↦ ap (counter_named (start_counter shape) r) a.0 ∙ start_announced shape sites i (slot - 300) r
  | inr a ↦ ap (counter_named (start_counter shape) r) a.0 ∙ start_finished shape sites i (slot - 400) r
]

cell_is : (layout : LayoutState) (i : ℕ) (c : DurableCell) → layout.sites ≤ 16 → length layout.records ≤ 256 → IsListed layout i c → c.value ≤ most_kept → IsCell c
cell_is layout i c few short listed small = record {
  record_fits = let there : c.r < length layout.records = listed.record_there in omega arith;
  slot = slot_is layout.sites i c.slot few listed.slot_there;
  moved = λ high. let begins = start_none (shape_of layout) layout.sites i c.r c.slot high in let other : c.value ≢ 0 = λ e. listed.moved (e ∙ sym begins) in omega arith;
  small = small;
}

held_is : (layout : LayoutState) (c : Option SessionChange) → length layout.records ≤ 256 → IsSessionChange layout c → IsHeld c
held_is layout None short is = tt
held_is layout (Some (changes.Put s)) short is = let there : s.r < length layout.records = is.0 in (omega arith, is.1)
held_is layout (Some (changes.Removed s)) short is = let there : s.r < length layout.records = is.0 in (omega arith, is.1)

pub tellable : (layout : LayoutState) (i : ℕ) (c : ChangeState) → layout.sites ≤ 16 → length layout.records ≤ 256 → IsChange layout i c → IsTellable c
tellable layout i c few short is = record {
  rising = is.rising;
  cells = λ k d below. cell_is layout i _ few short (is.listed k d below) (is.small k d below);
  held = held_is layout c.session short is.session;
}
