-- What is found where a site is started from what a crash left of its store.
use Rattle.std.proofs.Common.{◌≡◌, ◌⊎◌, ◌<◌, ◌≤◌, ℕ, inl, inr, eqb, not, true, cond, List, [], ◌∷◌, refl, sym, ap, subst, Result, ◌∙◌, arith}
use Rattle.std.proofs.lemmas.Bool.{cases_eq, cond-false, eq-eqb}
use Rattle.std.proofs.Math.Logic.{∥∥₁_map}
use Rattle.std.proofs.Math.Nat.{le_refl}
use Rattle.sqlite_trees.specs.declared.store.Store.{Ghosts}
use Rattle.sqlite.specs.Held.{Held}
use Rattle.merge_core.specs.declared.cell.Cell.{Cell}
use Rattle.merge_core.specs.Layout.{IsLayout, LayoutState, at_sites, shape_of}
use Rattle.merge_core.specs.Rows.{start_counter}
use Rattle.admission_model.specs.declared.ask.Call.{Call}
use Rattle.admission_model.specs.declared.durable.DurableCell.{DurableCell}
use Rattle.admission_model.specs.Account.{Account, Origin, begin, start_origin}
use Rattle.admission_model.specs.Durable.{Place, at_slot, kept_cells, places, slots_of, start_slots}
use Rattle.admission_model.specs.Knowledge.{grown, known}
use Rattle.admission_model.specs.Serving.{after}
use Rattle.admission_model.proofs.CounterLemmas.{known_own}
use Rattle.admission_model.proofs.ServingLemmas.{origin_after, sites_after}
use Rattle.admission_model.proofs.StartLemmas.{sound_start}
use Rattle.admission_core.specs.declared.restoring.RestoreError.{RestoreError}
use Rattle.admission_core.specs.Core.{Core}
use Rattle.admission_core.specs.Kept.{DurableState, durable_of}
use Rattle.admission_core.specs.Restored.{IsOwn}
use Rattle.admission_core.proofs.StandsLemmas.{reached_after}
use Rattle.admission_core.proofs.RestoringCores.{own_made}
use Rattle.durable_keeper.specs.Keeping.{nothing_kept}
use Rattle.store_rows.specs.Rows.{Stored}
use Rattle.store_rows.specs.Holding.{Keeps, KeepsNothingOr}
use Rattle.store_content.specs.Content.{durable_in}
use Rattle.site_store.specs.Sql.{KeepsPart}
use Rattle.site_store.specs.Opened.{SettlesOr}
use Rattle.restart_laws.specs.Starting.{LeavesPart, MayStart, Starts}

-- a site whose account may start may also start after a call
may_after : (layout : LayoutState) (a : Account) (call : Call) → MayStart layout a → MayStart layout (after a call)
may_after layout a call may = record {
  is_layout = may.is_layout;
  reached = reached_after a call may.reached;
  same_records = may.same_records ∙ ap (λ (o : Origin). at_sites layout.sites o.layout) (sym (origin_after a call));
  no_fewer = subst (λ (n : ℕ). n ≤ layout.sites) (sym (sites_after a call)) may.no_fewer;
}

-- ---- a site before any operation

-- no place has left its start
none_moved : (values : ℕ → ℕ → ℕ) (ps : List Place) → kept_cells values values ps ≡ []
none_moved values [] = refl
none_moved values (p ∷ ps) =
    let same : eqb (values p.r p.slot) (values p.r p.slot) ≡ true = eq-eqb (values p.r p.slot) (values p.r p.slot) refl in
    cond-false {A = List DurableCell} (not (eqb (values p.r p.slot) (values p.r p.slot))) (record { r = p.r; slot = p.slot; value = values p.r p.slot } ∷ kept_cells values values ps)
    (kept_cells values values ps) (ap not same)
    ∙ none_moved values ps

known_begun : (layout : LayoutState) (i r s : ℕ) (cell : Cell) → known (begin (start_origin layout i)) r s cell ≡ start_counter (shape_of layout) r s cell
known_begun layout i r s cell = at (cases_eq s i)
  where
    at : (s ≡ i) ⊎ (s ≡ i → ⊥) → known (begin (start_origin layout i)) r s cell ≡ start_counter (shape_of layout) r s cell
    at (inl e) = ap (λ (x : ℕ). known (begin (start_origin layout i)) r x cell) e ∙ (known_own (begin (start_origin layout i)) r cell ∙ sym (ap (λ (x : ℕ). start_counter (shape_of layout) r x cell) e))
    at (inr ne) = grind arith

-- a durable part without sessions
abbrev alone : List DurableCell → DurableState
alone cells = record { cells = cells; sessions = [] }

-- so its durable part has nothing in it
nothing_begun : (layout : LayoutState) (i : ℕ) → durable_of (begin (start_origin layout i)) ≡ nothing_kept
nothing_begun layout i =
    let start : ℕ → ℕ → ℕ = start_slots (begin (start_origin layout i)) in
    let values : slots_of (begin (start_origin layout i)) ≡ start = λ k. at_slot layout.sites i (λ r s cell. known_begun layout i r s cell k) in
    ap alone (ap (λ (f : ℕ → ℕ → ℕ). kept_cells start f (places layout)) values ∙ none_moved start (places layout))

-- and it may start under its layout
may_start : (layout : LayoutState) (i : ℕ) → IsLayout layout → i < layout.sites → MayStart layout (begin (start_origin layout i))
may_start layout i is there = record {
  is_layout = is;
  reached = record { from = start_origin layout i; may_begin = sound_start layout i there; steps = []; reached = refl };
  same_records = refl;
  no_fewer = le_refl layout.sites;
}

module _ {S : Type 0} (g : Ghosts S) (layout : LayoutState) (i : ℕ) (c : Held S) (restored : Result Core RestoreError) (starts : Starts g layout i c restored) where
  -- the keeper that was opened keeps the durable part of an account
  own_part : (a : Account) → MayStart layout a → i ≡ a.origin.site → KeepsPart starts.opened (durable_of a) → IsOwn (grown layout.sites a) restored
  own_part a may at keeps =
      own_made layout i starts.found restored may.is_layout starts.answer a may.reached may.same_records may.no_fewer at (starts.finds (durable_of a) keeps starts.honest)

  pub own_kept : (a : Account) (it : Stored) → MayStart layout a → i ≡ a.origin.site → Keeps g c it → durable_in it ≡ durable_of a → IsOwn (grown layout.sites a) restored
  own_kept a it may at keeps part =
      own_part a may at (subst (λ (d : DurableState). KeepsPart starts.opened d) part (starts.stored it keeps))

  pub own_new : (it : Stored) → IsLayout layout → i < layout.sites → durable_in it ≡ nothing_kept → KeepsNothingOr g c it → IsOwn (grown layout.sites (begin (start_origin layout i))) restored
  own_new it is there nothing keeps = own_part (begin (start_origin layout i)) (may_start layout i is there) refl (subst (λ (d : DurableState). KeepsPart starts.opened d) (sym (nothing_begun layout i)) (at (starts.settles_or it keeps)))
    where
      at : SettlesOr it starts.opened → KeepsPart starts.opened nothing_kept
      at (inl kept) = kept
      at (inr kept) = subst (λ (d : DurableState). KeepsPart starts.opened d) nothing kept

  module _ (a b : Account) (may : MayStart layout a) (may_second : MayStart layout b) (at : i ≡ a.origin.site) (at_second : i ≡ b.origin.site) where
    abbrev OwnEither : Type 0
    OwnEither = IsOwn (grown layout.sites a) restored ⊎ IsOwn (grown layout.sites b) restored

    of_part : (d : DurableState) → (d ≡ durable_of a) ⊎ (d ≡ durable_of b) → KeepsPart starts.opened d → OwnEither
    of_part d (inl is) keeps = inl (own_part a may at (subst (λ (x : DurableState). KeepsPart starts.opened x) is keeps))
    of_part d (inr is) keeps = inr (own_part b may_second at_second (subst (λ (x : DurableState). KeepsPart starts.opened x) is keeps))

    pub own_either : (old : LayoutState) (site : List ℕ) → LeavesPart g old site (durable_of a) (durable_of b) c
        → ∥ IsOwn (grown layout.sites a) restored ⊎ IsOwn (grown layout.sites b) restored ∥₁
    own_either old site left = ∥∥₁_map (starts.settles left.first left.second left.left) (λ f. elim f [
      | inl p ↦ of_part (durable_in left.first) left.is_first.part p
      | inr p ↦ of_part (durable_in left.second) left.is_second.part p
    ])

  -- before a call and after it
  pub own_in_doubt : (a : Account) (call : Call) → MayStart layout a → i ≡ a.origin.site → (old : LayoutState) (site : List ℕ)
      → LeavesPart g old site (durable_of a) (durable_of (after a call)) c
      → ∥ IsOwn (grown layout.sites a) restored ⊎ IsOwn (grown layout.sites (after a call)) restored ∥₁
  own_in_doubt a call may at = own_either a (after a call) may (may_after layout a call may) at (at ∙ ap (λ (o : Origin). o.site) (sym (origin_after a call)))
