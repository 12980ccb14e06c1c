-- The mark of an outdated store, and how its refusals are told.
use Rattle.std.proofs.Common.{◌≡◌, ℕ, Bool, inl, inr, refl, List, Option}
use Rattle.merge_core.specs.Layout.{LayoutState}
use Rattle.store_rows.specs.Rows.{Stored}
use Rattle.site_store.specs.declared.error.StoreOpenError.{StoreOpenError}
use Rattle.site_store.specs.declared.error.StoreOpenError.TheVariants as opening
use Rattle.site_store.specs.declared.error.ServedError.TheVariants as served
use Rattle.site_store.specs.Errors.{marked_error, served_error}
use Rattle.site_store.specs.Opened.{IsCause}
use Rattle.site_store.specs.Served.{IsContentCause, IsHeldRefusal}

pub not_marked : (o : StoreOpenError) → served_error o ≡ served.Outdated → ⊥
not_marked opening.BadStore is = absurd (cc)
not_marked opening.WrongSite is = absurd (cc)
not_marked opening.WrongGroup is = absurd (cc)
not_marked opening.WrongLayout is = absurd (cc)
not_marked opening.StoreFault is = absurd (cc)
not_marked opening.Memory is = absurd (cc)

pub memory_unmarked : served.Memory ≡ served.Outdated → ⊥
memory_unmarked is = absurd (cc)

pub bad_unmarked : served.BadStore ≡ served.Outdated → ⊥
bad_unmarked is = absurd (cc)

pub mark_is_none : served.Outdated ≡ served.StoreFault → ⊥
mark_is_none is = absurd (cc)

pub marked_held : (o : StoreOpenError) → IsHeldRefusal (marked_error o)
marked_held opening.BadStore = inl (opening.BadStore, refl)
marked_held opening.WrongSite = inl (opening.WrongSite, refl)
marked_held opening.WrongGroup = inl (opening.WrongGroup, refl)
marked_held opening.WrongLayout = inr refl
marked_held opening.StoreFault = inl (opening.StoreFault, refl)
marked_held opening.Memory = inl (opening.Memory, refl)

pub marked_fault : (o : StoreOpenError) → marked_error o ≡ served.StoreFault → o ≡ opening.StoreFault
marked_fault opening.BadStore is = absurd (cc)
marked_fault opening.WrongSite is = absurd (cc)
marked_fault opening.WrongGroup is = absurd (cc)
marked_fault opening.WrongLayout is = absurd (cc)
marked_fault opening.StoreFault is = refl
marked_fault opening.Memory is = absurd (cc)

pub marked_cause : (grow : Bool) (layout : LayoutState) (i : ℕ) (group : Option (List ℕ)) (it : Stored) (o : StoreOpenError) → IsCause layout i group it o → IsContentCause grow layout i group it (marked_error o)
marked_cause grow layout i group it opening.BadStore cause = cause
marked_cause grow layout i group it opening.WrongSite cause = cause
marked_cause grow layout i group it opening.WrongGroup cause = cause
marked_cause grow layout i group it opening.WrongLayout cause = (cause.0, cause.1.0)
marked_cause grow layout i group it opening.StoreFault cause = tt
marked_cause grow layout i group it opening.Memory cause = tt
