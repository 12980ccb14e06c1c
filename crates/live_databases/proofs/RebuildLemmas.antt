-- What the making of a store says of one that is made anew.
use Rattle.std.proofs.Common.{◌≡◌, ◌≢◌, ℕ, List, Some, Result, Ok, Err, OnOk, IfOk, refl, sym, subst}
use Rattle.std.specs.Prelude.{IfErr}
use Rattle.sqlite_trees.specs.declared.store.Store.{Ghosts as Device}
use Rattle.sqlite.specs.State.{HasCleanDisk}
use Rattle.sqlite.specs.Held.{Held, state}
use Rattle.merge_core.specs.Layout.{LayoutState}
use Rattle.admission_model.specs.declared.durable.DurableCell.{DurableCell}
use Rattle.store_rows.specs.Rows.{Stored}
use Rattle.store_rows.specs.Holding.{Keeps, KeepsNothing}
use Rattle.site_store.specs.declared.error.ServedError.{ServedError}
use Rattle.site_store.specs.Making.{IsLeftNew, IsNew, new_content, to_make}
use Rattle.site_store.specs.declared.error.ServedError.TheVariants.{Memory, StoreFault}
use Rattle.site_store.specs.Opened.{CommitsNothing}
use Rattle.site_store.specs.Served.{IsDenied, IsPermitted}
use Rattle.live_databases.specs.declared.service_end.ServiceEnd.{ServiceEnd}
use Rattle.live_databases.specs.Endings.{refused_store}
use Rattle.live_databases.specs.Rebuilds.{HasMadeAnew, HasNotMadeAnew}

module _ {S : Type 0} (g : Device S) (layout own : LayoutState) (i : ℕ) (name : List ℕ) (cells : List DurableCell) (c after : Held S) (same : own ≡ layout) where
  pub has_made : (r : Result (Unit {0}) ServedError) (u : Unit {0}) → r ≡ Ok u
      → (KeepsNothing g c → OnOk r (Keeps g after (new_content own i (Some name) cells))) → IsNew own i (Some name) cells
      → ((it : Stored) → Keeps g c it → HasCleanDisk (state g after) → IfOk r (λ _. ⊥))
      → (HasCleanDisk (state g after) → OnOk r (IsPermitted to_make (state g c).now.schema)) → HasMadeAnew g layout i name cells c after
  has_made (Ok v) u is made is_new never blank = record {
    is_new = subst (λ (l : LayoutState). IsNew l i (Some name) cells) same is_new;
    made = λ none. subst (λ (l : LayoutState). Keeps g after (new_content l i (Some name) cells)) same (made none);
    never = never;
    blank = blank;
  }
  has_made (Err e) u is made is_new never blank = absurd (cc)

  pub has_not_made : (r : Result (Unit {0}) ServedError) (error : ServedError) (ended : ServiceEnd) → r ≡ Err error → ended ≡ refused_store error
      → ((it : Stored) → Keeps g c it → Keeps g after it) → (KeepsNothing g c → IfErr r (IsLeftNew g own i (Some name) cells after))
      → (HasCleanDisk (state g after) → IfErr r (IsDenied to_make (state g c).now.schema)) → IfErr r (λ e. e ≢ StoreFault → e ≢ Memory → CommitsNothing g c after)
      → HasNotMadeAnew g layout i name cells c after ended
  has_not_made r error ended is ends there left cause judged = record {
    error = error;
    is_ended = ends;
    there = there;
    left = λ none. subst (λ (l : LayoutState). IsLeftNew g l i (Some name) cells after error) same
        (subst (λ (x : Result (Unit {0}) ServedError). IfErr x (IsLeftNew g own i (Some name) cells after)) is (left none));
    cause = λ clean. subst (λ (x : Result (Unit {0}) ServedError). IfErr x (IsDenied to_make (state g c).now.schema)) is (cause clean);
    judged = subst (λ (x : Result (Unit {0}) ServedError). IfErr x (λ e. e ≢ StoreFault → e ≢ Memory → CommitsNothing g c after)) is judged;
  }
