-- Every account of a reached world is one that steps lead to.
use Rattle.std.proofs.Common.{◌≡◌, ℕ, ◌<◌, ◌⊎◌, inl, inr, ltb, List, [], ◌∷◌, length, Option, Some, None, refl, sym, ap, subst, arith}
use Rattle.std.specs.Prelude.{slice_get}
use Rattle.std.proofs.lemmas.List.{length-set}
use Rattle.std.proofs.lemmas.Bool.{cases_eq, cond_both, cond-true, ltb-true, le-leb}
use Rattle.merge_core.specs.Delta.{DeltaState}
use Rattle.merge_core.specs.Layout.{LayoutState, IsLayout}
use Rattle.admission_model.specs.declared.ask.Call.TheVariants.{Ask as AskCall, Merge}
use Rattle.admission_model.specs.Account.{Account, begin, start_origin}
use Rattle.admission_model.specs.Knowledge.{grown, restarted}
use Rattle.admission_model.specs.Serving.{Step, Serves, Restarts, Grows, after, after_step}
use Rattle.admission_model.specs.Reached.{IsReached}
use Rattle.admission_model.proofs.StartLemmas.{sound_start}
use Rattle.multi_site_world.specs.declared.event.Event.{Event}
use Rattle.multi_site_world.specs.declared.event.Event.TheVariants.{Call, Send, Take, Thin, Restart, Grow}
use Rattle.multi_site_world.specs.World.{World, account_at, with_account, first_layout, start_world, world_taken, thin_message, world_here, place_of, happens, run}
use Rattle.multi_site_world.specs.Laws.{IsReachedWorld}
use Rattle.multi_site_world.proofs.WorldLemmas.{same_account, other_account}
use Rattle.multi_site_world.proofs.EventLemmas.{account_in, is_first, sound_start_world, sound_reached}

pub reached_step : (a : Account) (step : Step) → IsReached a → IsReached (after_step a step)
reached_step a step is = record {
  from = is.from;
  may_begin = is.may_begin;
  steps = step ∷ is.steps;
  reached = ap (λ b. after_step b step) is.reached;
}

-- all accounts of a world
unfoldable pub AllReached : World → Type 0
AllReached w = (i : ℕ) → i < length w.sites → IsReached (account_at w i)

pub reached_with : (w : World) (j : ℕ) (a : Account) → length (with_account w j a).sites ≡ length w.sites → j < length w.sites → AllReached w → IsReached a → AllReached (with_account w j a)
unfolding AllReached
reached_with w j a same below all is i there = at (cases_eq i j)
  where
    at : (i ≡ j) ⊎ (i ≡ j → ⊥) → IsReached (account_at (with_account w j a) i)
    at (inl e) = subst (λ (x : ℕ). IsReached (account_at (with_account w j a) x)) (sym e) (subst IsReached (sym (same_account w j a below)) is)
    at (inr ne) = subst IsReached (sym (other_account w j i a ne)) (all i (omega (arith, there, same)))

taken_reached : (w : World) (j : ℕ) (o : Option DeltaState) → j < length w.sites → AllReached w → AllReached (world_taken w j o)
unfolding AllReached
taken_reached w j None below all = all
taken_reached w j (Some delta) below all =
    reached_with w j (after (account_at w j) (Merge delta)) (length-set w.sites j _) below all (reached_step (account_at w j) (Serves (Merge delta)) (all j below))

here_reached : (w : World) (event : Event) → place_of event < length w.sites → AllReached w → AllReached (world_here w event)
unfolding AllReached
here_reached w (Call j ask) below all =
    reached_with w j (after (account_at w j) (AskCall ask)) (length-set w.sites j _) below all (reached_step (account_at w j) (Serves (AskCall ask)) (all j below))
here_reached w (Send j) below all = all
here_reached w (Take j k) below all = taken_reached w j (slice_get w.sent k) below all
here_reached w (Thin j k l) below all = taken_reached w j (thin_message (slice_get w.sent k) (slice_get w.sent l)) below all
here_reached w (Restart j) below all =
    reached_with w j (restarted (account_at w j)) (length-set w.sites j _) below all (reached_step (account_at w j) Restarts (all j below))
here_reached w (Grow j) below all =
    cond_both (ltb (account_at w j).sites w.layout.sites) (with_account w j (grown w.layout.sites (account_at w j))) w AllReached
    (λ e. reached_with w j (grown w.layout.sites (account_at w j)) (length-set w.sites j _) below all (grows (ltb-true (account_at w j).sites w.layout.sites e)))
    (λ e. all)
  where
    grows : (account_at w j).sites < w.layout.sites → IsReached (grown w.layout.sites (account_at w j))
    grows more =
        subst IsReached (cond-true _ (grown w.layout.sites (account_at w j)) (account_at w j) (le-leb (account_at w j).sites w.layout.sites (omega arith)))
        (reached_step (account_at w j) (Grows w.layout.sites) (all j below))

happens_reached : (w : World) (event : Event) → AllReached w → AllReached (happens w event)
unfolding AllReached
happens_reached w event all =
    cond_both (ltb (place_of event) (length w.sites)) (world_here w event) w AllReached
    (λ e. here_reached w event (ltb-true (place_of event) (length w.sites) e) all) (λ e. all)

pub run_reached : (events : List Event) (w : World) → AllReached w → AllReached (run events w)
unfolding AllReached
run_reached [] w all = all
run_reached (event ∷ events) w all = run_reached events (happens w event) (happens_reached w event all)

start_reached : (first : ℕ) (layout : LayoutState) → IsLayout layout → AllReached (start_world first layout)
unfolding AllReached
start_reached first layout is i there =
    let below : i < layout.sites = omega (arith, there, (sound_start_world first layout is).number) in
    subst IsReached (sym (account_in first layout layout.sites i (begin (start_origin layout i)) below))
    (record {
      from = start_origin (first_layout first layout i) i;
      may_begin = sound_start (first_layout first layout i) i (is_first first layout i below).site_there;
      steps = [];
      reached = refl;
    })

pub all_reached : (w : World) → IsReachedWorld w → (i : ℕ) → i < w.layout.sites → IsReached (account_at w i)
unfolding AllReached
all_reached w is i below =
    let sound = sound_reached w is in
    let all = run_reached is.events (start_world is.first is.whole) (start_reached is.first is.whole is.is_layout) in
    subst AllReached (sym is.reached) all i (omega (arith, below, sound.number))
