-- Where the counter of seats taken is too full for a writer, none ever enters.
use Rattle.std.proofs.Common.{◌≡◌, ◌≢◌, ℕ, ◌+◌, ◌<◌, ◌≤◌, ◌⊎◌, inl, inr, ltb, List, [], ◌∷◌, length, Option, Some, None, sym, ap, subst, ◌∙◌, arith}
use Rattle.std.specs.Prelude.{slice_get}
use Rattle.std.proofs.lemmas.Bool.{cases_eq, ltb-true, ltb-false, cond_both}
use Rattle.merge_core.specs.Counts.{counter_limit}
use Rattle.merge_core.specs.declared.cell.Cell.{Cell}
use Rattle.merge_core.specs.declared.cell.Cell.TheVariants.{Taken}
use Rattle.merge_core.specs.Delta.{DeltaState}
use Rattle.merge_core.specs.Layout.{LayoutState}
use Rattle.admission_model.specs.declared.ask.Ask.TheVariants.{Quill}
use Rattle.admission_model.specs.declared.ask.Call.TheVariants.{Ask as AskCall, Merge}
use Rattle.admission_model.specs.declared.reply.Reply.TheVariants.{Admitted}
use Rattle.admission_model.specs.Account.{Account, seats_in, own}
use Rattle.admission_model.specs.Knowledge.{known, grown, restarted}
use Rattle.admission_model.specs.View.{view_of}
use Rattle.admission_model.specs.Replies.{write_lines}
use Rattle.admission_model.specs.Serving.{reply_of, replied, after}
use Rattle.admission_model.proofs.CounterLemmas.{known_own}
use Rattle.admission_model.proofs.ServingLemmas.{Clear, first_both}
use Rattle.multi_site_world.specs.declared.event.Event.{Event}
use Rattle.multi_site_world.specs.declared.event.Event.TheVariants.{Call, Send, Take, Thin, Restart, Grow}
use Rattle.multi_site_world.specs.declared.event.WorldReply.TheVariants.{Core}
use Rattle.multi_site_world.specs.World.{World, account_at, with_account, world_taken, thin_message, world_here, place_of, happens, world_reply, run}
use Rattle.rebuild_laws.specs.Groups.{IsRebuiltWorld}
use Rattle.multi_site_world.proofs.FamilyLemmas.{same_seats}
use Rattle.multi_site_world.proofs.WorldLemmas.{IsSoundWorld, own_grows, same_account, other_account}
use Rattle.multi_site_world.proofs.EventLemmas.{sound_run}
use Rattle.rebuild_laws.proofs.RebuildLaw.{sound_rebuilt_world}
use Rattle.multi_site_world.proofs.LawLemmas.{run_layout, reply_there}
use Rattle.fencing_laws.proofs.EnterLemmas.{same_core}

-- no event takes from a site's own counters
own_stays : (w : World) (event : Event) (i r : ℕ) (cell : Cell) → own (account_at w i) r cell ≤ own (account_at (happens w event) i) r cell
own_stays w event i r cell =
    cond_both (ltb (place_of event) (length w.sites)) (world_here w event) w (λ u. own (account_at w i) r cell ≤ own (account_at u i) r cell)
    (λ e. here event (ltb-true (place_of event) (length w.sites) e)) (λ e. omega arith)
  where
    Grows : Account → Account → Type 0
    Grows = λ a b. own a r cell ≤ own b r cell

    with_b : (j : ℕ) (b : Account) → j < length w.sites → own (account_at w j) r cell ≤ own b r cell → own (account_at w i) r cell ≤ own (account_at (with_account w j b) i) r cell
    with_b j b below more = at (cases_eq i j)
      where
        at : (i ≡ j) ⊎ (i ≡ j → ⊥) → own (account_at w i) r cell ≤ own (account_at (with_account w j b) i) r cell
        at (inl e) =
            subst (λ (x : ℕ). own (account_at w x) r cell ≤ own (account_at (with_account w j b) x) r cell) (sym e)
            (omega (arith, more, ap (λ a. own a r cell) (same_account w j b below)))
        at (inr ne) = omega (arith, ap (λ a. own a r cell) (other_account w j i b ne))

    taken : (j : ℕ) (o : Option DeltaState) → j < length w.sites → own (account_at w i) r cell ≤ own (account_at (world_taken w j o) i) r cell
    taken j None below = omega arith
    taken j (Some delta) below = with_b j (after (account_at w j) (Merge delta)) below (own_grows (account_at w j) (Merge delta) r cell)

    here : (event : Event) → place_of event < length w.sites → own (account_at w i) r cell ≤ own (account_at (world_here w event) i) r cell
    here (Call j ask) below = with_b j (after (account_at w j) (AskCall ask)) below (own_grows (account_at w j) (AskCall ask) r cell)
    here (Send j) below = omega arith
    here (Take j k) below = taken j (slice_get w.sent k) below
    here (Thin j k l) below = taken j (thin_message (slice_get w.sent k) (slice_get w.sent l)) below
    here (Restart j) below = with_b j (restarted (account_at w j)) below (omega arith)
    here (Grow j) below =
        cond_both (ltb (account_at w j).sites w.layout.sites) (with_account w j (grown w.layout.sites (account_at w j))) w (λ u. own (account_at w i) r cell ≤ own (account_at u i) r cell)
        (λ e. with_b j (grown w.layout.sites (account_at w j)) below (omega arith)) (λ e. omega arith)

own_run : (events : List Event) (w : World) (i r : ℕ) (cell : Cell) → own (account_at w i) r cell ≤ own (account_at (run events w) i) r cell
own_run [] w i r cell = omega arith
own_run (event ∷ events) w i r cell = omega (arith, own_stays w event i r cell, own_run events (happens w event) i r cell)

-- where the counter of seats taken is too full for a writer, none enters
pub never_enters : (u : World) → IsRebuiltWorld u → (r w h : ℕ) → w < u.layout.sites → counter_limit < own (account_at u w) r Taken + seats_in u.layout r → (events : List Event) → world_reply (run events u) (Call w (Quill r h)) ≢ Core Admitted
never_enters u reached r w h below full events admitted =
    first_both (λ o. replied o Admitted ≡ Admitted → ⊥) (write_lines (view_of a) r h) (λ x e. cc) too_full
    (same_core (reply_of (view_of a) (AskCall (Quill r h))) Admitted (sym (reply_there v (Call w (Quill r h)) sound below_v) ∙ admitted))
  where
    v : World
    v = run events u

    a : Account
    a = account_at (run events u) w

    sound : IsSoundWorld (run events u)
    sound = sound_run events u (sound_rebuilt_world u reached)

    layout : (run events u).layout ≡ u.layout
    layout = run_layout events u

    below_v : w < (run events u).layout.sites
    below_v = omega (arith, below, ap (λ (l : LayoutState). l.sites) layout)

    too_full : Clear (write_lines (view_of (account_at (run events u) w)) r h) → Admitted ≡ Admitted → ⊥
    too_full clear e =
        absurd (omega (
          arith,
          full,
          own_run events u w r Taken,
          ltb-false counter_limit (known a r a.origin.site Taken + seats_in a.origin.layout r) clear.1.1.1.1.0,
          known_own a r Taken,
          same_seats a.origin.layout v.layout (sound.family.same_records w below_v) r,
          ap (λ (l : LayoutState). seats_in l r) layout,
        ))
