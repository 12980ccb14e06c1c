-- What worlds promise in which lost sites were built again.
use Rattle.std.proofs.Common.{◌≡◌, ◌≢◌, ℕ, ◌<◌, ◌≤◌, ◌⊎◌, inl, inr, Bool, true, false, not, eqb, List, [], ◌∷◌, ◌++◌, length, refl, sym, ap, subst, ◌∙◌, arith}
use Rattle.std.specs.List.{AllByRecursion}
use Rattle.std.proofs.lemmas.List.{length-set}
use Rattle.std.proofs.lemmas.Bool.{cases_Bool, eq-eqb, and_parts, false≢true}
use Rattle.merge_core.specs.declared.cell.Cell.{Cell}
use Rattle.merge_core.specs.declared.cell.Cell.TheVariants.{Out, Taken}
use Rattle.merge_core.specs.Delta.{DeltaState}
use Rattle.merge_core.specs.Rows.{grant}
use Rattle.merge_core.specs.Check.{IsChecked}
use Rattle.merge_core.specs.Layout.{LayoutState, shape_of, at_sites}
use Rattle.admission_model.specs.Account.{begin}
use Rattle.admission_model.specs.Knowledge.{known}
use Rattle.admission_model.specs.Laws.{SourcesAgree}
use Rattle.admission_model.specs.Reached.{IsReached}
use Rattle.admission_model.specs.Serving.{Restarts}
use Rattle.admission_model.specs.Sound.{IsOrigin}
use Rattle.admission_model.proofs.OrderLemmas.{move_all}
use Rattle.admission_model.proofs.UnitLemmas.{equal_counters}
use Rattle.multi_site_world.specs.declared.event.Event.{Event}
use Rattle.multi_site_world.specs.declared.event.Event.TheVariants.{Take}
use Rattle.multi_site_world.specs.World.{World, account_at, with_account, place_of, run, world_reply}
use Rattle.multi_site_world.specs.Laws.{IsReachedWorld, IsConserved, IsWriterAlone, IsMergedReply, KnowsAllSites}
use Rattle.rebuild_laws.specs.Groups.{told_most, IsSentDelta, IsTeller, Losing, IsSettled, lost_alone, left_origin, new_group, rebuilt_origin, CanSpare, Stage, Loss, world_waiting, world_rebuilt, after_stages, silent_but, still_silent, MayRebuild, AreStages, MayMove, MayLose, world_settled, world_after, after_losses, AreRebuilt, IsRebuiltWorld}
use Rattle.multi_site_world.proofs.FamilyLemmas.{conserved, writer_alone}
use Rattle.multi_site_world.proofs.WorldLemmas.{IsSoundWorld, other_account}
use Rattle.multi_site_world.proofs.EventLemmas.{sound_run, sound_reached}
use Rattle.multi_site_world.proofs.LawLemmas.{sent_before, merged}
use Rattle.multi_site_world.proofs.ReachedLemmas.{AllReached, reached_step, reached_with, run_reached, all_reached}
use Rattle.rebuild_laws.proofs.GroupLemmas.{sound_left, sound_group, settled_alone, spares_alone, moved_lost, moved_other}
use Rattle.rebuild_laws.proofs.TellingLemmas.{run_append, later_run, later_start, later_with, run_silent}
use Rattle.rebuild_laws.proofs.RebuildLemmas.{IsStage, row_told, row_shown, sound_rebuilt, begins_rebuilt, idle_begins, more_rebuilt, checked_rebuilt}
use Rattle.rebuild_laws.proofs.IdleLemmas.{IsIdle}

-- a sound world conserves seats, and a writer in it is alone
conserved_in : (w : World) → IsSoundWorld w → (r : ℕ) → IsConserved w r
conserved_in w sound r = record {
  seats = conserved w.layout (account_at w) r sound.layout sound.family (sent_before w r sound);
  never_below = λ i below. ((sound.family.sound i below).balanced r).affordable;
}

pub alone_in : (w : World) → IsSoundWorld w → (r : ℕ) → IsWriterAlone (account_at w) w.layout.sites r
alone_in w sound r = writer_alone w.layout (account_at w) r sound.layout sound.family (sent_before w r sound)

module _ (w : World) (l : Losing) (n : ℕ) (sound : IsSoundWorld w) (moves : MayMove w l n) where
  low : (i : ℕ) → l.gone i ≡ true → i < w.layout.sites
  low i e = omega (arith, moves.lost_there i e, moves.few)

  past_left : (i : ℕ) → n ≤ i → (l.gone i ≡ true) ⊎ (l.gone i ≡ false) → l.gone i ≡ false
  past_left i past (inl e) = absurd (omega (arith, moves.lost_there i e))
  past_left i past (inr e) = e

  pub first_stage : IsStage w l n l.gone (new_group w l)
  first_stage = record {
    sound = sound_group w l sound low moves.settled moves.can_spare;
    later = later_start l.gone (new_group w l) refl;
    silent_gone = λ i e. e;
    is_silent = λ i below e. moved_lost w l i below e;
    quiet = λ i past below. moved_other w l i below (past_left i past (cases_Bool (l.gone i)));
  }

  module _ (silent : ℕ → Bool) (v : World) (at_stage : IsStage w l n silent v) (stage : Stage) (may : MayRebuild l.gone n silent v stage) where
    there : stage.lost < w.layout.sites
    there = omega (arith, may.there, moves.few)

    -- .. before the next one is built again
    pub stage_waiting : IsStage w l n silent (world_waiting v stage)
    stage_waiting = record {
      sound = sound_run stage.waiting v at_stage.sound;
      later = later_run l.gone (new_group w l) stage.waiting v at_stage.sound at_stage.later;
      silent_gone = at_stage.silent_gone;
      is_silent = λ i below e.
          run_silent i stage.waiting v
          (move_all (λ event. (place_of event < n) × (silent (place_of event) ≡ false)) (λ event. place_of event ≢ i) (λ event it same. false≢true (sym it.1 ∙ (ap silent same ∙ e))) stage.waiting may.quiet)
          ∙ at_stage.is_silent i below e;
      quiet = λ i past below.
          run_silent i stage.waiting v
          (move_all (λ event. (place_of event < n) × (silent (place_of event) ≡ false)) (λ event. place_of event ≢ i) (λ event it same. absurd (omega (arith, it.0))) stage.waiting may.quiet)
          ∙ at_stage.quiet i past below;
    }

    pub stage_sound : IsSoundWorld (with_account (world_waiting v stage) stage.lost (begin (rebuilt_origin (at_sites n w.layout) l.settled stage.lost stage.told)))
    stage_sound =
        sound_rebuilt w l n sound moves silent (world_waiting v stage) stage_waiting stage.lost may.was_silent stage.told may.none_more may.told

    pub stage_begins : IsOrigin (rebuilt_origin (at_sites n w.layout) l.settled stage.lost stage.told)
    stage_begins =
        begins_rebuilt w l n sound moves silent (world_waiting v stage) stage_waiting stage.lost may.was_silent stage.told may.none_more may.told

    pub stage_idle : IsIdle (at_sites n w.layout) stage.lost (rebuilt_origin (at_sites n w.layout) l.settled stage.lost stage.told).base.counters
    stage_idle =
        idle_begins w l n sound moves silent (world_waiting v stage) stage_waiting stage.lost may.was_silent stage.told may.none_more may.told

    -- nothing that is told of it shows that it acted
    pub stage_told : (r : ℕ) → (told_most (shape_of (at_sites n w.layout)) stage.told r stage.lost Taken ≡ 0) × ((told_most (shape_of (at_sites n w.layout)) stage.told r stage.lost (Out stage.lost) ≤ grant (shape_of w.layout) r stage.lost) × ((j : ℕ) → l.gone j ≡ true → j ≢ stage.lost → told_most (shape_of (at_sites n w.layout)) stage.told r stage.lost (Out j) ≤ l.settled r stage.lost j))
    stage_told =
        row_told w l n sound moves silent (world_waiting v stage) stage_waiting stage.lost may.was_silent stage.told may.none_more may.told

    pub stage_shown : (xs : List DeltaState) → AllByRecursion (IsSentDelta (world_waiting v stage).sent) xs → (j : ℕ) → j < n → l.gone j ≡ false → IsTeller j xs → (r : ℕ) → told_most (shape_of (at_sites n w.layout)) stage.told r stage.lost (Out j) ≤ told_most (shape_of (at_sites n w.layout)) xs r stage.lost (Out j)
    stage_shown =
        row_shown w l n sound moves silent (world_waiting v stage) stage_waiting stage.lost may.was_silent stage.told may.none_more may.told

    pub stage_checked : AllByRecursion (λ m. IsChecked (shape_of (at_sites n w.layout)) m.rows) stage.told
    stage_checked =
        checked_rebuilt w l n sound moves silent (world_waiting v stage) stage_waiting stage.lost may.was_silent stage.told may.none_more may.told

    number_there : stage.lost < length (world_waiting v stage).sites
    number_there =
        omega (arith, there, stage_waiting.sound.number, ap (λ (x : LayoutState). x.sites) stage_waiting.later.same_layout)

    pub next_stage : IsStage w l n (silent_but stage.lost silent) (world_rebuilt (at_sites n w.layout) l.settled v stage)
    next_stage = record {
      sound = stage_sound;
      later = later_with l.gone (new_group w l) (world_waiting v stage) stage.lost (begin (rebuilt_origin (at_sites n w.layout) l.settled stage.lost stage.told)) may.is_lost number_there
          (more_rebuilt w l n sound moves silent (world_waiting v stage) stage_waiting stage.lost may.was_silent stage.told may.none_more may.told) stage_waiting.later;
      silent_gone = λ i e. at_stage.silent_gone i (and_parts (silent i) (not (eqb i stage.lost)) e).0;
      is_silent = λ i below e.
          let parts = and_parts (silent i) (not (eqb i stage.lost)) e in
          other_account (world_waiting v stage) stage.lost i (begin (rebuilt_origin (at_sites n w.layout) l.settled stage.lost stage.told)) (not_same i parts.1)
          ∙ stage_waiting.is_silent i below parts.0;
      quiet = λ i past below.
          other_account (world_waiting v stage) stage.lost i (begin (rebuilt_origin (at_sites n w.layout) l.settled stage.lost stage.told)) (λ e. absurd (omega (arith, may.there)))
          ∙ stage_waiting.quiet i past below;
    }
      where
        not_same : (i : ℕ) → not (eqb i stage.lost) ≡ true → i ≢ stage.lost
        not_same i e same = false≢true (sym (ap not (eq-eqb i stage.lost same)) ∙ e)

    -- the accounts are ones that steps lead to
    pub stage_reached : AllReached v → AllReached (world_rebuilt (at_sites n w.layout) l.settled v stage)
    stage_reached all =
        reached_with (world_waiting v stage) stage.lost (begin (rebuilt_origin (at_sites n w.layout) l.settled stage.lost stage.told))
        (length-set (world_waiting v stage).sites stage.lost (begin (rebuilt_origin (at_sites n w.layout) l.settled stage.lost stage.told)))
        number_there
        (run_reached stage.waiting v all)
        (record { from = rebuilt_origin (at_sites n w.layout) l.settled stage.lost stage.told; may_begin = stage_begins; steps = []; reached = refl })

  pub later_stages : (stages : List Stage) (silent : ℕ → Bool) (v : World) → IsStage w l n silent v → AreStages l n (at_sites n w.layout) silent v stages → IsStage w l n (still_silent silent stages) (after_stages (at_sites n w.layout) l.settled v stages)
  later_stages [] silent v at_stage may = at_stage
  later_stages (stage ∷ stages) silent v at_stage may =
      later_stages stages (silent_but stage.lost silent) (world_rebuilt (at_sites n w.layout) l.settled v stage) (next_stage silent v at_stage stage may.0) may.1

  reached_stages : (stages : List Stage) (silent : ℕ → Bool) (v : World) → IsStage w l n silent v → AreStages l n (at_sites n w.layout) silent v stages → AllReached v → AllReached (after_stages (at_sites n w.layout) l.settled v stages)
  reached_stages [] silent v at_stage may all = all
  reached_stages (stage ∷ stages) silent v at_stage may all =
      reached_stages stages (silent_but stage.lost silent) (world_rebuilt (at_sites n w.layout) l.settled v stage) (next_stage silent v at_stage stage may.0) may.1 (stage_reached silent v at_stage stage may.0 all)

  -- all accounts of the new group are ones that steps lead to
  pub group_reached : AllReached w → AllReached (new_group w l)
  unfolding AllReached
  group_reached all = λ i below. at i (omega (arith, below, first_stage.sound.number)) (cases_Bool (l.gone i))
    where
      at : (i : ℕ) → i < w.layout.sites → (l.gone i ≡ true) ⊎ (l.gone i ≡ false) → IsReached (account_at (new_group w l) i)
      at i there (inl e) =
          subst IsReached (sym (moved_lost w l i there e))
          (record { from = left_origin w l i; may_begin = sound_left w l sound low moves.settled i e (moves.can_spare i e); steps = []; reached = refl })
      at i there (inr e) =
          subst IsReached (sym (moved_other w l i there e))
          (reached_step (account_at w i) Restarts (all i (omega (arith, there, sound.number))))

  pub stages_reached : (stages : List Stage) → AreStages l n (at_sites n w.layout) l.gone (new_group w l) stages → AllReached w → AllReached (after_stages (at_sites n w.layout) l.settled (new_group w l) stages)
  stages_reached stages may all = reached_stages stages l.gone (new_group w l) first_stage may (group_reached all)

-- the world after a loss, whatever happened since
pub loss_stage : (w : World) (loss : Loss) → IsSoundWorld w → MayLose w loss → IsStage w loss.lost loss.sites (still_silent loss.lost.gone loss.stages) (world_settled w loss)
loss_stage w loss sound may =
    later_stages w loss.lost loss.sites sound may.moves loss.stages loss.lost.gone (new_group w loss.lost) (first_stage w loss.lost loss.sites sound may.moves) may.stages

sound_after_loss : (w : World) (loss : Loss) → IsSoundWorld w → MayLose w loss → IsSoundWorld (world_after w loss)
sound_after_loss w loss sound may = sound_run loss.events (world_settled w loss) (loss_stage w loss sound may).sound

after_reached : (w : World) (loss : Loss) → IsSoundWorld w → MayLose w loss → AllReached w → AllReached (world_after w loss)
after_reached w loss sound may all =
    run_reached loss.events (world_settled w loss) (stages_reached w loss.lost loss.sites sound may.moves loss.stages may.stages all)

-- after any number of losses
sound_losses : (losses : List Loss) (w : World) → IsSoundWorld w → AreRebuilt w losses → IsSoundWorld (after_losses w losses)
sound_losses [] w sound may = sound
sound_losses (loss ∷ losses) w sound may = sound_losses losses (world_after w loss) (sound_after_loss w loss sound may.0) may.1

reached_losses : (losses : List Loss) (w : World) → IsSoundWorld w → AllReached w → AreRebuilt w losses → AllReached (after_losses w losses)
reached_losses [] w sound all may = all
reached_losses (loss ∷ losses) w sound all may =
    reached_losses losses (world_after w loss) (sound_after_loss w loss sound may.0) (after_reached w loss sound may.0 all) may.1

pub sound_rebuilt_world : (w : World) → IsRebuiltWorld w → IsSoundWorld w
sound_rebuilt_world w is =
    subst IsSoundWorld (sym is.leads)
    (sound_run is.since (after_losses is.first is.losses) (sound_losses is.losses is.first (sound_reached is.first is.is_first) is.are))

-- a reached world is one, and events keep it one
pub rebuilt_from : (w : World) → IsReachedWorld w → IsRebuiltWorld w
rebuilt_from w is = record { first = w; is_first = is; losses = []; are = tt; since = []; leads = refl }

pub rebuilt_on : (w : World) (events : List Event) → IsRebuiltWorld w → IsRebuiltWorld (run events w)
rebuilt_on w events is = record {
  first = is.first;
  is_first = is.is_first;
  losses = is.losses;
  are = is.are;
  since = is.since ++ events;
  leads = ap (run events) is.leads ∙ sym (run_append is.since events (after_losses is.first is.losses));
}

module _ (w : World) (is : IsRebuiltWorld w) (loss : Loss) (may : MayLose w loss) (stage : Stage) (next : MayRebuild loss.lost.gone loss.sites (still_silent loss.lost.gone loss.stages) (world_settled w loss) stage) where
  sound_w : IsSoundWorld w
  sound_w = sound_rebuilt_world w is

  pub rebuilt_waiting : IsStage w loss.lost loss.sites (still_silent loss.lost.gone loss.stages) (world_waiting (world_settled w loss) stage)
  rebuilt_waiting =
      stage_waiting w loss.lost loss.sites sound_w may.moves (still_silent loss.lost.gone loss.stages) (world_settled w loss) (loss_stage w loss sound_w may) stage next

  pub rebuilt_begins : IsOrigin (rebuilt_origin (at_sites loss.sites w.layout) loss.lost.settled stage.lost stage.told)
  rebuilt_begins =
      stage_begins w loss.lost loss.sites sound_w may.moves (still_silent loss.lost.gone loss.stages) (world_settled w loss) (loss_stage w loss sound_w may) stage next

  pub rebuilt_told : (r : ℕ) → (told_most (shape_of (at_sites loss.sites w.layout)) stage.told r stage.lost Taken ≡ 0) × ((told_most (shape_of (at_sites loss.sites w.layout)) stage.told r stage.lost (Out stage.lost) ≤ grant (shape_of w.layout) r stage.lost) × ((j : ℕ) → loss.lost.gone j ≡ true → j ≢ stage.lost → told_most (shape_of (at_sites loss.sites w.layout)) stage.told r stage.lost (Out j) ≤ loss.lost.settled r stage.lost j))
  rebuilt_told =
      stage_told w loss.lost loss.sites sound_w may.moves (still_silent loss.lost.gone loss.stages) (world_settled w loss) (loss_stage w loss sound_w may) stage next

  pub rebuilt_shown : (xs : List DeltaState) → AllByRecursion (IsSentDelta (world_waiting (world_settled w loss) stage).sent) xs → (j : ℕ) → j < loss.sites → loss.lost.gone j ≡ false → IsTeller j xs → (r : ℕ) → told_most (shape_of (at_sites loss.sites w.layout)) stage.told r stage.lost (Out j) ≤ told_most (shape_of (at_sites loss.sites w.layout)) xs r stage.lost (Out j)
  rebuilt_shown =
      stage_shown w loss.lost loss.sites sound_w may.moves (still_silent loss.lost.gone loss.stages) (world_settled w loss) (loss_stage w loss sound_w may) stage next

  -- it may begin, as a site without sessions
  pub rebuilt_idle : IsIdle (at_sites loss.sites w.layout) stage.lost (rebuilt_origin (at_sites loss.sites w.layout) loss.lost.settled stage.lost stage.told).base.counters
  rebuilt_idle =
      stage_idle w loss.lost loss.sites sound_w may.moves (still_silent loss.lost.gone loss.stages) (world_settled w loss) (loss_stage w loss sound_w may) stage next

  pub told_checked : AllByRecursion (λ m. IsChecked (shape_of (at_sites loss.sites w.layout)) m.rows) stage.told
  told_checked =
      stage_checked w loss.lost loss.sites sound_w may.moves (still_silent loss.lost.gone loss.stages) (world_settled w loss) (loss_stage w loss sound_w may) stage next

pub one_settled : (w : World) → IsRebuiltWorld w → (d : ℕ) → d < w.layout.sites → IsSettled w.layout (lost_alone d) × CanSpare w (lost_alone d) d
one_settled w is d below = (settled_alone w d, spares_alone w d (sound_rebuilt_world w is) below)

pub rebuilt_conserved : (w : World) → IsRebuiltWorld w → (r : ℕ) → IsConserved w r
rebuilt_conserved w is r = conserved_in w (sound_rebuilt_world w is) r

pub rebuilt_alone : (w : World) → IsRebuiltWorld w → (r : ℕ) → IsWriterAlone (account_at w) w.layout.sites r
rebuilt_alone w is r = alone_in w (sound_rebuilt_world w is) r

pub rebuilt_merged : (w : World) → IsRebuiltWorld w → (i k : ℕ) → KnowsAllSites w i → k < length w.sent → IsMergedReply (world_reply w (Take i k))
rebuilt_merged w is i k knows there = merged w i k (sound_rebuilt_world w is) knows.there knows.all there

pub rebuilt_equal : (w : World) → IsRebuiltWorld w → (i j : ℕ) → i < w.layout.sites → j < w.layout.sites → SourcesAgree (account_at w i) (account_at w j) → (r s : ℕ) (cell : Cell) → known (account_at w i) r s cell ≡ known (account_at w j) r s cell
rebuilt_equal w is i j below there same =
    let sound = sound_rebuilt_world w is in
    equal_counters (account_at w i) (account_at w j) (sound.family.sound i below) (sound.family.sound j there) same

pub rebuilt_reached : (w : World) → IsRebuiltWorld w → (i : ℕ) → i < w.layout.sites → IsReached (account_at w i)
unfolding AllReached
rebuilt_reached w is i below =
    let first = sound_reached is.first is.is_first in
    let here = sound_rebuilt_world w is in
    let after = reached_losses is.losses is.first first (λ k low. all_reached is.first is.is_first k (omega (arith, low, first.number))) is.are in
    subst (λ (v : World). IsReached (account_at v i)) (sym is.leads)
    (run_reached is.since (after_losses is.first is.losses) after i (omega (arith, below, here.number, ap (λ (v : World). length v.sites) is.leads)))
