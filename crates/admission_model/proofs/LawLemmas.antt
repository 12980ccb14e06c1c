-- The laws of one site, over every account that steps lead to.
use Rattle.std.proofs.Common.{◌≡◌, ◌≢◌, ℕ, ◌<◌, ◌≤◌, ◌⊎◌, inl, inr, sym, ap, ◌∙◌, subst, arith}
use Rattle.std.proofs.lemmas.Bool.{cases_eq}
use Rattle.merge_core.specs.declared.cell.Cell.{Cell}
use Rattle.merge_core.specs.declared.cell.Cell.TheVariants.{Out, Ann, Fin}
use Rattle.merge_core.specs.Layout.{shape_of}
use Rattle.merge_core.specs.Rows.{start_counter}
use Rattle.admission_model.specs.declared.ask.Ask.TheVariants.{Read}
use Rattle.admission_model.specs.declared.ask.Call.TheVariants.{Ask as AskCall}
use Rattle.admission_model.specs.declared.reply.Reply.TheVariants.{Admitted}
use Rattle.admission_model.specs.View.{view_of, problem_in}
use Rattle.admission_model.specs.Serving.{reply_of}
use Rattle.admission_model.proofs.NoticeLemmas.{none_admitted}
use Rattle.admission_model.specs.Account.{Account, begin, own}
use Rattle.admission_model.specs.Knowledge.{known, resumed, restarted, grown, durable_part}
use Rattle.admission_model.specs.Sound.{IsSound, IsOrigin}
use Rattle.admission_model.specs.Reached.{IsReached}
use Rattle.admission_model.specs.Laws.{CountsUnits, CountsSessions, SourcesAgree, ShowTheSame, KeepTheSame}
use Rattle.admission_model.proofs.CounterLemmas.{known_own, known_other}
use Rattle.admission_model.proofs.RowLemmas.{start_below}
use Rattle.admission_model.proofs.HeardLemmas.{site_sum_own, known_fits}
use Rattle.admission_model.proofs.ServingLemmas.{sound_replay}
use Rattle.admission_model.proofs.UnitLemmas.{counts_units, equal_counters}
use Rattle.admission_model.proofs.DurableLemmas.{is_resumed, keeps_durable, sound_resumed}

counts_sessions : (a : Account) (r : ℕ) → IsSound a → CountsSessions a r
counts_sessions a r sound =
    let sum = site_sum_own a r sound in
    let now = sound.balanced r in
    record {
      affordable = omega (arith, sum);
      rights = omega (arith, sum);
      inside = omega (arith, now.seats, now.fits.grant_kept);
      writers = omega (arith, now.writers);
    }

-- every reached account is sound
pub sound_reached : (a : Account) → IsReached a → IsSound a
sound_reached a is = subst IsSound (sym is.reached) (sound_replay (begin is.from) is.steps is.may_begin)

pub units : (a : Account) → IsReached a → CountsUnits a
units a is = counts_units a (sound_reached a is)

pub sessions : (a : Account) → IsReached a → (r : ℕ) → CountsSessions a r
sessions a is r = counts_sessions a r (sound_reached a is)

pub counters : (a b : Account) → IsReached a → IsReached b → SourcesAgree a b → (r s : ℕ) (cell : Cell) → known a r s cell ≡ known b r s cell
counters a b is_a is_b same = equal_counters a b (sound_reached a is_a) (sound_reached b is_b) same

pub begins_again : (a : Account) → IsReached a → ShowTheSame (begin (resumed a.sites a)) (restarted a)
begins_again a is = is_resumed a a.sites (sound_reached a is)

pub begins_grown : (a : Account) → IsReached a → (n : ℕ) → a.sites ≤ n → ShowTheSame (begin (resumed n a)) (grown n a)
begins_grown a is n more = is_resumed a n (sound_reached a is)

pub kept : (a : Account) → KeepTheSame (durable_part (restarted a)) (durable_part a)
kept a = keeps_durable a a.sites

pub kept_grown : (a : Account) (n : ℕ) → KeepTheSame (durable_part (grown n a)) (durable_part a)
kept_grown a n = keeps_durable a n

pub origin_again : (a : Account) → IsReached a → (n : ℕ) → a.sites ≤ n → IsOrigin (resumed n a)
origin_again a is n more = sound_resumed a n more (sound_reached a is)

-- a site that is not known has its start
pub past_rows : (a : Account) → IsReached a → (r s : ℕ) (cell : Cell) → a.sites ≤ s → known a r s cell ≡ start_counter (shape_of a.origin.layout) r s cell
past_rows a is r s cell past =
    let sound = sound_reached a is in
    omega (
      arith,
      known_other a r s cell (λ e. absurd (omega (arith, sound.site_there))),
      sound.no_others.none_told r s cell past,
      start_below (shape_of a.origin.layout) r s (known a r s) (known_fits a sound r s) cell,
    )

-- and nothing is known to have been sent to it
pub past_sites : (a : Account) → IsReached a → (r s j : ℕ) → a.sites ≤ j → known a r s (Out j) ≡ start_counter (shape_of a.origin.layout) r s (Out j)
past_sites a is r s j past = at (cases_eq s a.origin.site)
  where
    sound : IsSound a
    sound = sound_reached a is

    least : start_counter (shape_of a.origin.layout) r s (Out j) ≤ known a r s (Out j)
    least = start_below (shape_of a.origin.layout) r s (known a r s) (known_fits a sound r s) (Out j)

    at : (s ≡ a.origin.site) ⊎ (s ≡ a.origin.site → ⊥) → known a r s (Out j) ≡ start_counter (shape_of a.origin.layout) r s (Out j)
    at (inl e) =
        let mine : known a r s (Out j) ≡ own a r (Out j) = ap (λ x. known a r x (Out j)) e ∙ known_own a r (Out j) in
        omega (arith, mine, sound.no_others.none_sent r j past, least)
    at (inr ne) = omega (arith, known_other a r s (Out j) ne, sound.no_others.none_told_sent r s j past, least)

pub none_admitted_reached : (a : Account) → IsReached a → (r h s : ℕ) → problem_in a.origin.layout r ≡ 2 → known a r s Fin < known a r s Ann → reply_of (view_of a) (AskCall (Read r h)) ≢ Admitted
none_admitted_reached a is r h s second unfinished = none_admitted a r h s (sound_reached a is) second unfinished
