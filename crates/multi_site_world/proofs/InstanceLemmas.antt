-- The premises of the laws are met.
use Rattle.std.proofs.Common.{◌≡◌, ◌≢◌, ℕ, zero, suc, ◌<◌, ◌≤◌, inl, inr, eqb, List, [], ◌∷◌, Some, None, refl, arith}
use Rattle.std.proofs.lemmas.Bool.{cond_both}
use Rattle.merge_core.specs.declared.cell.Cell.{Cell}
use Rattle.merge_core.specs.declared.cell.Cell.TheVariants.{Out, Taken, Ann, Fin}
use Rattle.merge_core.specs.Rows.{counter_in}
use Rattle.session_list.specs.declared.session.Phase.TheVariants.{Waiting}
use Rattle.admission_model.specs.Account.{phase_of, own}
use Rattle.admission_model.specs.Knowledge.{known}
use Rattle.admission_model.specs.View.{view_of}
use Rattle.admission_model.specs.Serving.{Step}
use Rattle.admission_model.specs.Laws.{IsFirstUnfinished}
use Rattle.multi_site_world.specs.World.{account_at}
use Rattle.multi_site_world.specs.Laws.{IsInside, MayGather, CanGather, AreTheOthers, IsOneOf, HasCounted, HasTaken, AreLogged, IsConsistentCut}
use Rattle.multi_site_world.specs.Instances.{three_sites, writer_heard, others_of_1, writer_there, second_message, log_of_0, logs, accounts_of}

-- a row of three sites' counters is below others where each counter is
below_each : (counter : Cell → ℕ) (a b c taken ann fin : ℕ) → a ≤ counter (Out 0) → b ≤ counter (Out 1) → c ≤ counter (Out 2) → taken ≤ counter Taken → ann ≤ counter Ann → fin ≤ counter Fin → (cell : Cell) → counter_in (record { out = a ∷ (b ∷ (c ∷ [])); taken = taken; ann = ann; fin = fin }) cell ≤ counter cell
below_each counter a b c taken ann fin h0 h1 h2 ht ha hf (Out zero) = h0
below_each counter a b c taken ann fin h0 h1 h2 ht ha hf (Out (suc zero)) = h1
below_each counter a b c taken ann fin h0 h1 h2 ht ha hf (Out (suc (suc zero))) = h2
below_each counter a b c taken ann fin h0 h1 h2 ht ha hf (Out (suc (suc (suc j)))) = omega arith
below_each counter a b c taken ann fin h0 h1 h2 ht ha hf Taken = ht
below_each counter a b c taken ann fin h0 h1 h2 ht ha hf Ann = ha
below_each counter a b c taken ann fin h0 h1 h2 ht ha hf Fin = hf

nobody : (i h : ℕ) → i < 3 → ¬ IsInside (phase_of (account_at writer_heard i) 0 h)
nobody zero h below = λ x. x
nobody (suc zero) h below = cond_both (eqb 5 h) (Some Waiting) None (λ o. ¬ IsInside o) (λ e x. x) (λ e x. x)
nobody (suc (suc zero)) h below = λ x. x
nobody (suc (suc (suc i))) h below = absurd (omega arith)

shows_1 : (i : ℕ) → i < 3 → i ≢ 1 → IsFirstUnfinished (view_of (account_at writer_heard i)) 0 1
shows_1 zero below apart = record { there = omega arith; unfinished = omega arith; least = least }
  where
    least : (t : ℕ) → t < 1 → known (account_at writer_heard 0) 0 t Ann ≤ known (account_at writer_heard 0) 0 t Fin
    least zero lower = omega arith
    least (suc t) lower = absurd (omega arith)
shows_1 (suc zero) below apart = absurd (apart refl)
shows_1 (suc (suc zero)) below apart = record { there = omega arith; unfinished = omega arith; least = least }
  where
    least : (t : ℕ) → t < 1 → known (account_at writer_heard 2) 0 t Ann ≤ known (account_at writer_heard 2) 0 t Fin
    least zero lower = omega arith
    least (suc t) lower = absurd (omega arith)
shows_1 (suc (suc (suc i))) below apart = absurd (omega arith)

pub may_gather : MayGather writer_heard 0 1
may_gather = record {
  record_there = omega arith;
  site_there = omega arith;
  all_known = refl;
  nobody_inside = nobody;
  nothing_in_flight = refl;
  least_writer = shows_1;
}

pub the_others : AreTheOthers 3 1 others_of_1
the_others = record {
  others_alone = ((omega arith, λ e. cc), ((omega arith, λ e. cc), tt));
  all_others = others;
}
  where
    others : (i : ℕ) → i < 3 → i ≢ 1 → IsOneOf i others_of_1
    others zero below apart = inl refl
    others (suc zero) below apart = absurd (apart refl)
    others (suc (suc zero)) below apart = inr (inl refl)
    others (suc (suc (suc i))) below apart = absurd (omega arith)

pub can_gather : CanGather writer_heard 0 1 others_of_1
can_gather = record { may = may_gather; the_others = the_others; never_full = ((λ e. cc), ((λ e. cc), ((λ e. cc), ((λ e. cc), ((λ e. cc), ((λ e. cc), tt)))))) }

-- site 1 counted all that the second message tells
pub knows_second : HasCounted (account_at writer_there 1) second_message.rows
knows_second = (
  below_each (known (account_at writer_there 1) 0 0) 3 2 0 1 0 0 (omega arith) (omega arith) (omega arith) (omega arith) (omega arith) (omega arith),
  (below_each (known (account_at writer_there 1) 0 1) 0 0 0 0 1 0 (omega arith) (omega arith) (omega arith) (omega arith) (omega arith) (omega arith), tt),
)

pub has_taken : HasTaken writer_there 1 1
has_taken = record { message = second_message; there = refl; counted = knows_second }

pub logged : (log_0 : List Step) → (accounts_of log_0 0).sites ≡ 3 → AreLogged three_sites (accounts_of log_0)
logged log_0 same zero below = record { first = 3; site_there = omega arith; steps = log_0; replayed = refl; few_sites = omega (arith, same) }
logged log_0 same (suc zero) below = record { first = 3; site_there = omega arith; steps = logs log_0 1; replayed = refl; few_sites = omega arith }
logged log_0 same (suc (suc zero)) below = record { first = 3; site_there = omega arith; steps = []; replayed = refl; few_sites = omega arith }
logged log_0 same (suc (suc (suc i))) below = absurd (omega arith)

pub logged_whole : AreLogged three_sites (accounts_of log_of_0)
logged_whole = logged log_of_0 refl

pub logged_short : AreLogged three_sites (accounts_of [])
logged_short = logged [] refl

-- at the ends of the whole logs, each row that was heard was done
pub whole_cut : IsConsistentCut three_sites (accounts_of log_of_0)
whole_cut zero below = ((below_each (own (accounts_of log_of_0 1) 0) 0 0 0 0 1 0 (omega arith) (omega arith) (omega arith) (omega arith) (omega arith) (omega arith), tt), tt)
whole_cut (suc zero) below = (
  (below_each (own (accounts_of log_of_0 0) 0) 4 3 0 1 0 0 (omega arith) (omega arith) (omega arith) (omega arith) (omega arith) (omega arith), (below_each (own (accounts_of log_of_0 1) 0) 0 0 0 0 1 0 (omega arith) (omega arith) (omega arith) (omega arith) (omega arith) (omega arith), tt)),
  ((below_each (own (accounts_of log_of_0 0) 0) 3 2 0 1 0 0 (omega arith) (omega arith) (omega arith) (omega arith) (omega arith) (omega arith), (below_each (own (accounts_of log_of_0 1) 0) 0 0 0 0 1 0 (omega arith) (omega arith) (omega arith) (omega arith) (omega arith) (omega arith), tt)), tt),
)
whole_cut (suc (suc zero)) below = tt
whole_cut (suc (suc (suc i))) below = absurd (omega arith)

-- where site 0's log is cut to nothing, site 1 heard of a seat that was not taken
pub short_cut : ¬ IsConsistentCut three_sites (accounts_of [])
short_cut cut = absurd (omega (arith, (cut 1 (omega arith)).1.0.0 Taken))
