-- The account at a cut of legal runs is one that steps lead to from the start.
use Rattle.std.proofs.Common.{◌≡◌, ℕ, ◌-◌, ◌<◌, ◌≤◌, ltb, leb, List, [], ◌∷◌, length, take, refl, sym, ap, subst, ◌∙◌, arith}
use Rattle.std.proofs.lemmas.Bool.{cond-true, cond_both, le-leb}
use Rattle.merge_core.specs.Layout.{LayoutState, at_sites}
use Rattle.admission_model.specs.declared.ask.Call.{Call}
use Rattle.admission_model.specs.Account.{Account, start_origin}
use Rattle.admission_model.specs.Knowledge.{grown}
use Rattle.admission_model.specs.Serving.{after, Step, Serves, Grows, replay}
use Rattle.admission_model.specs.Reached.{IsReached}
use Rattle.admission_model.proofs.StartLemmas.{sound_start}
use Rattle.desk_log.specs.declared.entry.Entry.{Entry}
use Rattle.desk_log.specs.declared.transcript.Run.{Run}
use Rattle.desk_log.specs.Log.{is_fault, after_entry, account_after, account_tried}
use Rattle.multi_site_world.specs.Laws.{IsLogged}
use Rattle.log_replay.specs.Legal.{started, was_kept, answered_in, tried_in, after_run, AreLegal, first_sites, start_account, account_at}
use Rattle.log_replay.proofs.RunLemmas.{account_after_sites, after_run_sites}

-- steps lead from one account to another
pub record Leads (s a : Account) : Type 0 where
  pub steps : List Step
  pub replayed : a ≡ replay s steps

leads_along : (s a b : Account) → a ≡ b → Leads s a → Leads s b
leads_along s a b same leads = record { steps = leads.steps; replayed = sym same ∙ leads.replayed }

leads_after : (s a : Account) (call : Call) → Leads s a → Leads s (after a call)
leads_after s a call leads = record { steps = Serves call ∷ leads.steps; replayed = ap (λ (x : Account). after x call) leads.replayed }

leads_entry : (s a : Account) (e : Entry) → Leads s a → Leads s (after_entry a e)
leads_entry s a e leads = cond_both (is_fault e.reply) a (after a e.call) (Leads s) (λ is. leads) (λ is. leads_after s a e.call leads)

leads_answered : (s a : Account) (es : List Entry) → Leads s a → Leads s (account_after a es)
leads_answered s a [] leads = leads
leads_answered s a (e ∷ es) leads = leads_answered s (after_entry a e) es (leads_entry s a e leads)

leads_tried : (s a : Account) (es : List Entry) → Leads s a → Leads s (account_tried a es)
leads_tried s a [] leads = leads
leads_tried s a (e ∷ es) leads = leads_tried s (after a e.call) es (leads_after s a e.call leads)

leads_started : (s a : Account) (run : Run) → a.sites ≤ run.sites → Leads s a → Leads s (started a run)
leads_started s a run more leads =
    let b = replay s leads.steps in
    let wider : b.sites ≤ run.sites = subst (λ (x : Account). x.sites ≤ run.sites) leads.replayed more in
    record {
      steps = Grows run.sites ∷ leads.steps;
      replayed = ap (grown run.sites) leads.replayed ∙ sym (cond-true (leb b.sites run.sites) (grown run.sites b) b (le-leb b.sites run.sites wider));
    }

leads_run : (s a : Account) (run : Run) (later : List Run) → Leads s (started a run) → Leads s (after_run a run later)
unfolding after_run
leads_run s a run later leads =
    cond_both (was_kept a run later) (tried_in a run) (answered_in a run) (Leads s)
    (λ is. leads_tried s (started a run) run.entries leads) (λ is. leads_answered s (started a run) run.entries leads)

-- the account at a cut
pub leads_at : (layout : LayoutState) (i : ℕ) (s a : Account) (n : ℕ) (runs : List Run) → AreLegal layout i a runs → Leads s a → Leads s (account_at a n runs)
leads_at layout i s a n [] legal leads = leads
leads_at layout i s a n (run ∷ later) legal leads =
    let begun = leads_started s a run legal.0.no_fewer leads in
    cond_both (ltb n (length run.entries)) (account_after (started a run) (take n run.entries)) (account_at (after_run a run later) (n - length run.entries) later) (Leads s)
    (λ is. leads_answered s (started a run) (take n run.entries) begun)
    (λ is. leads_at layout i s (after_run a run later) (n - length run.entries) later legal.1.1 (leads_run s a run later begun))

-- it knows no more sites than the layout has
pub few_at : (layout : LayoutState) (i : ℕ) (a : Account) (n : ℕ) (runs : List Run) → AreLegal layout i a runs → a.sites ≤ layout.sites → (account_at a n runs).sites ≤ layout.sites
few_at layout i a n [] legal few = few
few_at layout i a n (run ∷ later) legal few =
    cond_both (ltb n (length run.entries)) (account_after (started a run) (take n run.entries)) (account_at (after_run a run later) (n - length run.entries) later) (λ (x : Account). x.sites ≤ layout.sites)
    (λ is. let same : (account_after (started a run) (take n run.entries)).sites ≡ run.sites = account_after_sites (started a run) (take n run.entries) in omega (arith, same, legal.0.no_more))
    (λ is. few_at layout i (after_run a run later) (n - length run.entries) later legal.1.1 (let same = after_run_sites a run later in omega (arith, same, legal.0.no_more)))

-- the site is one of those that its first run knows
first_there : (layout : LayoutState) (i : ℕ) (runs : List Run) → i < layout.sites → AreLegal layout i (start_account layout i runs) runs → i < first_sites layout runs
first_there layout i [] below legal = below
first_there layout i (run ∷ later) below legal = legal.0.site_there

first_few : (layout : LayoutState) (i : ℕ) (runs : List Run) → AreLegal layout i (start_account layout i runs) runs → first_sites layout runs ≤ layout.sites
first_few layout i [] legal = omega arith
first_few layout i (run ∷ later) legal = legal.0.no_more

pub start_leads : (s : Account) → Leads s s
start_leads s = record { steps = []; replayed = refl }

-- so a log of the site's own leads to it
pub logged_at : (layout : LayoutState) (i : ℕ) (runs : List Run) (n : ℕ) → i < layout.sites → AreLegal layout i (start_account layout i runs) runs → IsLogged layout i (account_at (start_account layout i runs) n runs)
logged_at layout i runs n below legal =
    let s = start_account layout i runs in
    let leads = leads_at layout i s s n runs legal (start_leads s) in
    record {
      first = first_sites layout runs;
      site_there = first_there layout i runs below legal;
      steps = leads.steps;
      replayed = leads.replayed;
      few_sites = few_at layout i s n runs legal (first_few layout i runs legal);
    }

-- and it is reached
pub reached_at : (layout : LayoutState) (i : ℕ) (runs : List Run) (n : ℕ) → i < layout.sites → AreLegal layout i (start_account layout i runs) runs → IsReached (account_at (start_account layout i runs) n runs)
reached_at layout i runs n below legal =
    let s = start_account layout i runs in
    let leads = leads_at layout i s s n runs legal (start_leads s) in
    record {
      from = start_origin (at_sites (first_sites layout runs) layout) i;
      may_begin = sound_start (at_sites (first_sites layout runs) layout) i (first_there layout i runs below legal);
      steps = leads.steps;
      reached = leads.replayed;
    }
