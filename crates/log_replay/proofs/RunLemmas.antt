-- How a run ends, and where the cut is then.
use Rattle.std.proofs.Common.{◌≡◌, ℕ, ◌-◌, ◌<◌, ◌≤◌, cond, ltb, List, [], ◌∷◌, length, take, refl, sym, ap, subst, ◌∙◌}
use Rattle.std.proofs.lemmas.Bool.{cond-true, cond-false, cond_both, lt-ltb, le-ltb}
use Rattle.merge_core.specs.Layout.{LayoutState}
use Rattle.admission_model.specs.Account.{Account}
use Rattle.admission_model.specs.Serving.{after}
use Rattle.admission_model.proofs.ServingLemmas.{origin_after, sites_after}
use Rattle.admission_core.specs.Core.{Stands}
use Rattle.admission_core.specs.Kept.{durable_of}
use Rattle.desk_log.specs.declared.entry.Entry.{Entry}
use Rattle.desk_log.specs.declared.transcript.Run.{Run}
use Rattle.desk_log.specs.Log.{is_fault, after_entry, account_after, account_tried, IsLegal}
use Rattle.log_replay.specs.declared.replay.RunEnd.{RunEnd}
use Rattle.log_replay.specs.declared.replay.RunEnd.TheVariants.{NoJoint, NoReply, Passed}
use Rattle.log_replay.specs.Legal.{is_same_part, started, was_kept, answered_in, tried_in, after_run, Begins, account_at}
use Rattle.log_replay.specs.Replay.{settled, IsNext, IsRunEnd}

-- the account after a run, by those without and with the call in doubt
pub settled_next : (a : Account) (run next : Run) (later : List Run) (b t : Account) → answered_in a run ≡ b → tried_in a run ≡ t → settled b t next ≡ after_run a run (next ∷ later)
unfolding after_run
settled_next a run next later b t answered tried =
    λ i. cond (is_same_part next.first (durable_of (sym tried i))) (sym tried i) (sym answered i)

pub last_settled : (a : Account) (run : Run) (b : Account) → answered_in a run ≡ b → after_run a run [] ≡ b
unfolding after_run
last_settled a run b answered = answered

pub run_end : (layout : LayoutState) (i : ℕ) (a : Account) (run : Run) (later : List Run) (b t : Account) → answered_in a run ≡ b → tried_in a run ≡ t → IsLegal (started a run) run.entries → (end : RunEnd) → IsNext layout i b t later end → IsRunEnd layout i a run later end
run_end layout i a run later b t answered tried legal (NoReply n) next = absurd next
run_end layout i a run [] b t answered tried legal NoJoint next = absurd next
run_end layout i a run [] b t answered tried legal (Passed core kept) next =
    (legal, next.1, subst (λ (x : Account). Stands x core) (sym (last_settled a run b answered)) next.0)
run_end layout i a run (more ∷ later) b t answered tried legal NoJoint next =
    (legal, subst (λ (x : Account). ¬ Begins layout i x more) (settled_next a run more later b t answered tried) next)
run_end layout i a run (more ∷ later) b t answered tried legal (Passed core kept) next =
    let same = settled_next a run more later b t answered tried in (
      legal,
      next.1 ∙ ap (λ (x : Account). is_same_part more.first (durable_of x)) (sym tried),
      (subst (λ (x : Account). Begins layout i x more) same next.0, subst (λ (x : Account). Stands (started x more) core) same next.2),
    )

-- the cut is behind the run
pub mark_ahead : (target a : Account) (run : Run) (later : List Run) (left : ℕ) → length run.entries ≤ left → target ≡ account_at a left (run ∷ later) → target ≡ account_at (after_run a run later) (left - length run.entries) later
mark_ahead target a run later left past is =
    is ∙ cond-false (ltb left (length run.entries)) (account_after (started a run) (take left run.entries)) (account_at (after_run a run later) (left - length run.entries) later) (le-ltb left (length run.entries) past)

-- the cut is in the run
pub mark_here : (target a : Account) (run : Run) (later : List Run) (left : ℕ) → left < length run.entries → target ≡ account_at a left (run ∷ later) → account_after (started a run) (take left run.entries) ≡ target
mark_here target a run later left within is =
    sym (is ∙ cond-true (ltb left (length run.entries)) (account_after (started a run) (take left run.entries)) (account_at (after_run a run later) (left - length run.entries) later) (lt-ltb left (length run.entries) within))

-- a run changes neither the beginning of an account nor, once it has begun, its number of sites
after_entry_origin : (a : Account) (e : Entry) → (after_entry a e).origin ≡ a.origin
after_entry_origin a e = cond_both (is_fault e.reply) a (after a e.call) (λ (x : Account). x.origin ≡ a.origin) (λ is. refl) (λ is. origin_after a e.call)

after_entry_sites : (a : Account) (e : Entry) → (after_entry a e).sites ≡ a.sites
after_entry_sites a e = cond_both (is_fault e.reply) a (after a e.call) (λ (x : Account). x.sites ≡ a.sites) (λ is. refl) (λ is. sites_after a e.call)

pub account_after_origin : (a : Account) (es : List Entry) → (account_after a es).origin ≡ a.origin
account_after_origin a [] = refl
account_after_origin a (e ∷ es) = account_after_origin (after_entry a e) es ∙ after_entry_origin a e

pub account_after_sites : (a : Account) (es : List Entry) → (account_after a es).sites ≡ a.sites
account_after_sites a [] = refl
account_after_sites a (e ∷ es) = account_after_sites (after_entry a e) es ∙ after_entry_sites a e

account_tried_origin : (a : Account) (es : List Entry) → (account_tried a es).origin ≡ a.origin
account_tried_origin a [] = refl
account_tried_origin a (e ∷ es) = account_tried_origin (after a e.call) es ∙ origin_after a e.call

account_tried_sites : (a : Account) (es : List Entry) → (account_tried a es).sites ≡ a.sites
account_tried_sites a [] = refl
account_tried_sites a (e ∷ es) = account_tried_sites (after a e.call) es ∙ sites_after a e.call

pub after_run_origin : (a : Account) (run : Run) (later : List Run) → (after_run a run later).origin ≡ a.origin
unfolding after_run
after_run_origin a run later =
    cond_both (was_kept a run later) (tried_in a run) (answered_in a run) (λ (x : Account). x.origin ≡ a.origin)
    (λ is. account_tried_origin (started a run) run.entries) (λ is. account_after_origin (started a run) run.entries)

pub after_run_sites : (a : Account) (run : Run) (later : List Run) → (after_run a run later).sites ≡ run.sites
unfolding after_run
after_run_sites a run later =
    cond_both (was_kept a run later) (tried_in a run) (answered_in a run) (λ (x : Account). x.sites ≡ run.sites)
    (λ is. account_tried_sites (started a run) run.entries) (λ is. account_after_sites (started a run) run.entries)
