-- Every step keeps counters and sessions in agreement.
use Rattle.std.proofs.Common.{◌≡◌, ℕ, ◌+◌, ◌<◌, ◌≤◌, ◌⊎◌, inl, inr, true, false, leb, List, [], ◌∷◌, length, Option, Some, None, refl, sym, ap, subst, ◌∙◌, arith}
use Rattle.std.specs.Prelude.{is_none}
use Rattle.std.proofs.lemmas.Bool.{cases_Bool, cond_both, leb-true, eqb-false, ltb-false, leb-false, cond-true, cond-false}
use Rattle.merge_core.specs.declared.cell.Cell.TheVariants.{Out, Taken, Ann, Fin}
use Rattle.merge_core.specs.Counts.{counter_limit}
use Rattle.admission_model.specs.declared.ask.Ask.{Ask}
use Rattle.admission_model.specs.declared.ask.Ask.TheVariants.{Read, Announce, Quill, Leave, Give, Help}
use Rattle.admission_model.specs.declared.ask.Call.{Call}
use Rattle.admission_model.specs.declared.ask.Call.TheVariants.{Ask as AskCall, Merge, Snapshot as SnapshotCall}
use Rattle.session_list.specs.declared.session.Phase.{Phase}
use Rattle.session_list.specs.declared.session.Phase.TheVariants.{Reader, Waiting, Writer}
use Rattle.admission_model.specs.declared.reply.Plan.{Plan}
use Rattle.admission_model.specs.declared.reply.Refusal.{Refusal}
use Rattle.admission_model.specs.Account.{Account, layout_of, seats_in, phase_of}
use Rattle.admission_model.specs.declared.operation.Operation.TheVariants.{EnteredRead, GaveSeats}
use Rattle.admission_model.specs.Knowledge.{known, hears, grown}
use Rattle.admission_model.specs.View.{view_of, rights_of, plan_of}
use Rattle.merge_core.specs.Layout.{shape_of}
use Rattle.merge_core.specs.Notices.{most_writers}
use Rattle.merge_core.specs.Tests.{is_placed, is_valid, first_failing}
use Rattle.admission_model.specs.Merging.{first_ahead}
use Rattle.admission_model.specs.Replies.{Line, first_reason, holder_limit, is_not_announced, is_writer, planned, ask_lines, merge_lines, read_lines, give_lines, help_lines}
use Rattle.admission_model.specs.Serving.{advanced, unless_refused, after, Step, Serves, Restarts, Grows, after_step, replay}
use Rattle.admission_model.specs.Sound.{IsSound}
use Rattle.admission_model.proofs.CounterLemmas.{known_own, does}
use Rattle.admission_model.proofs.StepLemmas.{sound_read, sound_announce, sound_write, sound_leave, sound_give}
use Rattle.admission_model.proofs.RowLemmas.{none_of, AllPass-from}
use Rattle.admission_model.proofs.LeastLemmas.{plan_of-fits}
use Rattle.admission_model.proofs.HeardLemmas.{sound_hears, sound_restarted, sound_grown}

-- no line applies
abbrev pub Clear : List Line → Type 0
Clear [] = Unit {0}
Clear (l ∷ ls) = (l.test ≡ false) × Clear ls

-- what holds after each refusal, and where no line applies, holds after the first reason
pub first_both : (P : Option Refusal → Type 0) (ls : List Line) → ((x : Refusal) → P (Some x)) → (Clear ls → P None) → P (first_reason ls)
first_both P [] refused clear = clear tt
first_both P (l ∷ ls) refused clear = at (cases_Bool l.test) (λ later. first_both P ls refused later)
  where
    at : (l.test ≡ true) ⊎ (l.test ≡ false) → ((Clear ls → P None) → P (first_reason ls)) → P (first_reason (l ∷ ls))
    at (inl e) later = subst P (sym (cond-true l.test (Some l.refusal) (first_reason ls) e)) (refused l.refusal)
    at (inr e) later = subst P (sym (cond-false l.test (Some l.refusal) (first_reason ls) e)) (later (λ c. clear (e, c)))

-- where nothing is refused no line applies
pub clear_of : (ls : List Line) → first_reason ls ≡ None → Clear ls
clear_of ls = first_both (λ o. o ≡ None → Clear ls) ls (λ x e. cc) (λ clear e. clear)

-- and the other way round
pub first_reason-none : (ls : List Line) → Clear ls → first_reason ls ≡ None
first_reason-none [] clear = refl
first_reason-none (l ∷ ls) clear =
    cond-false l.test (Some l.refusal) (first_reason ls) clear.0 ∙ first_reason-none ls clear.1

pub some_of : {X : Type 0} (o : Option X) → is_none o ≡ false → (x : X) × (o ≡ Some x)
some_of None e = cc
some_of (Some x) e = (x, refl)

pub waits : (o : Option Phase) → is_not_announced o ≡ false → is_writer o ≡ false → o ≡ Some Waiting
waits None e f = cc
waits (Some Reader) e f = cc
waits (Some Waiting) e f = refl
waits (Some Writer) e f = cc

at_least_one : (n : ℕ) → (n ≡ 0 → ⊥) → 1 ≤ n
at_least_one n e = omega arith

clear_read : (a : Account) (r h : ℕ) → IsSound a → Clear (read_lines (view_of a) r h) → IsSound (does (EnteredRead r h) a)
clear_read a r h sound clear =
    sound_read a r h sound (leb-false (length a.origin.layout.records) r clear.0) (ltb-false holder_limit h clear.1.0) (none_of (phase_of a r h) clear.1.1.0)
    (omega (arith, known_own a r Taken, ltb-false counter_limit (known a r a.origin.site Taken + 1) clear.1.1.1.0))
    (at_least_one (rights_of (view_of a) r) (eqb-false (rights_of (view_of a) r) 0 clear.1.1.1.1.1.0))

clear_give : (a : Account) (r to seats : ℕ) → IsSound a → Clear (give_lines (view_of a) r to seats) → IsSound (does (GaveSeats r to seats) a)
clear_give a r to seats sound clear =
    sound_give a r to seats sound (leb-false (length a.origin.layout.records) r clear.0) (leb-false (a.sites) to clear.1.0) (eqb-false to a.origin.site clear.1.1.0)
    (omega (arith, known_own a r (Out to), ltb-false counter_limit (known a r a.origin.site (Out to) + seats) clear.1.1.1.1.0))
    (ltb-false (rights_of (view_of a) r) seats clear.1.1.1.1.1.0)

clear_help : (a : Account) (r : ℕ) → IsSound a → Clear (help_lines (view_of a) r) → IsSound (does (GaveSeats r (planned (plan_of (view_of a) r)).to (planned (plan_of (view_of a) r)).seats) a)
clear_help a r sound clear =
    let there = some_of (plan_of (view_of a) r) clear.1.0 in
    let p = there.0 in
    let feasible = plan_of-fits (view_of a) r p sound.site_there there.1 in
    let is : planned (plan_of (view_of a) r) ≡ p = ap planned there.1 in
    let room = ltb-false counter_limit (known a r a.origin.site (Out (planned (plan_of (view_of a) r)).to) + (planned (plan_of (view_of a) r)).seats) clear.1.1.0 in
    let to : (planned (plan_of (view_of a) r)).to ≡ p.to = ap (λ (q : Plan). q.to) is in
    let seats : (planned (plan_of (view_of a) r)).seats ≡ p.seats = ap (λ (q : Plan). q.seats) is in
    sound_give a r (planned (plan_of (view_of a) r)).to (planned (plan_of (view_of a) r)).seats sound
    (leb-false (length a.origin.layout.records) r clear.0)
    (subst (λ (x : ℕ). x < a.sites) (sym to) feasible.there)
    (λ here. feasible.elsewhere (sym to ∙ here))
    (omega (arith, room, known_own a r (Out (planned (plan_of (view_of a) r)).to)))
    (subst (λ (x : ℕ). x ≤ rights_of (view_of a) r) (sym seats) feasible.enough)

clear_ask : (a : Account) (ask : Ask) → IsSound a → Clear (ask_lines (view_of a) ask) → IsSound (advanced a (AskCall ask))
clear_ask a (Read r h) sound clear = clear_read a r h sound clear
clear_ask a (Announce r h) sound clear =
    sound_announce a r h sound (leb-false (length a.origin.layout.records) r clear.0) (ltb-false holder_limit h clear.1.0) (none_of (phase_of a r h) clear.1.1.0)
    (omega (arith, known_own a r Ann, ltb-false counter_limit (known a r a.origin.site Ann + 1) clear.1.1.1.0))
    (omega (arith, known_own a r Ann, known_own a r Fin, leb-false (known a r a.origin.site Fin + most_writers) (known a r a.origin.site Ann) clear.1.1.1.1.0))
clear_ask a (Quill r h) sound clear =
    let seats = seats_in a.origin.layout r in
    sound_write a r h sound (waits (phase_of a r h) clear.1.1.0 clear.1.1.1.0)
    (omega (arith, known_own a r Taken, ltb-false counter_limit (known a r a.origin.site Taken + seats) clear.1.1.1.1.0))
    (ltb-false (rights_of (view_of a) r) seats clear.1.1.1.1.1.0)
clear_ask a (Leave r h) sound clear =
    let there = some_of (phase_of a r h) clear.1.1.0 in
    sound_leave a r h there.0 sound there.1
clear_ask a (Give r to seats) sound clear = clear_give a r to seats sound clear
clear_ask a (Help r) sound clear = clear_help a r sound clear

pub sound_after : (a : Account) (call : Call) → IsSound a → IsSound (after a call)
sound_after a (AskCall ask) sound =
    first_both (λ o. IsSound (unless_refused o a (advanced a (AskCall ask)))) (ask_lines (view_of a) ask) (λ x. sound) (clear_ask a ask sound)
sound_after a (Merge delta) sound =
    first_both (λ o. IsSound (unless_refused o a (hears a delta.rows))) (merge_lines (view_of a) delta) (λ x. sound)
    (λ clear. sound_hears a delta.rows sound
    (AllPass-from (is_placed (shape_of (layout_of a))) delta.rows (none_of (first_failing (is_placed (shape_of (layout_of a))) delta.rows) clear.0))
    (AllPass-from (is_valid (shape_of (layout_of a))) delta.rows (none_of (first_failing (is_valid (shape_of (layout_of a))) delta.rows) clear.1.0))
    (none_of (first_ahead (view_of a) delta.rows) clear.1.1.0))
sound_after a SnapshotCall sound = sound

pub sound_after_step : (a : Account) (step : Step) → IsSound a → IsSound (after_step a step)
sound_after_step a (Serves call) sound = sound_after a call sound
sound_after_step a Restarts sound = sound_restarted a sound
sound_after_step a (Grows n) sound =
    cond_both (leb a.sites n) (grown n a) a IsSound (λ e. sound_grown a n (leb-true a.sites n e) sound) (λ e. sound)

pub sound_replay : (a : Account) (steps : List Step) → IsSound a → IsSound (replay a steps)
sound_replay a [] sound = sound
sound_replay a (step ∷ steps) sound = sound_after_step (replay a steps) step (sound_replay a steps sound)

-- a call keeps where the account began, and how many sites it knows
pub origin_after : (a : Account) (call : Call) → (after a call).origin ≡ a.origin
origin_after a (AskCall ask) =
    first_both (λ o. (unless_refused o a (advanced a (AskCall ask))).origin ≡ a.origin) (ask_lines (view_of a) ask) (λ x. refl) (λ clear. refl)
origin_after a (Merge delta) =
    first_both (λ o. (unless_refused o a (hears a delta.rows)).origin ≡ a.origin) (merge_lines (view_of a) delta) (λ x. refl) (λ clear. refl)
origin_after a SnapshotCall = refl

pub sites_after : (a : Account) (call : Call) → (after a call).sites ≡ a.sites
sites_after a (AskCall ask) =
    first_both (λ o. (unless_refused o a (advanced a (AskCall ask))).sites ≡ a.sites) (ask_lines (view_of a) ask) (λ x. refl) (λ clear. refl)
sites_after a (Merge delta) =
    first_both (λ o. (unless_refused o a (hears a delta.rows)).sites ≡ a.sites) (merge_lines (view_of a) delta) (λ x. refl) (λ clear. refl)
sites_after a SnapshotCall = refl

pub origin_after_step : (a : Account) (step : Step) → (after_step a step).origin ≡ a.origin
origin_after_step a (Serves call) = origin_after a call
origin_after_step a Restarts = refl
origin_after_step a (Grows n) = cond_both (leb a.sites n) (grown n a) a (λ b. b.origin ≡ a.origin) (λ e. refl) (λ e. refl)

pub origin_replay : (a : Account) (steps : List Step) → (replay a steps).origin ≡ a.origin
origin_replay a [] = refl
origin_replay a (step ∷ steps) = origin_after_step (replay a steps) step ∙ origin_replay a steps

-- a step never lessens the number of sites
pub sites_grow : (a : Account) (step : Step) → a.sites ≤ (after_step a step).sites
sites_grow a (Serves call) = omega (arith, sites_after a call)
sites_grow a Restarts = omega arith
sites_grow a (Grows n) =
    cond_both (leb a.sites n) (grown n a) a (λ b. a.sites ≤ b.sites) (λ e. leb-true a.sites n e) (λ e. omega arith)
