-- Help for another site's writer gives away all rights.
use Rattle.std.proofs.Common.{◌≡◌, ◌≢◌, ℕ, ◌+◌, ◌<◌, ◌⊎◌, inl, inr, true, false, ◌||◌, cond, eqb, ltb, [], ◌∷◌, length, Option, Some, None, refl, sym, ap, subst, ◌∙◌, arith}
use Rattle.std.specs.Prelude.{is_none}
use Rattle.std.proofs.lemmas.Bool.{cases_eq, cases_Bool, eq-eqb, ne_eqb, lt-leb, or_right, or_from, cond-true, cond-false}
use Rattle.merge_core.specs.declared.cell.Cell.TheVariants.{Out, Taken, Ann, Fin}
use Rattle.merge_core.specs.Counts.{counter_limit}
use Rattle.admission_model.specs.declared.ask.Ask.TheVariants.{Help}
use Rattle.admission_model.specs.declared.ask.Call.TheVariants.{Ask as AskCall}
use Rattle.admission_model.specs.declared.reply.Plan.{Plan}
use Rattle.admission_model.specs.declared.reply.Refusal.TheVariants.{NoRecord, CounterFull, NoPlan}
use Rattle.admission_model.specs.declared.reply.Reply.TheVariants.{Gave, Refused}
use Rattle.admission_model.specs.Account.{Account, own, inside}
use Rattle.admission_model.specs.declared.operation.Operation.TheVariants.{GaveSeats}
use Rattle.admission_model.specs.Knowledge.{known}
use Rattle.admission_model.specs.View.{view_of, rights_of, plan_for, plan_of, first_unfinished}
use Rattle.admission_model.specs.Replies.{Line, line, no_record_there, planned, help_lines}
use Rattle.admission_model.specs.Serving.{reason, reply_of, answer, replied, advanced, unless_refused, after}
use Rattle.admission_model.specs.Sound.{IsSound}
use Rattle.admission_model.specs.Laws.{IsFirstUnfinished}
use Rattle.merge_core.proofs.SumLemmas.{total_others_only}
use Rattle.admission_model.proofs.CounterLemmas.{does, Raises, own_here, gained_step, spent_step}
use Rattle.admission_model.proofs.ServingLemmas.{first_reason-none}
use Rattle.admission_model.proofs.ReaderLemmas.{reason_behind, found}

-- b is a after all its rights went to site w
pub record IsHelped (a b : Account) (r w : ℕ) : Type 0 where
  pub same_origin : b.origin ≡ a.origin
  pub same_heard : b.heard ≡ a.heard
  pub same_sites : b.sites ≡ a.sites
  pub no_rights : rights_of (view_of b) r ≡ 0
  pub same_inside : inside b r ≡ inside a r
  pub outs : (j : ℕ) → j ≢ w → own b r (Out j) ≡ own a r (Out j)
  pub anns : own b r Ann ≡ own a r Ann
  pub fins : own b r Fin ≡ own a r Fin

gave_all : (a : Account) (r w : ℕ) → IsSound a → w < a.sites → w ≢ a.origin.site → IsHelped a (does (GaveSeats r w (rights_of (view_of a) r)) a) r w
gave_all a r w sound there apart =
    let n = rights_of (view_of a) r in
    let sent = λ (j : ℕ). cond (eqb j w) n 0 in
    let operation = GaveSeats r w n in
    let raises : Raises a operation r sent 0 0 0 = record { outs = λ j. own_here a operation (Out j); takens = own_here a operation Taken; anns = own_here a operation Ann; fins = own_here a operation Fin } in
    record {
      same_origin = refl;
      same_heard = refl;
      same_sites = refl;
      no_rights = omega (
        arith,
        (sound.balanced r).affordable,
        gained_step a operation r sent 0 0 0 sound.site_there raises,
        spent_step a operation r sent 0 0 0 raises,
        total_others_only (a.sites) a.origin.site w n there apart,
        cond-false {A = ℕ} (eqb a.origin.site w) n 0 (ne_eqb a.origin.site w (λ e. apart (sym e))),
      );
      same_inside = refl;
      outs = λ j other. omega (arith, own_here a operation (Out j), cond-false {A = ℕ} (eqb j w) n 0 (ne_eqb j w other));
      anns = omega (arith, own_here a operation Ann);
      fins = omega (arith, own_here a operation Fin);
    }

nothing_left : (a : Account) (r w : ℕ) → rights_of (view_of a) r ≡ 0 → IsHelped a a r w
nothing_left a r w none = record {
  same_origin = refl;
  same_heard = refl;
  same_sites = refl;
  no_rights = none;
  same_inside = refl;
  outs = λ j other. refl;
  anns = refl;
  fins = refl;
}

all_to : Account → ℕ → ℕ → Plan
all_to a r w = record { to = w; seats = rights_of (view_of a) r }

-- help for another site's writer either has nothing to give, or gives all
help_cases : (a : Account) (r w : ℕ) → r < length a.origin.layout.records → w ≢ a.origin.site → IsFirstUnfinished (view_of a) r w → reply_of (view_of a) (AskCall (Help r)) ≢ Refused CounterFull → ((rights_of (view_of a) r ≡ 0) × (reason (view_of a) (AskCall (Help r)) ≡ Some NoPlan)) ⊎ ((plan_of (view_of a) r ≡ Some (all_to a r w)) × (reason (view_of a) (AskCall (Help r)) ≡ None))
unfolding all_to
help_cases a r w below apart first not_full = at (cases_eq (rights_of (view_of a) r) 0)
  where
    is : first_unfinished (view_of a) r ≡ Some w
    is = found (view_of a) r w first

    there_line : Line
    there_line = line (no_record_there (view_of a) r) NoRecord

    plan_line : Line
    plan_line = line (is_none (plan_of (view_of a) r)) NoPlan

    full_line : Line
    full_line = line (ltb counter_limit (known a r a.origin.site (Out (planned (plan_of (view_of a) r)).to) + (planned (plan_of (view_of a) r)).seats)) CounterFull

    there : no_record_there (view_of a) r ≡ false
    there = lt-leb (length a.origin.layout.records) r below

    room : plan_of (view_of a) r ≡ Some (all_to a r w) → (full_line.test ≡ true) ⊎ (full_line.test ≡ false) → reason (view_of a) (AskCall (Help r)) ≡ None
    room plan (inl full) =
        let why : reason (view_of a) (AskCall (Help r)) ≡ Some CounterFull =
        reason_behind (there_line ∷ plan_line ∷ []) full_line [] (there, (ap is_none plan, tt)) full in
        absurd (not_full (ap (λ o. replied o (answer (view_of a) (AskCall (Help r)))) why))
    room plan (inr free) = first_reason-none (help_lines (view_of a) r) (there, (ap is_none plan, (free, tt)))

    at : (rights_of (view_of a) r ≡ 0) ⊎ (rights_of (view_of a) r ≡ 0 → ⊥) → ((rights_of (view_of a) r ≡ 0) × (reason (view_of a) (AskCall (Help r)) ≡ Some NoPlan)) ⊎ ((plan_of (view_of a) r ≡ Some (all_to a r w)) × (reason (view_of a) (AskCall (Help r)) ≡ None))
    at (inl none) =
        let no_plan : plan_of (view_of a) r ≡ None =
        ap (plan_for (view_of a) r) is ∙ cond-true ((eqb w a.origin.site) || (eqb (rights_of (view_of a) r) 0)) None (Some (all_to a r w))
        (or_right (eqb w a.origin.site) (eqb (rights_of (view_of a) r) 0) (eq-eqb (rights_of (view_of a) r) 0 none)) in
        inl (none, reason_behind (there_line ∷ []) plan_line (full_line ∷ []) (there, tt) (ap is_none no_plan))
    at (inr some) =
        let plan : plan_of (view_of a) r ≡ Some (all_to a r w) =
        ap (plan_for (view_of a) r) is ∙ cond-false ((eqb w a.origin.site) || (eqb (rights_of (view_of a) r) 0)) None (Some (all_to a r w))
        (or_from (eqb w a.origin.site) (eqb (rights_of (view_of a) r) 0) (ne_eqb w a.origin.site apart) (ne_eqb (rights_of (view_of a) r) 0 some)) in
        inr (plan, room plan (cases_Bool full_line.test))

pub helped : (a : Account) (r w : ℕ) → IsSound a → r < length a.origin.layout.records → w ≢ a.origin.site → IsFirstUnfinished (view_of a) r w → reply_of (view_of a) (AskCall (Help r)) ≢ Refused CounterFull → IsHelped a (after a (AskCall (Help r))) r w
unfolding all_to
helped a r w sound below apart first not_full = at (help_cases a r w below apart first not_full)
  where
    at : ((rights_of (view_of a) r ≡ 0) × (reason (view_of a) (AskCall (Help r)) ≡ Some NoPlan)) ⊎ ((plan_of (view_of a) r ≡ Some (all_to a r w)) × (reason (view_of a) (AskCall (Help r)) ≡ None)) → IsHelped a (after a (AskCall (Help r))) r w
    at (inl h) =
        subst (λ (b : Account). IsHelped a b r w) (sym (ap (λ o. unless_refused o a (advanced a (AskCall (Help r)))) h.1)) (nothing_left a r w h.0)
    at (inr h) =
        let now : after a (AskCall (Help r)) ≡ does (GaveSeats r w (rights_of (view_of a) r)) a =
        ap (λ o. unless_refused o a (advanced a (AskCall (Help r)))) h.1 ∙ ap (λ (p : Option Plan). does (GaveSeats r (planned p).to (planned p).seats) a) h.0 in
        subst (λ (b : Account). IsHelped a b r w) (sym now) (gave_all a r w sound first.there apart)

-- and it is answered so
pub help_reply : (a : Account) (r w : ℕ) → r < length a.origin.layout.records → w ≢ a.origin.site → IsFirstUnfinished (view_of a) r w → reply_of (view_of a) (AskCall (Help r)) ≢ Refused CounterFull → (reply_of (view_of a) (AskCall (Help r)) ≡ Gave w (rights_of (view_of a) r)) ⊎ (reply_of (view_of a) (AskCall (Help r)) ≡ Refused NoPlan)
unfolding all_to
help_reply a r w below apart first not_full = at (help_cases a r w below apart first not_full)
  where
    at : ((rights_of (view_of a) r ≡ 0) × (reason (view_of a) (AskCall (Help r)) ≡ Some NoPlan)) ⊎ ((plan_of (view_of a) r ≡ Some (all_to a r w)) × (reason (view_of a) (AskCall (Help r)) ≡ None)) → (reply_of (view_of a) (AskCall (Help r)) ≡ Gave w (rights_of (view_of a) r)) ⊎ (reply_of (view_of a) (AskCall (Help r)) ≡ Refused NoPlan)
    at (inl h) = inr (ap (λ o. replied o (answer (view_of a) (AskCall (Help r)))) h.1)
    at (inr h) =
        inl (ap (λ o. replied o (answer (view_of a) (AskCall (Help r)))) h.1
        ∙ ap (λ (p : Option Plan). Gave (planned p).to (planned p).seats) h.0)
