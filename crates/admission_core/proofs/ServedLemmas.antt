-- A call that is answered and carried out at once is served.
use Rattle.std.proofs.Common.{◌≡◌, false, Option, Some, None, refl, sym, ap, subst, ◌∙◌}
use Rattle.admission_model.specs.declared.ask.Call.{Call}
use Rattle.admission_model.specs.declared.reply.Refusal.{Refusal}
use Rattle.admission_model.specs.declared.reply.Refusal.TheVariants.{Memory}
use Rattle.admission_model.specs.declared.reply.Reply.{Reply}
use Rattle.admission_model.specs.declared.reply.Reply.TheVariants.{Refused}
use Rattle.admission_model.specs.Account.{Account}
use Rattle.admission_model.specs.View.{View}
use Rattle.admission_model.specs.Serving.{reason, reply_of, replied, answer, after}
use Rattle.admission_model.proofs.ReasonLemmas.{reason_told}
use Rattle.admission_core.specs.Core.{Core, core_view, Stands, SameContent, IsServed, is_memory}
use Rattle.admission_core.specs.Prepared.{refused_with}
use Rattle.admission_core.proofs.CoreLemmas.{shows_account}
use Rattle.admission_core.proofs.ReadyLemmas.{served_by, served_after, ready_nothing, ready_refused, ready_memory, stands_along, view_along, answered_from_memory}

-- a refused call leaves the core
pub served_refused : (c : Core) (call : Call) (refusal : Refusal) → reason (core_view c) call ≡ Some refusal → IsServed c c call (Refused refusal)
served_refused c call refusal is =
    served_by c c c call (refused_with refusal) (Refused refusal) refl (ready_refused c call refusal is) refl
    (λ x ready a stands. subst (λ (b : Account). Stands b c) (sym (ready_nothing a c stands x (refused_with refusal) ready refl refl)) stands)
    (λ _ _. refl)

-- want of memory leaves the core, its room aside
pub served_memory : (old new : Core) (call : Call) → SameContent old new → reason (core_view old) call ≡ None → IsServed old new call (Refused Memory)
served_memory old new call same free =
    served_by old new new call (refused_with Memory) (Refused Memory) same
    (ready_memory new call (ap (λ (v : View). reason v call) (view_along old new same) ∙ free)) refl
    (λ x ready a stands. subst (λ (b : Account). Stands b new) (sym (ready_nothing a new stands x (refused_with Memory) ready refl refl)) stands)
    (λ _ _. refl)

-- a call that nothing refuses is answered, and carried out once there is room
pub served_answered : (old mid new : Core) (call : Call) (reply : Reply) → SameContent old mid → reason (core_view old) call ≡ None → reply ≡ answer (core_view old) call → ((a : Account) → Stands a mid → Stands (after a call) new) → IsServed old new call reply
served_answered old mid new call reply same free is account = record {
  answered = λ _ a stands. told ∙ ap (λ (u : View). reply_of u call) (shows_account a old stands);
  refused = λ refusal a stands e.
      let none : None ≡ Some refusal = sym free ∙ (ap (λ (u : View). reason u call) (shows_account a old stands) ∙ e) in
      absurd (cc);
  account = λ a stands.
      subst (λ (b : Account). Stands b new) (sym (served_after a call reply there)) (account a (stands_along a old mid same stands));
  unchanged = λ refusal e.
      let none : None ≡ Some refusal = sym free ∙ reason_told v call refusal (sym told ∙ e) in
      absurd (cc);
}
  where
    v : View
    v = core_view old

    told : reply ≡ reply_of v call
    told = is ∙ sym (ap (λ (o : Option Refusal). replied o (answer v call)) free)

    there : is_memory reply ≡ false
    there = ap is_memory is ∙ answered_from_memory v call
