-- A refusal is answered only where it is the reason.
use Rattle.std.proofs.Common.{◌≡◌, false, Option, Some, None}
use Rattle.std.specs.Prelude.{is_none}
use Rattle.admission_model.specs.declared.ask.Ask.{Ask}
use Rattle.admission_model.specs.declared.ask.Ask.TheVariants.{Read, Announce, Quill, Leave, Give, Help}
use Rattle.admission_model.specs.declared.ask.Call.{Call}
use Rattle.admission_model.specs.declared.ask.Call.TheVariants.{Ask as AskCall, Merge, Snapshot as SnapshotCall}
use Rattle.session_list.specs.declared.session.Phase.{Phase}
use Rattle.admission_model.specs.declared.reply.Refusal.{Refusal}
use Rattle.admission_model.specs.declared.reply.Reply.{Reply}
use Rattle.admission_model.specs.declared.reply.Reply.TheVariants.{Refused}
use Rattle.admission_model.specs.View.{View}
use Rattle.admission_model.specs.Replies.{ask_lines, merge_lines}
use Rattle.admission_model.specs.Serving.{reason, reply_of, answer, replied, left_reply}
use Rattle.admission_model.proofs.ServingLemmas.{Clear, first_both}

same_refusal : (x y : Refusal) → ◌≡◌ {A = Reply} (Refused y) (Refused x) → ◌≡◌ {A = Option Refusal} (Some y) (Some x)
same_refusal x y e = cc

-- where no line applies the answer is no refusal
never : (v : View) (ask : Ask) (x : Refusal) → Clear (ask_lines v ask) → answer v (AskCall ask) ≡ Refused x → ⊥
never v (Read r h) x clear e = cc
never v (Announce r h) x clear e = cc
never v (Quill r h) x clear e = cc
never v (Leave r h) x clear e = at (v.phase r h) clear.1.1.0 e
  where
    at : (o : Option Phase) → is_none o ≡ false → left_reply o ≡ Refused x → ⊥
    at None f g = cc
    at (Some p) f g = cc
never v (Give r to seats) x clear e = cc
never v (Help r) x clear e = cc

pub reason_told : (v : View) (call : Call) (x : Refusal) → reply_of v call ≡ Refused x → reason v call ≡ Some x
reason_told v (AskCall ask) x =
    first_both (λ o. replied o (answer v (AskCall ask)) ≡ Refused x → o ≡ Some x) (ask_lines v ask) (λ y e. same_refusal x y e)
    (λ clear e. absurd (never v ask x clear e))
reason_told v (Merge delta) x =
    first_both (λ o. replied o (answer v (Merge delta)) ≡ Refused x → o ≡ Some x) (merge_lines v delta) (λ y e. same_refusal x y e) (λ clear e. cc)
reason_told v SnapshotCall x = λ e. cc
