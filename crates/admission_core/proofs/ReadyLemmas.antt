-- What was prepared for a call tells what the call is, and what it leaves.
use Rattle.std.proofs.Common.{◌≡◌, ◌⊎◌, inl, inr, Bool, true, false, cond, List, Option, Some, None, refl, sym, ap, subst, ◌∙◌}
use Rattle.std.proofs.lemmas.Bool.{cases_Bool, cond-true, cond-false}
use Rattle.merge_core.specs.declared.delta.Row.{Row}
use Rattle.merge_core.specs.Delta.{DeltaState}
use Rattle.admission_model.specs.declared.ask.Ask.{Ask}
use Rattle.admission_model.specs.declared.ask.Call.{Call}
use Rattle.admission_model.specs.declared.ask.Call.TheVariants.{Ask as AskCall, Merge, Snapshot as SnapshotCall}
use Rattle.admission_model.specs.declared.operation.Operation.{Operation}
use Rattle.admission_model.specs.declared.ask.Ask.TheVariants.{Read, Announce, Quill, Leave, Give, Help}
use Rattle.admission_model.specs.declared.reply.Refusal.{Refusal}
use Rattle.admission_model.specs.declared.reply.Refusal.TheVariants.{Memory}
use Rattle.admission_model.specs.declared.reply.Reply.{Reply}
use Rattle.admission_model.specs.declared.reply.Reply.TheVariants.{Refused}
use Rattle.session_list.specs.declared.session.Phase.{Phase}
use Rattle.admission_model.specs.Account.{Account}
use Rattle.admission_model.specs.View.{View}
use Rattle.admission_model.specs.Serving.{reason, reply_of, replied, answer, left_reply, operation_of, advanced, unless_refused, after}
use Rattle.admission_model.proofs.ReasonLemmas.{reason_told}
use Rattle.admission_core.specs.Core.{Core, core_view, Stands, SameContent, IsServed, is_memory, served}
use Rattle.admission_core.specs.Prepared.{Prepared, operation_in, rows_in, unless_some, unless_memory, has_room, refused_with, IsReadyFor, IsOperationOf}
use Rattle.admission_core.proofs.CoreLemmas.{shows_account}

-- want of memory leaves nothing
memory_none : {X : Type 0} (reply : Reply) (o : Option X) → is_memory reply ≡ true → unless_memory reply o ≡ None
memory_none reply o e = cond-true (is_memory reply) None o e

-- anything else leaves what there is
memory_there : {X : Type 0} (reply : Reply) (o : Option X) → is_memory reply ≡ false → unless_memory reply o ≡ o
memory_there reply o e = cond-false (is_memory reply) None o e

-- something is left, so there was memory
there_is_memory : {X : Type 0} (reply : Reply) (o : Option X) (x : X) → unless_memory reply o ≡ Some x → (is_memory reply ≡ false) × (o ≡ Some x)
there_is_memory {X} reply o x e = at (cases_Bool (is_memory reply))
  where
    at : (is_memory reply ≡ true) ⊎ (is_memory reply ≡ false) → (is_memory reply ≡ false) × (o ≡ Some x)
    at (inl yes_memory) =
        let none : None ≡ Some x = sym (memory_none reply o yes_memory) ∙ e in
        absurd (cc)
    at (inr no_memory) = (no_memory, sym (memory_there reply o no_memory) ∙ e)

-- something is left, so nothing refused
not_refused : {X : Type 0} (r : Option Refusal) (o : Option X) (x : X) → unless_some r o ≡ Some x → (r ≡ None) × (o ≡ Some x)
not_refused None o x e = (refl, e)
not_refused (Some refusal) o x e = absurd (cc)

-- an operation is that of an ask
asked : (v : View) (call : Call) (operation : Operation) → operation_in v call ≡ Some operation → (ask : Ask) × (call ≡ AskCall ask) × (operation ≡ operation_of v ask)
asked v (AskCall ask) operation e = (ask, refl, cc)
asked v (Merge delta) operation e = absurd (cc)
asked v SnapshotCall operation e = absurd (cc)

-- rows are those of a delta
brought : (call : Call) (rows : List Row) → rows_in call ≡ Some rows → (delta : DeltaState) × (call ≡ Merge delta) × (rows ≡ delta.rows)
brought (AskCall ask) rows e = absurd (cc)
brought (Merge delta) rows e = (delta, refl, cc)
brought SnapshotCall rows e = absurd (cc)

-- an operation that was prepared
pub record IsAsked (c : Core) (call : Call) (p : Prepared) (operation : Operation) : Type 0 where
  pub memory : is_memory p.reply ≡ false
  pub ask : Ask
  pub is_ask : call ≡ AskCall ask
  pub is_operation : IsOperationOf c ask operation

pub ready_operation : (c : Core) (call : Call) (p : Prepared) (operation : Operation) → IsReadyFor c call p → p.operation ≡ Some operation → IsAsked c call p operation
ready_operation c call p operation ready is =
    let v = core_view c in
    let there = there_is_memory p.reply (unless_some (reason v call) (operation_in v call)) operation (sym ready.operation ∙ is) in
    let free = not_refused (reason v call) (operation_in v call) operation there.1 in
    let it = asked v call operation free.1 in
    record {
      memory = there.0;
      ask = it.0;
      is_ask = it.1;
      is_operation = record { accepted = subst (λ (x : Call). reason v x ≡ None) it.1 free.0; is = it.2 };
    }

-- rows that were prepared
pub record IsBrought (c : Core) (call : Call) (p : Prepared) (rows : List Row) : Type 0 where
  pub memory : is_memory p.reply ≡ false
  pub delta : DeltaState
  pub is_merge : call ≡ Merge delta
  pub same_rows : rows ≡ delta.rows
  pub accepted : reason (core_view c) (Merge delta) ≡ None

pub ready_rows : (c : Core) (call : Call) (p : Prepared) (rows : List Row) → IsReadyFor c call p → p.heard ≡ Some rows → IsBrought c call p rows
ready_rows c call p rows ready is =
    let v = core_view c in
    let there = there_is_memory p.reply (unless_some (reason v call) (rows_in call)) rows (sym ready.heard ∙ is) in
    let free = not_refused (reason v call) (rows_in call) rows there.1 in
    let it = brought call rows free.1 in
    record {
      memory = there.0;
      delta = it.0;
      is_merge = it.1;
      same_rows = it.2;
      accepted = subst (λ (x : Call). reason v x ≡ None) it.1 free.0;
    }

-- where there is memory, the account is the one after the call
pub served_after : (a : Account) (call : Call) (reply : Reply) → is_memory reply ≡ false → served a call reply ≡ after a call
served_after a call reply e = cond-false (is_memory reply) a (after a call) e

-- nothing was prepared, so the account stays
pub ready_nothing : (a : Account) (c : Core) → Stands a c → (call : Call) (p : Prepared) → IsReadyFor c call p → p.operation ≡ None → p.heard ≡ None → served a call p.reply ≡ a
ready_nothing a c is call p ready no_operation no_rows = at (cases_Bool (is_memory p.reply))
  where
    v : View
    v = core_view c

    left : (x : Call) (o : Option Refusal) → unless_some o (operation_in v x) ≡ None → unless_some o (rows_in x) ≡ None → unless_refused o a (advanced a x) ≡ a
    left x (Some refusal) e f = refl
    left (AskCall ask) None e f = absurd (cc)
    left (Merge delta) None e f = absurd (cc)
    left SnapshotCall None e f = refl

    at : (is_memory p.reply ≡ true) ⊎ (is_memory p.reply ≡ false) → served a call p.reply ≡ a
    at (inl yes_memory) = cond-true (is_memory p.reply) a (after a call) yes_memory
    at (inr no_memory) =
        served_after a call p.reply no_memory
        ∙ (ap (λ (u : View). unless_refused (reason u call) a (advanced a call)) (sym (shows_account a c is))
        ∙ left call (reason v call)
        (sym (memory_there p.reply (unless_some (reason v call) (operation_in v call)) no_memory) ∙ (sym ready.operation ∙ no_operation))
        (sym (memory_there p.reply (unless_some (reason v call) (rows_in call)) no_memory) ∙ (sym ready.heard ∙ no_rows)))

-- what room there is decides nothing
pub stands_along : (a : Account) (old new : Core) → SameContent old new → Stands a old → Stands a new
stands_along a old new same is =
    let there : Stands a (record old { room = new.room }) = record { reached = is.reached; book = is.book; shape = is.shape; shows = is.shows; names = is.names } in
    subst (Stands a) (sym same) there

pub view_along : (old new : Core) → SameContent old new → core_view new ≡ core_view old
view_along old new same = ap core_view same

-- a call that was refused has nothing to carry out
nothing_left : (c : Core) (call : Call) (p : Prepared) (refusal : Refusal) → IsReadyFor c call p → p.reply ≡ Refused refusal → (p.operation ≡ None) × (p.heard ≡ None)
nothing_left c call p refusal ready is = at (cases_Bool (is_memory p.reply))
  where
    v : View
    v = core_view c

    at : (is_memory p.reply ≡ true) ⊎ (is_memory p.reply ≡ false) → (p.operation ≡ None) × (p.heard ≡ None)
    at (inl yes_memory) = (
      ready.operation ∙ memory_none p.reply (unless_some (reason v call) (operation_in v call)) yes_memory,
      ready.heard ∙ memory_none p.reply (unless_some (reason v call) (rows_in call)) yes_memory,
    )
    at (inr no_memory) =
        let told : reason v call ≡ Some refusal = reason_told v call refusal (sym (ready.reply no_memory) ∙ is) in (
          ready.operation ∙ (memory_there p.reply (unless_some (reason v call) (operation_in v call)) no_memory ∙ ap (λ (o : Option Refusal). unless_some o (operation_in v call)) told),
          ready.heard ∙ (memory_there p.reply (unless_some (reason v call) (rows_in call)) no_memory ∙ ap (λ (o : Option Refusal). unless_some o (rows_in call)) told),
        )

-- a call that was prepared and then carried out is served
pub served_by : (old mid new : Core) (call : Call) (p : Prepared) (reply : Reply) → SameContent old mid → IsReadyFor mid call p → reply ≡ p.reply → ((x : Call) → IsReadyFor mid x p → (a : Account) → Stands a mid → Stands (served a x p.reply) new) → (p.operation ≡ None → p.heard ≡ None → new ≡ mid) → IsServed old new call reply
served_by old mid new call p reply same ready is account unchanged = record {
  answered = λ no_memory a stands.
      is
      ∙ (ready.reply (ap is_memory (sym is) ∙ no_memory)
      ∙ ap (λ (v : View). reply_of v call) (view_along old mid same ∙ shows_account a old stands));
  refused = λ refusal a stands told.
      is
      ∙ ready.refused refusal (ap (λ (v : View). reason v call) (view_along old mid same ∙ shows_account a old stands) ∙ told);
  account = λ a stands.
      subst (λ (x : Reply). Stands (served a call x) new) (sym is) (account call ready a (stands_along a old mid same stands));
  unchanged = λ refusal refused.
      let none = nothing_left mid call p refusal ready (sym is ∙ refused) in
      let stays : new ≡ mid = unchanged none.0 none.1 in
      let P : Core → Type 0 = λ x. SameContent old x in
      subst P (sym stays) same;
}

-- no answer is want of memory
pub answered_from_memory : (v : View) (call : Call) → is_memory (answer v call) ≡ false
answered_from_memory v (AskCall (Read r h)) = refl
answered_from_memory v (AskCall (Announce r h)) = refl
answered_from_memory v (AskCall (Quill r h)) = refl
answered_from_memory v (AskCall (Leave r h)) = at (v.phase r h)
  where
    at : (o : Option Phase) → is_memory (left_reply o) ≡ false
    at None = refl
    at (Some p) = refl
answered_from_memory v (AskCall (Give r to seats)) = refl
answered_from_memory v (AskCall (Help r)) = refl
answered_from_memory v (Merge delta) = refl
answered_from_memory v SnapshotCall = refl

-- a refusal was prepared
pub ready_refused : (c : Core) (call : Call) (refusal : Refusal) → reason (core_view c) call ≡ Some refusal → IsReadyFor c call (refused_with refusal)
ready_refused c call refusal is = record {
  reply = λ no_memory. sym (ap (λ (o : Option Refusal). replied o (answer (core_view c) call)) is);
  refused = λ other told. ap (λ (o : Option Refusal). replied o (Refused refusal)) (sym is ∙ told);
  operation = none (Refused refusal) (unless_some (reason (core_view c) call) (operation_in (core_view c) call)) (ap (λ (o : Option Refusal). unless_some o (operation_in (core_view c) call)) is);
  heard = none (Refused refusal) (unless_some (reason (core_view c) call) (rows_in call)) (ap (λ (o : Option Refusal). unless_some o (rows_in call)) is);
  room = tt;
}
  where
    left : {X : Type 0} (b : Bool) (o : Option X) → o ≡ None → None ≡ cond b None o
    left true o e = refl
    left false o e = sym e

    none : {X : Type 0} (reply : Reply) (o : Option X) → o ≡ None → None ≡ unless_memory reply o
    none reply o e = left (is_memory reply) o e

-- want of memory was prepared
pub ready_memory : (c : Core) (call : Call) → reason (core_view c) call ≡ None → IsReadyFor c call (refused_with Memory)
ready_memory c call free = record { reply = λ no_memory. absurd (cc); refused = λ other told. let none : None ≡ Some other = sym free ∙ told in absurd (cc); operation = refl; heard = refl; room = tt }

-- an answer was prepared
pub ready_answer : (c : Core) (call : Call) (p : Prepared) → reason (core_view c) call ≡ None → p.reply ≡ answer (core_view c) call → p.operation ≡ operation_in (core_view c) call → p.heard ≡ rows_in call → has_room p.operation c.room → IsReadyFor c call p
ready_answer c call p free reply operation heard room = record {
  reply = λ _. reply ∙ sym (ap (λ (o : Option Refusal). replied o (answer v call)) free);
  refused = λ other told. let none : None ≡ Some other = sym free ∙ told in absurd (cc);
  operation =
      operation
      ∙ (sym (ap (λ (o : Option Refusal). unless_some o (operation_in v call)) free)
      ∙ sym (memory_there p.reply (unless_some (reason v call) (operation_in v call)) there));
  heard =
      heard
      ∙ (sym (ap (λ (o : Option Refusal). unless_some o (rows_in call)) free)
      ∙ sym (memory_there p.reply (unless_some (reason v call) (rows_in call)) there));
  room = room;
}
  where
    v : View
    v = core_view c

    there : is_memory p.reply ≡ false
    there = ap is_memory reply ∙ answered_from_memory v call
