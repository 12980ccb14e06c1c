-- One step of a site: its reply, and the account after it.
use Rattle.std.specs.Prelude.{ℕ, ◌+◌, nat_le, if◌then◌else◌, List, [], ◌∷◌, Option, Some, None}
use Rattle.merge_core.specs.declared.cell.Cell.TheVariants.{Ann}
use Rattle.admission_model.specs.declared.ask.Ask.{Ask}
use Rattle.admission_model.specs.declared.ask.Ask.TheVariants.{Read, Announce, Quill, Leave, Give, Help}
use Rattle.admission_model.specs.declared.ask.Call.{Call}
use Rattle.admission_model.specs.declared.ask.Call.TheVariants.{Ask as AskCall, Merge, Snapshot as SnapshotCall}
use Rattle.session_list.specs.declared.session.Phase.{Phase}
use Rattle.admission_model.specs.declared.reply.Refusal.{Refusal}
use Rattle.admission_model.specs.declared.reply.Refusal.TheVariants.{NotHere}
use Rattle.admission_model.specs.declared.reply.Reply.{Reply}
use Rattle.admission_model.specs.declared.reply.Reply.TheVariants.{Admitted, Announced, Left, Given, Gave, Merged, Snapshot as SnapshotReply, Refused}
use Rattle.admission_model.specs.Account.{Account}
use Rattle.admission_model.specs.declared.operation.Operation.TheVariants.{EnteredRead, AnnouncedWriter, EnteredWrite, LeftRecord, GaveSeats}
use Rattle.admission_model.specs.declared.operation.Operation.{Operation}
use Rattle.admission_model.specs.Knowledge.{hears, restarted, grown}
use Rattle.admission_model.specs.View.{View, view_of, plan_of}
use Rattle.merge_core.specs.Layout.{shape_of}
use Rattle.merge_core.specs.Moved.{raised_by}
use Rattle.admission_model.specs.Merging.{snapshot_of}
use Rattle.admission_model.specs.Replies.{first_reason, ask_lines, merge_lines, planned}

-- why a call is refused, if it is
abbrev pub reason : View → Call → Option Refusal
reason v (AskCall ask) = first_reason (ask_lines v ask)
reason v (Merge delta) = first_reason (merge_lines v delta)
reason v SnapshotCall = None

-- the phase that was left
abbrev pub left_reply : Option Phase → Reply
left_reply (Some p) = Left p
left_reply None = Refused NotHere

-- what is answered where nothing refuses the call
abbrev pub answer : View → Call → Reply
answer v (AskCall (Read r h)) = Admitted
answer v (AskCall (Announce r h)) = Announced (v.counter r v.site Ann + 1)
answer v (AskCall (Quill r h)) = Admitted
answer v (AskCall (Leave r h)) = left_reply (v.phase r h)
answer v (AskCall (Give r to seats)) = Given
answer v (AskCall (Help r)) = let plan = planned (plan_of v r) in Gave plan.to plan.seats
answer v (Merge delta) = Merged (raised_by (shape_of v.layout) v.counter delta.rows)
answer v SnapshotCall = SnapshotReply (snapshot_of v)

-- the operation that an ask is, where nothing refuses it; carrying out the plan is a hand-over
abbrev pub operation_of : View → Ask → Operation
operation_of v (Read r h) = EnteredRead r h
operation_of v (Announce r h) = AnnouncedWriter r h
operation_of v (Quill r h) = EnteredWrite r h
operation_of v (Leave r h) = LeftRecord r h
operation_of v (Give r to seats) = GaveSeats r to seats
operation_of v (Help r) = let plan = planned (plan_of v r) in GaveSeats r plan.to plan.seats

-- the account after a call that nothing refuses
abbrev pub advanced : Account → Call → Account
advanced a (AskCall ask) = record a { done = operation_of (view_of a) ask ∷ a.done }
advanced a (Merge delta) = hears a delta.rows
advanced a SnapshotCall = a

-- a refusal goes before the answer
abbrev pub replied : Option Refusal → Reply → Reply
replied (Some refusal) reply = Refused refusal
replied None reply = reply

-- a refusal leaves the account as it was
abbrev pub unless_refused : Option Refusal → Account → Account → Account
unless_refused (Some refusal) before after = before
unless_refused None before after = after

-- the reply of a site that shows this view
abbrev pub reply_of : View → Call → Reply
reply_of v call = replied (reason v call) (answer v call)

-- the account after a call: a refused call changes nothing
abbrev pub after : Account → Call → Account
after a call = unless_refused (reason (view_of a) call) a (advanced a call)

-- what happens at one site: it serves a call, is started again, or is started again with n sites
pub data Step : Type 0 where
  Serves : (call : Call) → Step
  Restarts : Step
  Grows : (n : ℕ) → Step

-- the account after a step; a site never knows fewer sites than before
abbrev pub after_step : Account → Step → Account
after_step a (Serves call) = after a call
after_step a Restarts = restarted a
after_step a (Grows n) = if nat_le a.sites n then grown n a else a

-- the account after a list of steps, newest first
abbrev pub replay : Account → List Step → Account
replay a [] = a
replay a (step ∷ steps) = after_step (replay a steps) step
