-- A call that has been answered and not yet carried out.
use Rattle.std.specs.Prelude.{◌≡◌, ℕ, ◌<◌, Bool, true, false, IsTrue, List, [], Option, Some, None, if◌then◌else◌}
use Rattle.merge_core.specs.declared.delta.Row.{Row}
use Rattle.admission_model.specs.declared.ask.Ask.{Ask}
use Rattle.admission_model.specs.declared.ask.Call.{Call}
use Rattle.admission_model.specs.declared.ask.Call.TheVariants.{Ask as AskCall, Merge, Snapshot as SnapshotCall}
use Rattle.admission_model.specs.declared.operation.Operation.{Operation}
use Rattle.admission_model.specs.declared.operation.Operation.TheVariants.{EnteredRead, AnnouncedWriter, EnteredWrite, LeftRecord, GaveSeats}
use Rattle.admission_model.specs.declared.reply.Refusal.{Refusal}
use Rattle.admission_model.specs.declared.reply.Reply.{Reply}
use Rattle.admission_model.specs.declared.reply.Reply.TheVariants.{Refused}
use Rattle.admission_model.specs.Account.{Account}
use Rattle.admission_model.specs.View.{View}
use Rattle.admission_model.specs.Serving.{reason, reply_of, operation_of}
use Rattle.admission_model.specs.Durable.{change_between}
use Rattle.admission_core.specs.Core.{Core, Stands, core_view, is_memory, served}
use Rattle.admission_core.specs.Kept.{ChangeState, change_of}

-- what carries the call out: an operation of the site, or rows that it hears
pub record Prepared : Type 0 where
  pub reply : Reply
  pub change : ChangeState
  pub operation : Option Operation
  pub heard : Option (List Row)

-- a refusal, which changes nothing
abbrev pub refused_with : Refusal → Prepared
refused_with refusal = record { reply = Refused refusal; change = record { cells = []; session = None }; operation = None; heard = None }

-- a session comes
abbrev pub arrives : Operation → Bool
arrives (EnteredRead r h) = true
arrives (AnnouncedWriter r h) = true
arrives (EnteredWrite r h) = false
arrives (LeftRecord r h) = false
arrives (GaveSeats r to seats) = false

-- the operation that a call is, where nothing refuses it
abbrev pub operation_in : View → Call → Option Operation
operation_in v (AskCall ask) = Some (operation_of v ask)
operation_in v (Merge delta) = None
operation_in v SnapshotCall = None

-- the rows that a call brings
abbrev pub rows_in : Call → Option (List Row)
rows_in (AskCall ask) = None
rows_in (Merge delta) = Some delta.rows
rows_in SnapshotCall = None

-- nothing, where something refuses
abbrev pub unless_some : {X : Type 0} → Option Refusal → Option X → Option X
unless_some (Some refusal) o = None
unless_some None o = o

-- nothing, after want of memory
abbrev pub unless_memory : {X : Type 0} → Reply → Option X → Option X
unless_memory reply o = if is_memory reply then None else o

-- an operation that brings a session needs a place for it
abbrev pub has_room : Option Operation → ℕ → Type 0
has_room None room = Unit {0}
has_room (Some operation) room = IsTrue (arrives operation) → 0 < room

-- what was prepared for a call at a core
pub record IsReadyFor (c : Core) (call : Call) (p : Prepared) : Type 0 where
  pub reply : is_memory p.reply ≡ false → p.reply ≡ reply_of (core_view c) call
  pub refused : (refusal : Refusal) → reason (core_view c) call ≡ Some refusal → p.reply ≡ Refused refusal
  pub operation : p.operation ≡ unless_memory p.reply (unless_some (reason (core_view c) call) (operation_in (core_view c) call))
  pub heard : p.heard ≡ unless_memory p.reply (unless_some (reason (core_view c) call) (rows_in call))
  pub room : has_room p.operation c.room

-- The change that was prepared is what the durable parts before and after the call differ in, whichever account
-- the core stands for.
abbrev pub IsChangeFor : Core → Call → Prepared → Type 0
IsChangeFor c call p = (a : Account) → Stands a c → change_of p.change ≡ change_between a (served a call p.reply)

-- it was prepared for some call at this core, its room included
abbrev pub IsReady : Core → Prepared → Type 0
IsReady c p = (call : Call) × IsReadyFor c call p

-- the operation of an ask that nothing refuses
pub record IsOperationOf (c : Core) (ask : Ask) (operation : Operation) : Type 0 where
  pub accepted : reason (core_view c) (AskCall ask) ≡ None
  pub is : operation ≡ operation_of (core_view c) ask

-- the operation is that of some such ask
abbrev pub IsAccepted : Core → Operation → Type 0
IsAccepted c operation = (ask : Ask) × IsOperationOf c ask operation
