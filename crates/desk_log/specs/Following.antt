-- Which replies may follow a call at a site, whatever the site has done before.
use Rattle.std.specs.Prelude.{◌≡◌, ℕ, ◌≤◌, ◌⊎◌, ⊤}
use Rattle.merge_core.specs.Delta.{DeltaState}
use Rattle.session_list.specs.declared.session.Phase.{Phase}
use Rattle.admission_model.specs.declared.ask.Ask.TheVariants.{Read, Announce, Quill, Leave, Give, Help}
use Rattle.admission_model.specs.declared.ask.Call.{Call}
use Rattle.admission_model.specs.declared.ask.Call.TheVariants.{Ask as AskCall, Merge, Snapshot as SnapshotCall}
use Rattle.admission_model.specs.declared.reply.Refusal.{Refusal}
use Rattle.admission_model.specs.declared.reply.Refusal.TheVariants.{OtherLayout, BadRow, OwnRowAhead, Memory, Frozen, LogFull, StoreFault}
use Rattle.admission_model.specs.declared.reply.Reply.{Reply}
use Rattle.admission_model.specs.declared.reply.Reply.TheVariants.{Admitted, Announced, Left, Given, Gave, Merged, Snapshot as SnapshotReply, Refused}

-- The most counters that a merge raises: those of 256 records, of each of which 16 sites have a row of 19 counters.
abbrev pub most_raised : ℕ
most_raised = 77824

-- the reply is the answer of a call that nothing refuses
abbrev pub IsAnswer : Call → Reply → Type 0
IsAnswer (AskCall (Read r h)) reply = reply ≡ Admitted
IsAnswer (AskCall (Announce r h)) reply = (n : ℕ) × (reply ≡ Announced n)
IsAnswer (AskCall (Quill r h)) reply = reply ≡ Admitted
IsAnswer (AskCall (Leave r h)) reply = (p : Phase) × (reply ≡ Left p)
IsAnswer (AskCall (Give r to seats)) reply = reply ≡ Given
IsAnswer (AskCall (Help r)) reply = (to : ℕ) × ((seats : ℕ) × (reply ≡ Gave to seats))
IsAnswer (Merge delta) reply = (n : ℕ) × ((reply ≡ Merged n) × (n ≤ most_raised))
IsAnswer SnapshotCall reply = (delta : DeltaState) × (reply ≡ SnapshotReply delta)

-- a merge is refused for its rows, or by the desk or its store
abbrev pub RefusesMerge : Refusal → Type 0
RefusesMerge (OtherLayout row) = ⊤
RefusesMerge (BadRow row) = ⊤
RefusesMerge (OwnRowAhead r) = ⊤
RefusesMerge Memory = ⊤
RefusesMerge Frozen = ⊤
RefusesMerge LogFull = ⊤
RefusesMerge StoreFault = ⊤
RefusesMerge _ = ⊥

-- a snapshot changes nothing, so that no store refuses it
abbrev pub RefusesSnapshot : Refusal → Type 0
RefusesSnapshot Memory = ⊤
RefusesSnapshot Frozen = ⊤
RefusesSnapshot LogFull = ⊤
RefusesSnapshot _ = ⊥

-- a refusal that a call may get; those of what a holder asks are in the reply table
abbrev pub MayRefuse : Call → Refusal → Type 0
MayRefuse (AskCall ask) refusal = ⊤
MayRefuse (Merge delta) refusal = RefusesMerge refusal
MayRefuse SnapshotCall refusal = RefusesSnapshot refusal

-- the reply may follow the call
abbrev pub CanFollow : Call → Reply → Type 0
CanFollow call reply = IsAnswer call reply ⊎ ((refusal : Refusal) × ((reply ≡ Refused refusal) × MayRefuse call refusal))
