-- The ranges of numbers in calls and replies: those of their types.
use Rattle.std.specs.Prelude.{◌<◌, ◌^◌}
use Rattle.merge_core.specs.Delta.{IsDelta}
use Rattle.admission_model.specs.declared.ask.Ask.{Ask}
use Rattle.admission_model.specs.declared.ask.Ask.TheVariants.{Read, Announce, Quill, Leave, Give, Help}
use Rattle.admission_model.specs.declared.ask.Call.{Call}
use Rattle.admission_model.specs.declared.ask.Call.TheVariants.{Ask as AskCall, Merge, Snapshot}
use Rattle.admission_model.specs.declared.reply.Refusal.{Refusal}
use Rattle.admission_model.specs.declared.reply.Refusal.TheVariants.{WriterAnnounced, NoSeat, MissingSeats, TooFewRights, OtherLayout, BadRow, OwnRowAhead}
use Rattle.admission_model.specs.declared.reply.Reply.{Reply}
use Rattle.admission_model.specs.declared.reply.Reply.TheVariants.{Announced, Gave, Merged, Snapshot as SnapshotReply, Refused}
use Rattle.desk_log.specs.declared.entry.Entry.{Entry}

-- records and sites are numbers of 16 bits, holders and seats of 64
abbrev pub FitsAsk : Ask → Type 0
FitsAsk (Read r h) = (r < 2 ^ 16) × (h < 2 ^ 64)
FitsAsk (Announce r h) = (r < 2 ^ 16) × (h < 2 ^ 64)
FitsAsk (Quill r h) = (r < 2 ^ 16) × (h < 2 ^ 64)
FitsAsk (Leave r h) = (r < 2 ^ 16) × (h < 2 ^ 64)
FitsAsk (Give r to seats) = (r < 2 ^ 16) × ((to < 2 ^ 16) × (seats < 2 ^ 64))
FitsAsk (Help r) = r < 2 ^ 16

abbrev pub FitsCall : Call → Type 0
FitsCall (AskCall ask) = FitsAsk ask
FitsCall (Merge delta) = IsDelta delta
FitsCall Snapshot = Unit {0}

-- the seats of a record are a number of 32 bits
abbrev pub FitsRefusal : Refusal → Type 0
FitsRefusal (WriterAnnounced site) = site < 2 ^ 16
FitsRefusal (NoSeat rights) = rights < 2 ^ 64
FitsRefusal (MissingSeats rights seats) = (rights < 2 ^ 64) × (seats < 2 ^ 32)
FitsRefusal (TooFewRights rights) = rights < 2 ^ 64
FitsRefusal (OtherLayout row) = row < 2 ^ 64
FitsRefusal (BadRow row) = row < 2 ^ 64
FitsRefusal (OwnRowAhead rec) = rec < 2 ^ 16
FitsRefusal _ = Unit {0}

abbrev pub FitsReply : Reply → Type 0
FitsReply (Announced number) = number < 2 ^ 64
FitsReply (Gave to seats) = (to < 2 ^ 16) × (seats < 2 ^ 64)
FitsReply (Merged risen) = risen < 2 ^ 64
FitsReply (SnapshotReply delta) = IsDelta delta
FitsReply (Refused refusal) = FitsRefusal refusal
FitsReply _ = Unit {0}

pub record FitsEntry (e : Entry) : Type 0 where
  pub pass : e.pass < 2 ^ 16
  pub call : FitsCall e.call
  pub reply : FitsReply e.reply
