-- What an outbox leaves in its pass, and what its report says of that (this project's own). The texts that it sends are
-- whole snapshots now and then, and between them the rows that are new since the last one that was sent: delta-states
-- with intervals, as in Almeida, Shoker and Baquero 2018.
use Rattle.std.specs.Prelude.{◌≡◌, ℕ, ◌+◌, ◌≤◌, ◌⊎◌, ◌%◌, ◌==◌, ⊤, Bool, true, false, List, [], ◌∷◌, ◌++◌, length, All, count_by, Option, Some, None, if◌then◌else◌}
use Rattle.merge_core.specs.Delta.{DeltaState}
use Rattle.merge_core.specs.Thin.{thin_rows}
use Rattle.admission_model.specs.declared.ask.Ask.TheVariants.{Help}
use Rattle.admission_model.specs.declared.ask.Call.{Call}
use Rattle.admission_model.specs.declared.ask.Call.TheVariants.{Ask as AskCall, Snapshot as SnapshotCall}
use Rattle.admission_model.specs.declared.reply.Reply.{Reply}
use Rattle.admission_model.specs.declared.reply.Reply.TheVariants.{Gave, Snapshot as SnapshotReply}
use Rattle.delta_codec.specs.DeltaText.{delta_text}
use Rattle.session_book.specs.declared.pass.Receipt.{Receipt}
use Rattle.session_book.specs.Following.{CanFollow}
use Rattle.session_book.specs.Passes.{PassState, pass_after}
use Rattle.exchange_threads.specs.Turns.{turn_after, lacks_at, IsMarked}
use Rattle.exchange_threads.specs.declared.turn.Turn.{Turn}
use Rattle.exchange_threads.specs.declared.turn.Turn.TheVariants.{GoesOn, IsOver, EndsRun}
use Rattle.exchange_threads.specs.declared.telling.Telling.{Telling}
use Rattle.exchange_threads.specs.declared.report.OutReport.{OutReport}

-- of so many texts one is whole
abbrev pub whole_every : ℕ
whole_every = 16

-- the rows of a snapshot that an earlier one has not
abbrev pub thinned : DeltaState → DeltaState → DeltaState
thinned d last = record { from = d.from; rows = thin_rows d.rows last.rows }

-- The text that is sent as number n, from 0: that of the whole snapshot where 16 divides n, and else that of the rows
-- that the last snapshot whose text was sent has not.
abbrev pub sent_text : ℕ → Option DeltaState → DeltaState → List ℕ
sent_text n None d = delta_text d
sent_text n (Some last) d = if n % whole_every == 0 then delta_text d else delta_text (thinned d last)

-- the site was asked to help
abbrev pub is_help_call : Call → Bool
is_help_call (AskCall (Help r)) = true
is_help_call _ = false

-- a snapshot was taken
abbrev pub is_snapshot_call : Call → Bool
is_snapshot_call SnapshotCall = true
is_snapshot_call _ = false

-- seats were given away
abbrev pub is_gave_reply : Reply → Bool
is_gave_reply (Gave to seats) = true
is_gave_reply _ = false

abbrev pub is_help : Receipt → Bool
is_help r = is_help_call r.call

abbrev pub is_snapshot : Receipt → Bool
is_snapshot r = is_snapshot_call r.call

-- the site was asked to help, and gave seats away
abbrev pub is_gift : Receipt → Bool
is_gift r = is_gave_reply r.reply

-- what an outbox asks of its site
abbrev pub IsTold : Receipt → Type 0
IsTold r = (is_help r ≡ true) ⊎ (is_snapshot r ≡ true)

-- A turn that did not end the run: memory ran out as the site was asked to help; or the site answered, and the gate was
-- shut; or the gate was open, and memory ran out over the snapshot, or over its text, or the text was sent.
pub data OutTurn : Type 0 where
  no_help : OutTurn
  gate_shut : Reply → OutTurn
  no_snapshot : Reply → OutTurn
  no_text : Reply → DeltaState → OutTurn
  text_sent : Reply → DeltaState → OutTurn

-- The turn that ended the run: the site had stopped or its log was full as it was asked to help, or, the gate being open,
-- as a snapshot was taken; or the snapshot's text found the channel closed, and is lost.
pub data OutStop : Type 0 where
  at_help : OutStop
  at_snapshot : Reply → OutStop
  at_channel : Reply → DeltaState → OutStop

-- the receipt of a site that was asked to help a record
abbrev pub help_receipt : ℕ → Reply → Receipt
help_receipt r reply = record { call = AskCall (Help r); reply = reply }

-- the receipt of a snapshot
abbrev pub shown_receipt : DeltaState → Receipt
shown_receipt d = record { call = SnapshotCall; reply = SnapshotReply d }

-- the receipts that a turn leaves whose record is this one
abbrev pub turn_receipts : ℕ → OutTurn → List Receipt
turn_receipts r no_help = []
turn_receipts r (gate_shut reply) = help_receipt r reply ∷ []
turn_receipts r (no_snapshot reply) = help_receipt r reply ∷ []
turn_receipts r (no_text reply d) = help_receipt r reply ∷ (shown_receipt d ∷ [])
turn_receipts r (text_sent reply d) = help_receipt r reply ∷ (shown_receipt d ∷ [])

-- those of the turn that ended the run, if one did
abbrev pub stop_receipts : ℕ → Option OutStop → List Receipt
stop_receipts r None = []
stop_receipts r (Some at_help) = []
stop_receipts r (Some (at_snapshot reply)) = help_receipt r reply ∷ []
stop_receipts r (Some (at_channel reply d)) = help_receipt r reply ∷ (shown_receipt d ∷ [])

-- the receipts of turns from number t on: of so many records the turns ask to help one after another, and begin anew
abbrev pub went_receipts : ℕ → ℕ → List OutTurn → List Receipt
went_receipts records t [] = []
went_receipts records t (x ∷ xs) = turn_receipts (t % records) x ++ went_receipts records (t + 1) xs

-- with those of the turn that ended the run
abbrev pub told_receipts : ℕ → ℕ → List OutTurn → Option OutStop → List Receipt
told_receipts records t went stop = went_receipts records t went ++ stop_receipts ((t + length went) % records) stop

-- how many turns ended the run
abbrev pub stops_in : Option OutStop → ℕ
stops_in None = 0
stops_in (Some s) = 1

-- how many snapshots it lost: that whose text found the channel closed, which is the last receipt
abbrev pub stop_lost : Option OutStop → ℕ
stop_lost None = 0
stop_lost (Some at_help) = 0
stop_lost (Some (at_snapshot reply)) = 0
stop_lost (Some (at_channel reply d)) = 1

abbrev pub is_sent_turn : OutTurn → Bool
is_sent_turn no_help = false
is_sent_turn (gate_shut reply) = false
is_sent_turn (no_snapshot reply) = false
is_sent_turn (no_text reply d) = false
is_sent_turn (text_sent reply d) = true

-- the turn met want of memory
abbrev pub is_lacking_turn : OutTurn → Bool
is_lacking_turn no_help = true
is_lacking_turn (gate_shut reply) = false
is_lacking_turn (no_snapshot reply) = true
is_lacking_turn (no_text reply d) = true
is_lacking_turn (text_sent reply d) = false

-- how a gate came out of a turn, which has this number: it was asked once, at this turn, and the turn went by its answer; or
-- the turn did not get so far
abbrev pub GateAtTurn : {G : Type 0} → (G → ℕ → Bool → G → Type 0) → ℕ → OutTurn → G → G → Type 0
GateAtTurn answers t no_help old new = new ≡ old
GateAtTurn answers t (gate_shut reply) old new = answers old t false new
GateAtTurn answers t (no_snapshot reply) old new = answers old t true new
GateAtTurn answers t (no_text reply d) old new = answers old t true new
GateAtTurn answers t (text_sent reply d) old new = answers old t true new

-- .. of the turn that ended the run, if one did
abbrev pub GateAtStop : {G : Type 0} → (G → ℕ → Bool → G → Type 0) → ℕ → Option OutStop → G → G → Type 0
GateAtStop answers t None old new = new ≡ old
GateAtStop answers t (Some at_help) old new = new ≡ old
GateAtStop answers t (Some (at_snapshot reply)) old new = answers old t true new
GateAtStop answers t (Some (at_channel reply d)) old new = answers old t true new

-- .. of turns from number t on, one after another
abbrev pub GateOverTurns : {G : Type 0} → (G → ℕ → Bool → G → Type 0) → ℕ → List OutTurn → G → G → Type 0
GateOverTurns answers t [] old new = new ≡ old
GateOverTurns {G} answers t (x ∷ xs) old new = (next : G) × GateAtTurn answers t x old next × GateOverTurns answers (t + 1) xs next new

-- .. and then of the one that ended the run
abbrev pub GateOverRun : {G : Type 0} → (G → ℕ → Bool → G → Type 0) → ℕ → List OutTurn → Option OutStop → G → G → Type 0
GateOverRun {G} answers t went stop old new = (last : G) × GateOverTurns answers t went old last × GateAtStop answers (t + length went) stop last new

-- A turn ends the run where the pass was told that the site has stopped or that its log is full, or the channel was closed.
abbrev pub IsOutStop : Turn → PassState → Option OutStop → Type 0
IsOutStop EndsRun p None = ⊥
IsOutStop EndsRun p (Some at_help) = IsMarked p
IsOutStop EndsRun p (Some (at_snapshot reply)) = IsMarked p
IsOutStop EndsRun p (Some (at_channel reply d)) = ⊤
IsOutStop GoesOn p stop = stop ≡ None
IsOutStop IsOver p stop = stop ≡ None

-- Turns of an outbox went so and left these receipts in its pass, and its report counts them: the turns, the gifts of the
-- site, the texts that were sent, and the turns that met want of memory. The gate is what it became as it was asked in these
-- turns, and they went by its answers.
pub record HasTold {G : Type 0} (answers : G → ℕ → Bool → G → Type 0) (records : ℕ) (old new : PassState) (gate_old gate_new : G) (before now : OutReport) (last : Turn) : Type 0 where
  pub went : List OutTurn
  pub stop : Option OutStop
  pub number : new.number ≡ old.number
  pub grows : new.receipts ≡ old.receipts ++ told_receipts records before.turns went stop
  pub turns : now.turns ≡ before.turns + (length went + stops_in stop)
  pub helped : now.helped ≡ before.helped + count_by is_gift (told_receipts records before.turns went stop)
  pub sent : now.sent ≡ before.sent + count_by is_sent_turn went
  pub memory : now.memory ≡ before.memory + count_by is_lacking_turn went
  pub gate : GateOverRun answers before.turns went stop gate_old gate_new
  pub why : IsOutStop last new stop

-- in each turn the site was helped at most once, and at most one text was sent, or the turn met want of memory
pub record IsOutAt (t : ℕ) (r : OutReport) : Type 0 where
  pub turns : r.turns ≡ t
  pub helped : r.helped ≤ t
  pub spent : r.sent + r.memory ≤ t

-- the report before the first turn
abbrev pub nothing_told : OutReport
nothing_told = record { turns = 0; helped = 0; sent = 0; memory = 0 }

-- the report after a turn began and the site was asked to help
abbrev pub after_help : OutReport → Reply → OutReport
after_help r reply = record {
  turns = r.turns + 1;
  helped = r.helped + (if is_gave_reply reply then 1 else 0);
  sent = r.sent;
  memory = r.memory + lacks_at (turn_after reply);
}

-- the site was asked to help the record whose turn it is, and the report tells of its reply
pub record HasAsked (records : ℕ) (old new : PassState) (before now : OutReport) (turn : Turn) : Type 0 where
  pub reply : Reply
  pub pass : new ≡ pass_after old (AskCall (Help (before.turns % records))) reply
  pub report : now ≡ after_help before reply
  pub went : turn ≡ turn_after reply

-- What an outbox keeps of a snapshot once its text was handed to the channel, by how the turn then went: one whose text
-- was sent is what later ones are compared with, and any other is forgotten.
abbrev pub IsSending : DeltaState → Telling → Telling → Turn → Type 0
IsSending d old new GoesOn = new ≡ record { report = record old.report { sent = old.report.sent + 1 }; last = Some d }
IsSending d old new IsOver = new ≡ record { report = record old.report { memory = old.report.memory + 1 }; last = old.last }
IsSending d old new EndsRun = new ≡ old

-- the site was asked for a snapshot, and its text was handed to the channel, or there is none
abbrev pub IsShowing : Reply → Telling → Telling → Turn → Type 0
IsShowing (SnapshotReply d) old new turn = IsSending d old new turn
IsShowing reply old new turn =
    (new ≡ record { report = record old.report { memory = old.report.memory + lacks_at (turn_after reply) }; last = old.last }) × (turn ≡ turn_after reply)

pub record HasShown (old new : PassState) (before now : Telling) (turn : Turn) : Type 0 where
  pub reply : Reply
  pub pass : new ≡ pass_after old SnapshotCall reply
  pub follows : CanFollow SnapshotCall reply
  pub showing : IsShowing reply before now turn

-- a run began as many turns as were asked for, unless its last one ended it before
abbrev pub IsOutEnd : Turn → ℕ → OutReport → Type 0
IsOutEnd EndsRun asked r = r.turns ≤ asked
IsOutEnd _ asked r = r.turns ≡ asked

-- A whole run of an outbox of a site with so many records, and how its last turn went. It asked for help and for snapshots
-- alone, sent no more texts than it took snapshots, and sent the text of each snapshot but for those turns that met want of
-- memory, and the last snapshot where the channel was closed. Each turn went by the answer of the gate that was handed in.
pub record HasRunOut {G : Type 0} (answers : G → ℕ → Bool → G → Type 0) (records : ℕ) (old new : PassState) (gate_old gate_new : G) (asked : ℕ) (r : OutReport) : Type 0 where
  pub last : Turn
  pub told : HasTold answers records old new gate_old gate_new nothing_told r last
  pub kinds : All IsTold (told_receipts records 0 told.went told.stop)
  pub shown : r.sent ≤ count_by is_snapshot (told_receipts records 0 told.went told.stop)
  pub unsent : count_by is_snapshot (told_receipts records 0 told.went told.stop) ≤ r.sent + r.memory + stop_lost told.stop
  pub within : IsOutAt r.turns r
  pub ending : IsOutEnd last asked r

-- .. at an outlet that is closed or not now: a run that ended early found the site stopped or its log full, or the outlet
-- closed
pub record HasRunOutAt {G : Type 0} (answers : G → ℕ → Bool → G → Type 0) (closed : Type 0) (records : ℕ) (old new : PassState) (gate_old gate_new : G) (asked : ℕ) (r : OutReport) : Type 0 where
  pub ran : HasRunOut answers records old new gate_old gate_new asked r
  pub early : ran.last ≡ EndsRun → closed ⊎ IsMarked new
