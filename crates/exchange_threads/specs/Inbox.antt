-- What an inbox leaves in its pass, and what its report says of the texts that it took (this project's own).
use Rattle.std.specs.Prelude.{◌≡◌, ℕ, ◌+◌, ◌*◌, ◌^◌, ◌<◌, ◌≤◌, ◌⊎◌, ⊤, Bool, true, false, List, [], ◌∷◌, ◌++◌, length, All, count_by, sum_by, Option, Some, None, is_some, Err, if◌then◌else◌}
use Rattle.merge_core.specs.Delta.{DeltaState}
use Rattle.admission_model.specs.declared.ask.Call.TheVariants.{Merge}
use Rattle.admission_model.specs.declared.reply.Reply.{Reply}
use Rattle.admission_model.specs.declared.reply.Reply.TheVariants.{Merged}
use Rattle.delta_codec.specs.declared.fault.DecodeError.{DecodeError}
use Rattle.delta_codec.specs.DeltaText.{delta_text}
use Rattle.delta_codec.specs.Decodes.{Decodes}
use Rattle.session_book.specs.Log.{is_logged}
use Rattle.session_book.specs.Following.{CanFollow, most_raised}
use Rattle.session_book.specs.declared.pass.Receipt.{Receipt}
use Rattle.session_book.specs.Passes.{PassState, pass_after}
use Rattle.exchange_threads.specs.declared.names.RefusalName.{RefusalName}
use Rattle.exchange_threads.specs.Names.{unread_name, merge_name}
use Rattle.exchange_threads.specs.Counts.{count_names, count_total}
use Rattle.exchange_threads.specs.Turns.{turn_after, stops_at, lacks_at, IsMarked}
use Rattle.exchange_threads.specs.declared.turn.Turn.{Turn}
use Rattle.exchange_threads.specs.declared.turn.Turn.TheVariants.{GoesOn, EndsRun}
use Rattle.exchange_threads.specs.declared.report.InReport.{InReport}

-- what came of a text that an inbox took: its delta was handed to the site, which gave this logged reply; it is no
-- delta's text, and was counted by this name; or memory ran out
pub data Fate : Type 0 where
  heard : DeltaState → Reply → Fate
  unread : DecodeError → RefusalName → Fate
  lacking : Fate

-- a text that was taken, and what came of it
pub record Taken : Type 0 where
  pub text : List ℕ
  pub fate : Fate

-- the fate is one that the text may have
abbrev pub IsFate : List ℕ → Fate → Type 0
IsFate text (heard d reply) = (text ≡ delta_text d) × (is_logged reply ≡ true)
IsFate text (unread e name) = Decodes text (Err e) × (unread_name e ≡ Some name)
IsFate text lacking = ⊤

abbrev pub IsTaken : Taken → Type 0
IsTaken t = IsFate t.text t.fate

-- the receipt that a fate leaves, if any
abbrev pub fate_receipts : Fate → List Receipt
fate_receipts (heard d reply) = record { call = Merge d; reply = reply } ∷ []
fate_receipts _ = []

-- the name, if there is one
abbrev pub name_list : Option RefusalName → List RefusalName
name_list (Some name) = name ∷ []
name_list None = []

-- the name that a fate is counted by, if any
abbrev pub fate_names : Fate → List RefusalName
fate_names (heard d reply) = name_list (merge_name reply)
fate_names (unread e name) = name ∷ []
fate_names lacking = []

abbrev pub is_lacking_fate : Fate → Bool
is_lacking_fate lacking = true
is_lacking_fate _ = false

abbrev pub is_lacking : Taken → Bool
is_lacking t = is_lacking_fate t.fate

-- the receipts that texts leave, in order
abbrev pub receipts_from : List Taken → List Receipt
receipts_from [] = []
receipts_from (t ∷ ts) = fate_receipts t.fate ++ receipts_from ts

-- the texts themselves, in order
abbrev pub texts_from : List Taken → List (List ℕ)
texts_from [] = []
texts_from (t ∷ ts) = t.text ∷ texts_from ts

-- the names that texts are counted by, in order
abbrev pub names_from : List Taken → List RefusalName
names_from [] = []
names_from (t ∷ ts) = fate_names t.fate ++ names_from ts

-- how many counters a reply says to have raised
abbrev pub raise_of : Reply → ℕ
raise_of (Merged n) = n
raise_of _ = 0

abbrev pub raised_by : Receipt → ℕ
raised_by r = raise_of r.reply

-- A text that ended the run is one of the texts that were taken: the pass was told that the site has stopped, or that its
-- log is full.
abbrev pub IsInReason : Turn → PassState → List (List ℕ) → Type 0
IsInReason EndsRun p cut = (cut ≡ []) ⊎ ((length cut ≡ 1) × IsMarked p)
IsInReason _ p cut = cut ≡ []

-- Turns of an inbox took these texts, in order. Each left a receipt of a `Merge` of its delta, or was counted by the name of
-- its refusal, or by its turn in `memory`; `cut` has the last text where it ended the run. Of the turns, `skipped` met want
-- of memory before they took a text, and the last may have ended the run.
pub record HasHeard (texts : List (List ℕ)) (old new : PassState) (before now : InReport) (turns : ℕ) (last : Turn) : Type 0 where
  pub takes : List Taken
  pub skipped : ℕ
  pub cut : List (List ℕ)
  pub listed : texts ≡ texts_from takes ++ cut
  pub number : new.number ≡ old.number
  pub grows : new.receipts ≡ old.receipts ++ receipts_from takes
  pub each : All IsTaken takes
  pub taken : now.taken ≡ before.taken + length texts
  pub raised : now.raised ≡ before.raised + sum_by raised_by (receipts_from takes)
  pub refused : now.refused.names ≡ count_names before.refused.names (names_from takes)
  pub memory : now.memory ≡ before.memory + (count_by is_lacking takes + skipped)
  pub begun : turns ≡ length takes + (skipped + stops_at last)
  pub why : IsInReason last new cut

-- in each of at most so many turns at most one text was taken, and one refusal or want of memory counted
pub record IsInAt (t : ℕ) (r : InReport) : Type 0 where
  pub taken : r.taken ≤ t
  pub raised : r.raised ≤ most_raised * t
  pub noted : count_total r.refused.names + r.memory ≤ t

-- what is told of one text more fits into the report
pub record CanNote (r : InReport) : Type 0 where
  pub memory : r.memory + 1 < 2 ^ 64
  pub raised : r.raised + most_raised < 2 ^ 64
  pub refused : count_total r.refused.names + 1 < 2 ^ 64

-- one turn more fits into the report
pub record CanCount (r : InReport) : Type 0 where
  pub taken : r.taken + 1 < 2 ^ 64
  pub notes : CanNote r

-- the report counts one turn more
pub record CountsTurn (old new : InReport) : Type 0 where
  pub taken : new.taken ≤ old.taken + 1
  pub raised : new.raised ≤ old.raised + most_raised
  pub noted : count_total new.refused.names + new.memory ≤ count_total old.refused.names + old.memory + 1

-- the report before the first turn, of whose room nothing is said
abbrev pub nothing_heard : InReport
nothing_heard = record { taken = 0; raised = 0; refused = record { names = []; room = 0 }; memory = 0 }

-- the report tells of the site's reply to a merge
pub record TellsMerge (old new : InReport) (reply : Reply) : Type 0 where
  pub taken : new.taken ≡ old.taken
  pub raised : new.raised ≡ old.raised + raise_of reply
  pub refused : new.refused.names ≡ count_names old.refused.names (name_list (merge_name reply))
  pub memory : new.memory ≡ old.memory + lacks_at (turn_after reply)

-- the report tells of a text that is no delta's
pub record TellsUnread (old new : InReport) (e : DecodeError) : Type 0 where
  pub taken : new.taken ≡ old.taken
  pub raised : new.raised ≡ old.raised
  pub refused : new.refused.names ≡ count_names old.refused.names (name_list (unread_name e))
  pub memory : new.memory ≡ old.memory + (if is_some (unread_name e) then 0 else 1)

-- the text was a delta's, and the site answered so as it was handed the delta
pub record HearsDelta (text : List ℕ) (old new : PassState) (before now : InReport) (last : Turn) : Type 0 where
  pub delta : DeltaState
  pub reply : Reply
  pub read : text ≡ delta_text delta
  pub follows : CanFollow (Merge delta) reply
  pub pass : new ≡ pass_after old (Merge delta) reply
  pub tells : TellsMerge (record before { taken = before.taken + 1 }) now reply
  pub went : last ≡ turn_after reply

-- the text was none that could be read
pub record HearsFault (text : List ℕ) (old new : PassState) (before now : InReport) (last : Turn) : Type 0 where
  pub error : DecodeError
  pub read : Decodes text (Err error)
  pub pass : new ≡ old
  pub tells : TellsUnread (record before { taken = before.taken + 1 }) now error
  pub went : last ≡ GoesOn

abbrev pub HearsText : List ℕ → PassState → PassState → InReport → InReport → Turn → Type 0
HearsText text old new before now last = HearsDelta text old new before now last ⊎ HearsFault text old new before now last

-- a run began as many turns as were asked for, unless its last one ended it before
abbrev pub IsInEnd : Turn → ℕ → ℕ → Type 0
IsInEnd EndsRun asked turns = turns ≤ asked
IsInEnd _ asked turns = turns ≡ asked

-- a turn of an inbox at an inlet whose account had these texts and has those of the turn behind them now
pub record HasTurned (accounts : List (List ℕ) → ℕ → Bool → Type 0) (earlier : List (List ℕ)) (old new : PassState) (before now : InReport) (last : Turn) : Type 0 where
  pub texts : List (List ℕ)
  pub heard : HasHeard texts old new before now 1 last
  pub ended : Bool
  pub account : accounts (earlier ++ texts) now.memory ended
  pub marked : ended ≡ true → (last ≡ EndsRun) × IsMarked new

-- a whole run of an inbox that took these texts, how many turns it began, and how its last one went
pub record HasRunIn (texts : List (List ℕ)) (old new : PassState) (asked : ℕ) (r : InReport) : Type 0 where
  pub turns : ℕ
  pub last : Turn
  pub heard : HasHeard texts old new nothing_heard r turns last
  pub within : IsInAt asked r
  pub ending : IsInEnd last asked turns

-- .. at an inlet that is closed or not now, and whose account has these texts now: a run that ended early found the site
-- stopped or its log full, or the inlet closed
pub record HasRunInAt (closed : Type 0) (accounts : List (List ℕ) → Bool → Type 0) (old new : PassState) (asked : ℕ) (r : InReport) : Type 0 where
  pub texts : List (List ℕ)
  pub ran : HasRunIn texts old new asked r
  pub early : ran.last ≡ EndsRun → closed ⊎ IsMarked new
  pub ended : Bool
  pub account : accounts texts ended
  pub marked : ended ≡ true → IsMarked new
