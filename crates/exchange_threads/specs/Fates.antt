-- What came of a text that an inbox took (this project's own).
use Rattle.std.specs.Prelude.{◌≡◌, ℕ, ◌+◌, Bool, true, false, List, [], ◌∷◌, ◌++◌, length}
use Rattle.merge_core.specs.Delta.{DeltaState}
use Rattle.admission_model.specs.declared.ask.Call.TheVariants.{Merge as MergeCall}
use Rattle.admission_model.specs.declared.reply.Refusal.TheVariants as Why
use Rattle.admission_model.specs.declared.reply.Reply.{Reply}
use Rattle.admission_model.specs.declared.reply.Reply.TheVariants.{Refused}
use Rattle.delta_codec.specs.declared.fault.DecodeError.{DecodeError}
use Rattle.delta_codec.specs.declared.fault.DecodeError.TheVariants as Fault
use Rattle.delta_codec.specs.DeltaText.{delta_text}
use Rattle.delta_codec.specs.Decodes.{HasNoDelta}
use Rattle.session_book.specs.declared.pass.Receipt.{Receipt}
use Rattle.session_book.specs.Passes.{PassState}
use Rattle.exchange_threads.specs.declared.fate.Fate.{Fate}
use Rattle.exchange_threads.specs.declared.fate.Fate.TheVariants.{Merge, NoDelta, Memory, Ended}
use Rattle.exchange_threads.specs.Turns.{IsMarked}
use Rattle.exchange_threads.specs.declared.turn.Turn.{Turn}
use Rattle.exchange_threads.specs.declared.turn.Turn.TheVariants.{EndsRun}
use Rattle.exchange_threads.specs.declared.report.InReport.{InReport}

-- what came of a text whose delta the site was handed, by its reply and the place of the receipt that it may leave
abbrev pub merge_fate : Reply → ℕ → Fate
merge_fate (Refused Why.Memory) place = Memory
merge_fate (Refused Why.Frozen) place = Ended
merge_fate (Refused Why.LogFull) place = Ended
merge_fate _ place = Merge place

-- what came of a text that could not be read
abbrev pub unread_fate : DecodeError → Fate
unread_fate Fault.Memory = Memory
unread_fate _ = NoDelta

-- the text ended the run
abbrev pub is_ended : Fate → Bool
is_ended Ended = true
is_ended _ = false

-- how many turns met want of memory over the text
abbrev pub fate_lacks : Fate → ℕ
fate_lacks Memory = 1
fate_lacks _ = 0

-- the text has this fate, where the pass had so many receipts before, and these came
abbrev pub IsFateOf : List ℕ → Fate → ℕ → List Receipt → Type 0
IsFateOf text (Merge at) count added =
    (d : DeltaState) × (reply : Reply) × (at ≡ count) × (text ≡ delta_text d) × (added ≡ record { call = MergeCall d; reply = reply } ∷ [])
IsFateOf text NoDelta count added = HasNoDelta text × (added ≡ [])
IsFateOf text Memory count added = added ≡ []
IsFateOf text Ended count added = added ≡ []

-- a text had this fate in a turn that went so: the receipts that came, the turns that met want of memory, and a mark in
-- the pass where the text ended the run
pub record HasFate (text : List ℕ) (fate : Fate) (old new : PassState) (before now : InReport) (turn : Turn) : Type 0 where
  pub added : List Receipt
  pub grows : new.receipts ≡ old.receipts ++ added
  pub taken : now.taken ≡ before.taken + 1
  pub memory : now.memory ≡ before.memory + fate_lacks fate
  pub fate_of : IsFateOf text fate (length old.receipts) added
  pub ends : is_ended fate ≡ true → (turn ≡ EndsRun) × IsMarked new
  pub goes_on : is_ended fate ≡ false → ¬ (turn ≡ EndsRun)
