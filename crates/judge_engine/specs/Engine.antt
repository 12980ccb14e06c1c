-- What the engine of `judge` did, by the status that it ended with.
use Rattle.std.specs.Prelude.{◌≡◌, ℕ, ◌+◌, ◌⊎◌, List, ◌++◌, codes, decimal, Option, Ok, Err}
use Rattle.merge_core.specs.declared.layout.RecordSpec.{RecordSpec}
use Rattle.merge_core.specs.Layout.{LayoutState}
use Rattle.desk_log.specs.declared.transcript.Transcript.{Transcript}
use Rattle.log_judge.specs.declared.verdict.Verdict.{Verdict}
use Rattle.log_judge.specs.declared.verdict.Verdict.TheVariants.{BadCut, Consistent}
use Rattle.log_judge.specs.Table.{cut_table}
use Rattle.log_judge.specs.Verdict.{IsSafeCut, IsVerdict}
use Rattle.transcript_reader.specs.Reading.{AreTranscriptsOf, IsRefusedAt}
use Rattle.text_input.specs.declared.input.InputError.TheVariants.{TooLong}
use Rattle.text_input.specs.Input.{ReadsInput, LosesSome, input_limit}
use Rattle.text_input.specs.Lines.{lines_of}
use Rattle.text_input.specs.Source.{HasFault, IsFailure, LacksMemory, SourceState}
use Rattle.text_input.specs.Sink.{SinkState, Writes}
use Rattle.exit_status.specs.declared.status.Status.{Status}
use Rattle.exit_status.specs.declared.status.Status.TheVariants.{Done, Usage, NoLayout, NoStore, Fault, Refused, Memory, Io}
use Rattle.exit_status.specs.Endings.{too_long_text}
use Rattle.judge_engine.specs.Cuts.{lengths_of}
use Rattle.judge_engine.specs.Verdicts.{verdict_line}

-- the line that tells of the first line that is none of a log
abbrev pub refusal_line : ℕ → List ℕ
refusal_line number = codes "line " ++ (decimal number ++ codes " refused NotTranscript\n")

-- the table of a cut and the verdict on it; the verdict alone where it is no cut
abbrev pub judgement_text : List RecordSpec → List Transcript → List ℕ → Verdict → List ℕ
judgement_text records ts cut BadCut = verdict_line records BadCut
judgement_text records ts cut verdict = cut_table ts cut ++ verdict_line records verdict

-- The text is that of the right verdict. Where that is `Consistent`, the seats inside at the cut are at most those of
-- the record, and a writer inside is alone.
pub record IsJudgement (layout : LayoutState) (ts : List Transcript) (cut : List ℕ) (text : List ℕ) : Type 0 where
  pub verdict : Verdict
  pub right : IsVerdict layout ts cut verdict
  pub safe : verdict ≡ Consistent → (r : ℕ) → IsSafeCut layout ts cut r
  pub is_text : text ≡ judgement_text layout.records ts cut verdict

-- the bytes are the lines of closed logs, and the judgement on the cut through them was written
pub record WritesJudgement (layout : LayoutState) (cut : Option (List ℕ)) (bytes : List ℕ) (old new : SinkState) : Type 0 where
  pub transcripts : List Transcript
  pub text : List ℕ
  pub read : AreTranscriptsOf layout bytes transcripts
  pub judged : IsJudgement layout transcripts (lengths_of cut transcripts) text
  pub written : Writes old new text

-- some line is none of a log, and the refusal of the first such line was written
pub record WritesRefusal (layout : LayoutState) (bytes : List ℕ) (old new : SinkState) : Type 0 where
  pub number : ℕ
  pub refused : IsRefusedAt layout (lines_of bytes) number
  pub written : Writes old new (refusal_line number)

-- What was written for an input, by the status. Without memory nothing was written. Nothing is said of it where a write
-- failed, which is told where the sink met a fault, and there alone.
abbrev pub AnswersLogs : LayoutState → Option (List ℕ) → List ℕ → SinkState → SinkState → Status → Type 0
AnswersLogs layout cut bytes old new Done = WritesJudgement layout cut bytes old new
AnswersLogs layout cut bytes old new Refused = WritesRefusal layout bytes old new
AnswersLogs layout cut bytes old new Memory = new ≡ old
AnswersLogs layout cut bytes old new Io = HasFault new.fault
AnswersLogs layout cut bytes old new Usage = ⊥
AnswersLogs layout cut bytes old new (NoLayout fault) = ⊥
AnswersLogs layout cut bytes old new (NoStore refusal) = ⊥
AnswersLogs layout cut bytes old new Fault = ⊥

-- The whole engine: the bytes read are all that the source had, within the limit, and their answer was written; or there
-- are more, and that refusal alone was written; or memory, a read or a write failed. Without memory, and where a read
-- failed, nothing was written. In each case the source lost at most one byte past the limit. An engine has no word for
-- wrong arguments, for want of a layout, or for a store.
abbrev pub EndsJudge : LayoutState → Option (List ℕ) → SourceState → SourceState → SinkState → SinkState → Status → Type 0
EndsJudge layout cut source source_after sink sink_after Done =
    (bytes : List ℕ) × ReadsInput source source_after (Ok bytes) × WritesJudgement layout cut bytes sink sink_after
EndsJudge layout cut source source_after sink sink_after Refused =
    ((bytes : List ℕ) × ReadsInput source source_after (Ok bytes) × WritesRefusal layout bytes sink sink_after)
    ⊎ (ReadsInput source source_after (Err TooLong) × Writes sink sink_after too_long_text)
EndsJudge layout cut source source_after sink sink_after Memory =
    LosesSome source source_after (input_limit + 1) × LacksMemory source.fault source_after.fault × (sink_after ≡ sink)
EndsJudge layout cut source source_after sink sink_after Io =
    LosesSome source source_after (input_limit + 1) × ((IsFailure source_after.fault × (sink_after ≡ sink)) ⊎ HasFault sink_after.fault)
EndsJudge layout cut source source_after sink sink_after Usage = ⊥
EndsJudge layout cut source source_after sink sink_after (NoLayout fault) = ⊥
EndsJudge layout cut source source_after sink sink_after (NoStore refusal) = ⊥
EndsJudge layout cut source source_after sink sink_after Fault = ⊥
