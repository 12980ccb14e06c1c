-- What the engine of `run` did, by the status that it ended with.
use Rattle.std.specs.Prelude.{◌≡◌, ℕ, ◌+◌, ◌⊎◌, List, ◌++◌, codes, decimal, Option, IfSome, Ok, Err}
use Rattle.merge_core.specs.Layout.{LayoutState}
use Rattle.desk_log.specs.declared.transcript.Transcript.{Transcript}
use Rattle.log_judge.specs.Verdict.{AreOfSites}
use Rattle.text_input.specs.declared.input.InputError.TheVariants.{TooLong}
use Rattle.text_input.specs.Input.{ReadsInput, LosesSome, input_limit}
use Rattle.text_input.specs.Lines.{lines_of}
use Rattle.text_input.specs.Source.{HasFault, IsFailure, LacksMemory, SourceState}
use Rattle.text_input.specs.Sink.{SinkState, Writes}
use Rattle.exit_status.specs.declared.status.Status.{Status}
use Rattle.exit_status.specs.declared.status.Status.TheVariants.{Done, Usage, NoLayout, NoStore, Fault, Refused, Memory, Io}
use Rattle.exit_status.specs.Endings.{too_long_text}
use Rattle.run_engine.specs.declared.script.Asked.{Asked}
use Rattle.run_engine.specs.declared.script.LineError.{LineError}
use Rattle.run_engine.specs.declared.script.LineError.TheVariants.{TooManyLines, BadWord, NoSite}
use Rattle.run_engine.specs.Scripts.{IsScript, IsRefusedAt}
use Rattle.run_engine.specs.Runs.{AreSiteRuns}
use Rattle.run_engine.specs.Replies.{IsOutput}
use Rattle.run_engine.specs.Logs.{WritesIfAny, logs_text}

-- the names of what a line is refused for, as the program writes them
abbrev pub error_name : LineError → List ℕ
error_name TooManyLines = codes "TooManyLines"
error_name BadWord = codes "BadWord"
error_name NoSite = codes "NoSite"

-- the line that tells of the first refused line
abbrev pub refusal_line : ℕ → LineError → List ℕ
refusal_line number e = codes "line " ++ (decimal number ++ (codes " refused " ++ (error_name e ++ codes "\n")))

-- Each site carried out what the script asks of it. The replies that its closed log has were written, with the right
-- verdict; and before that the lines of the closed logs, where there is a sink for them.
pub record WritesRun (layout : LayoutState) (asked : List Asked) (old new : SinkState) (logs logs_after : Option SinkState) : Type 0 where
  pub transcripts : List Transcript
  pub text : List ℕ
  pub runs : AreSiteRuns layout asked transcripts
  pub of_sites : AreOfSites layout transcripts
  pub output : IsOutput layout transcripts text
  pub logged : WritesIfAny logs logs_after (logs_text layout transcripts)
  pub written : Writes old new text

-- some line is refused, and that refusal of the first such line was written
pub record WritesRefusal (layout : LayoutState) (bytes : List ℕ) (old new : SinkState) : Type 0 where
  pub number : ℕ
  pub error : LineError
  pub refused : IsRefusedAt layout (lines_of bytes) number error
  pub written : Writes old new (refusal_line number error)

-- a write to one of the sinks failed
abbrev pub HasFailed : SinkState → Option SinkState → Type 0
HasFailed new logs_after = HasFault new.fault ⊎ IfSome logs_after (λ s. HasFault s.fault)

-- What was written once the script was read, by the status. Without memory nothing was written but, perhaps, closed logs.
abbrev pub AnswersRun : LayoutState → List Asked → SinkState → SinkState → Option SinkState → Option SinkState → Status → Type 0
AnswersRun layout asked old new logs logs_after Done = WritesRun layout asked old new logs logs_after
AnswersRun layout asked old new logs logs_after Refused = ⊥
AnswersRun layout asked old new logs logs_after Memory = new ≡ old
AnswersRun layout asked old new logs logs_after Io = HasFailed new logs_after
AnswersRun layout asked old new logs logs_after Usage = ⊥
AnswersRun layout asked old new logs logs_after (NoLayout fault) = ⊥
AnswersRun layout asked old new logs logs_after (NoStore refusal) = ⊥
AnswersRun layout asked old new logs logs_after Fault = ⊥

-- the lines of the input are a script, and it was carried out
pub record CarriesOut (layout : LayoutState) (bytes : List ℕ) (old new : SinkState) (logs logs_after : Option SinkState) : Type 0 where
  pub asked : List Asked
  pub script : IsScript layout (lines_of bytes) asked
  pub written : WritesRun layout asked old new logs logs_after

-- What was written for an input. A script that is refused leaves no logs.
abbrev pub AnswersScript : LayoutState → List ℕ → SinkState → SinkState → Option SinkState → Option SinkState → Status → Type 0
AnswersScript layout bytes old new logs logs_after Done = CarriesOut layout bytes old new logs logs_after
AnswersScript layout bytes old new logs logs_after Refused = WritesRefusal layout bytes old new × (logs_after ≡ logs)
AnswersScript layout bytes old new logs logs_after Memory = new ≡ old
AnswersScript layout bytes old new logs logs_after Io = HasFailed new logs_after
AnswersScript layout bytes old new logs logs_after Usage = ⊥
AnswersScript layout bytes old new logs logs_after (NoLayout fault) = ⊥
AnswersScript layout bytes old new logs logs_after (NoStore refusal) = ⊥
AnswersScript layout bytes old new logs logs_after Fault = ⊥

-- The whole engine: the bytes read are all that the source had, within the limit, and were carried out or refused; or
-- there are more, and that refusal alone was written; or memory, a read or a write failed. Without memory nothing was
-- written to the sink of replies, and where a read failed nothing was written at all. In each case the source lost at most
-- one byte past the limit. An engine has no word for wrong arguments, for want of a layout, or for a store.
abbrev pub EndsRun : LayoutState → SourceState → SourceState → SinkState → SinkState → Option SinkState → Option SinkState → Status → Type 0
EndsRun layout source source_after sink sink_after logs logs_after Done =
    (bytes : List ℕ) × ReadsInput source source_after (Ok bytes) × CarriesOut layout bytes sink sink_after logs logs_after
EndsRun layout source source_after sink sink_after logs logs_after Refused =
    (((bytes : List ℕ) × ReadsInput source source_after (Ok bytes) × WritesRefusal layout bytes sink sink_after)
    ⊎ (ReadsInput source source_after (Err TooLong) × Writes sink sink_after too_long_text)) × (logs_after ≡ logs)
EndsRun layout source source_after sink sink_after logs logs_after Memory =
    LosesSome source source_after (input_limit + 1) × LacksMemory source.fault source_after.fault × (sink_after ≡ sink)
EndsRun layout source source_after sink sink_after logs logs_after Io =
    LosesSome source source_after (input_limit + 1)
    × ((IsFailure source_after.fault × (sink_after ≡ sink) × (logs_after ≡ logs)) ⊎ HasFailed sink_after logs_after)
EndsRun layout source source_after sink sink_after logs logs_after Usage = ⊥
EndsRun layout source source_after sink sink_after logs logs_after (NoLayout fault) = ⊥
EndsRun layout source source_after sink sink_after logs logs_after (NoStore refusal) = ⊥
EndsRun layout source source_after sink sink_after logs logs_after Fault = ⊥
