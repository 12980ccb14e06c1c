-- What the command `judge` does over its input, or over the files that are named (the project's own).
use Rattle.std.specs.Prelude.{◌≡◌, ◌⊎◌, ℕ, List, [], ◌∷◌, ◌++◌, codes, decimal, length, slice_index_or, Option, Result, Ok, Err}
use Rattle.clap.specs.Words.{Text}
use Rattle.merge_core.specs.Layout.{LayoutState}
use Rattle.text_input.specs.Source.{HasFault, SourceState}
use Rattle.text_input.specs.Sink.{SinkState, Writes}
use Rattle.exit_status.specs.declared.status.Status.{Status}
use Rattle.exit_status.specs.declared.status.Status.TheVariants.{Done, Refused, Memory, Io}
use Rattle.exit_status.specs.Endings.{EndsWith}
use Rattle.judge_engine.specs.declared.files.FilesError.{FilesError}
use Rattle.judge_engine.specs.declared.files.FilesError.TheVariants as files
use Rattle.judge_engine.specs.Engine.{EndsJudge, refusal_line}
use Rattle.judge_engine.specs.Files.{EndsFiles, Fails, Holds}

-- an opened file may have any bytes that some file has: no contract has what is at a path
abbrev pub opened_with : {F : Type 0} → (F → Option (List ℕ)) → Holds
opened_with {F} remaining file had = (opened : F) × (had ≡ remaining opened)

-- a file may fail to open for any reason
abbrev pub any_fault : Fails
any_fault file kind = Unit {0}

-- the path of a file, by its number
abbrev pub path_at : List Text → ℕ → Text
path_at paths file = slice_index_or paths file []

-- the line that names the first line that is none of a log, by its file
abbrev pub refused_text : Text → ℕ → List ℕ
refused_text path number = path ++ (codes " " ++ refusal_line number)

-- what is said of a file that was not read
abbrev pub not_read_text : Text → List ℕ
not_read_text path = path ++ codes " refused NotRead\n"

-- what is said of files that changed while they were read
abbrev pub changed_text : List ℕ
changed_text = codes "logs refused Changed\n"

-- a text was said, and the program ended as where a read fails
abbrev pub EndsAsUnread : List ℕ → SinkState → SinkState → ℕ → Type 0
EndsAsUnread text errors errors_after code = (Writes errors errors_after text ⊎ HasFault errors_after.fault) × (code ≡ 7)

-- the refusal of a line was written, or a write failed
abbrev pub TellsRefused : List ℕ → SinkState → SinkState → Status → Type 0
TellsRefused text sink sink_after ended = (Writes sink sink_after text × (ended ≡ Refused)) ⊎ (HasFault sink_after.fault × (ended ≡ Io))

-- what the program told of files that were judged, or not
abbrev pub TellsFiles : List Text → Result (Unit {0}) FilesError → SinkState → SinkState → SinkState → SinkState → ℕ → Type 0
TellsFiles paths (Ok _) sink sink_after errors errors_after code = (sink_after ≡ sink) × EndsWith Done errors errors_after code
TellsFiles paths (Err (files.Refused file line)) sink sink_after errors errors_after code =
    (ended : Status) × TellsRefused (refused_text (path_at paths file) line) sink sink_after ended × EndsWith ended errors errors_after code
TellsFiles paths (Err (files.Unread file)) sink sink_after errors errors_after code =
    (sink_after ≡ sink) × EndsAsUnread (not_read_text (path_at paths file)) errors errors_after code
TellsFiles paths (Err files.Changed) sink sink_after errors errors_after code = (sink_after ≡ sink) × EndsAsUnread changed_text errors errors_after code
TellsFiles paths (Err files.Memory) sink sink_after errors errors_after code = (sink_after ≡ sink) × EndsWith Memory errors errors_after code
TellsFiles paths (Err files.Unwritten) sink sink_after errors errors_after code = (sink_after ≡ sink) × EndsWith Io errors errors_after code

-- files were judged, which were opened at these paths, and that was told
pub record EndsFilesAt {F : Type 0} (remaining : F → Option (List ℕ)) (paths : List Text) (cut : Option (List ℕ)) (layout : LayoutState)
    (sink sink_after errors errors_after : SinkState) (code : ℕ) : Type 0 where
  pub judged : Result (Unit {0}) FilesError
  pub sink_between : SinkState
  pub ended : EndsFiles layout cut (opened_with remaining) any_fault (length paths) sink sink_between judged
  pub told : TellsFiles paths judged sink_between sink_after errors errors_after code

-- the command `judge`: the input is judged where no file is named, and else the files
abbrev pub EndsJudgeOf : {F : Type 0} → (F → Option (List ℕ)) → List Text → Option (List ℕ) → LayoutState → SourceState → SourceState → SinkState → SinkState → SinkState → SinkState → ℕ → Type 0
EndsJudgeOf remaining [] cut layout source source_after sink sink_after errors errors_after code =
    (ended : Status) × EndsJudge layout cut source source_after sink sink_after ended × EndsWith ended errors errors_after code
EndsJudgeOf remaining (path ∷ paths) cut layout source source_after sink sink_after errors errors_after code =
    (source_after ≡ source) × EndsFilesAt remaining (path ∷ paths) cut layout sink sink_after errors errors_after code
