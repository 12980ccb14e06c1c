-- What judging closed logs in files came to: what is known of the files that open is given by `holds`, of those that do not
-- by `fails` (this project's own words).
use Rattle.std.specs.Prelude.{◌≡◌, ◌≢◌, ◌<◌, ◌⊎◌, ℕ, List, [], ◌∷◌, ◌++◌, length, slice_index_or, Option, IfSome, Result, Ok, Err}
use Rattle.std.specs.Io.KnownBytes.{Consumes, IsAtEnd}
use Rattle.std.specs.declared.io.ErrorKind.{ErrorKind}
use Rattle.std.specs.declared.io.ErrorKind.TheVariants.{OutOfMemory}
use Rattle.merge_core.specs.Layout.{LayoutState}
use Rattle.text_input.specs.declared.input.InputError.{InputError}
use Rattle.text_input.specs.declared.input.InputError.TheVariants as input
use Rattle.text_input.specs.Lines.{lines_of}
use Rattle.text_input.specs.Source.{HasFault, IsFailure, LacksMemory, SourceState}
use Rattle.text_input.specs.Sink.{SinkState, Writes}
use Rattle.transcript_reader.specs.declared.runs.SiteRun.{SiteRun}
use Rattle.transcript_reader.specs.Reading.{AreLines, IsRefusedAt, transcripts_below}
use Rattle.judge_engine.specs.Cuts.{lengths_of}
use Rattle.judge_engine.specs.Engine.{IsJudgement}
use Rattle.judge_engine.specs.declared.files.FilesError.{FilesError}
use Rattle.judge_engine.specs.declared.files.FilesError.TheVariants.{Refused, Unread, Changed, Memory, Unwritten}

-- what a file may have when it is opened, where its bytes are known, by its number
abbrev pub Holds : Type 1
Holds = ℕ → Option (List ℕ) → Type 0

-- of which kind the fault of a file that does not open may be, by its number
abbrev pub Fails : Type 1
Fails = ℕ → ErrorKind → Type 0

-- a source was read to its end, and all its bytes were taken in; or memory ran out, or a read failed
abbrev pub ReadsWhole : SourceState → SourceState → (List ℕ → Type 0) → Result (Unit {0}) InputError → Type 0
ReadsWhole old new Takes (Ok _) = (bytes : List ℕ) × Consumes old.remaining new.remaining bytes × IsAtEnd new.remaining × (new.fault ≡ old.fault) × Takes bytes
ReadsWhole old new Takes (Err input.TooLong) = ⊥
ReadsWhole old new Takes (Err input.Memory) = LacksMemory old.fault new.fault
ReadsWhole old new Takes (Err input.Io) = IsFailure new.fault

-- a file was opened, and this is all that it had
abbrev pub HadText : Holds → ℕ → List ℕ → Type 0
HadText holds file text = (had : Option (List ℕ)) × holds file had × IfSome had (λ bytes. bytes ≡ text)

-- the texts of the first files, in order
pub record AreTextsOf (holds : Holds) (number : ℕ) (texts : List (List ℕ)) : Type 0 where
  pub number_is : length texts ≡ number
  pub each : (file : ℕ) → file < number → HadText holds file (slice_index_or texts file [])

-- each text is the lines of runs, and these are the runs of all, one text after another
abbrev pub AreRunsOf : LayoutState → List (List ℕ) → List SiteRun → Type 0
AreRunsOf layout [] runs = runs ≡ []
AreRunsOf layout (text ∷ texts) runs =
    (first : List SiteRun) × (rest : List SiteRun) × (runs ≡ first ++ rest) × AreLines layout (lines_of text) first × AreRunsOf layout texts rest

-- the first files were read, each as the lines of runs, and these are the runs of all
pub record ReadsFiles (layout : LayoutState) (holds : Holds) (number : ℕ) (runs : List SiteRun) : Type 0 where
  pub texts : List (List ℕ)
  pub held : AreTextsOf holds number texts
  pub are_runs : AreRunsOf layout texts runs

-- why a source, which is that of a file, was not read as the lines of runs: the line that is refused, where all was read; or
-- memory ran out, or a read failed
abbrev pub IsSourceFault : LayoutState → SourceState → SourceState → ℕ → FilesError → Type 0
IsSourceFault layout old new file (Refused at line) =
    (at ≡ file) × (text : List ℕ) × Consumes old.remaining new.remaining text × IsAtEnd new.remaining × IsRefusedAt layout (lines_of text) line
IsSourceFault layout old new file (Unread at) = (at ≡ file) × IsFailure new.fault
IsSourceFault layout old new file Memory = LacksMemory old.fault new.fault
IsSourceFault layout old new file Changed = ⊥
IsSourceFault layout old new file Unwritten = ⊥

-- why a file was not read as the lines of runs: the line that is refused; or it did not open, or a read failed
abbrev pub IsFileFault : LayoutState → Holds → Fails → ℕ → FilesError → Type 0
IsFileFault layout holds fails file (Refused at line) = (at ≡ file) × (text : List ℕ) × HadText holds file text × IsRefusedAt layout (lines_of text) line
IsFileFault layout holds fails file (Unread at) =
    (at ≡ file) × (((kind : ErrorKind) × fails file kind × (kind ≢ OutOfMemory)) ⊎ ((had : Option (List ℕ)) × (fault : Option ErrorKind) × holds file had × IsFailure fault))
IsFileFault layout holds fails file Memory = Unit {0}
IsFileFault layout holds fails file Changed = ⊥
IsFileFault layout holds fails file Unwritten = ⊥

-- one of the files was not read so, and all before it were
pub record FailsAt (layout : LayoutState) (holds : Holds) (fails : Fails) (number : ℕ) (error : FilesError) : Type 0 where
  pub file : ℕ
  pub there : file < number
  pub runs : List SiteRun
  pub before : ReadsFiles layout holds file runs
  pub fault : IsFileFault layout holds fails file error

-- why the files were not all read so; memory may run out at any time
abbrev pub IsReadFault : LayoutState → Holds → Fails → ℕ → FilesError → Type 0
IsReadFault layout holds fails number (Refused file line) = FailsAt layout holds fails number (Refused file line)
IsReadFault layout holds fails number (Unread file) = FailsAt layout holds fails number (Unread file)
IsReadFault layout holds fails number Memory = Unit {0}
IsReadFault layout holds fails number Changed = ⊥
IsReadFault layout holds fails number Unwritten = ⊥

-- two readings of the files found different runs
pub record HaveChanged (layout : LayoutState) (holds : Holds) (number : ℕ) : Type 0 where
  pub first : List SiteRun
  pub second : List SiteRun
  pub read_first : ReadsFiles layout holds number first
  pub read_second : ReadsFiles layout holds number second
  pub differ : first ≢ second

-- the files were read, each as the lines of runs, and the judgement on the cut through all of them was written
pub record JudgesFiles (layout : LayoutState) (cut : Option (List ℕ)) (holds : Holds) (number : ℕ) (old new : SinkState) : Type 0 where
  pub runs : List SiteRun
  pub read : ReadsFiles layout holds number runs
  pub text : List ℕ
  pub judged : IsJudgement layout (transcripts_below runs layout.sites) (lengths_of cut (transcripts_below runs layout.sites)) text
  pub written : Writes old new text

-- The files were judged, and that was written; or one of them was not read, they had changed when they were read again, memory
-- ran out, or a write failed. Where no judgement was made, nothing was written.
abbrev pub EndsFiles : LayoutState → Option (List ℕ) → Holds → Fails → ℕ → SinkState → SinkState → Result (Unit {0}) FilesError → Type 0
EndsFiles layout cut holds fails number old new (Ok _) = JudgesFiles layout cut holds number old new
EndsFiles layout cut holds fails number old new (Err (Refused file line)) = FailsAt layout holds fails number (Refused file line) × (new ≡ old)
EndsFiles layout cut holds fails number old new (Err (Unread file)) = FailsAt layout holds fails number (Unread file) × (new ≡ old)
EndsFiles layout cut holds fails number old new (Err Changed) = HaveChanged layout holds number × (new ≡ old)
EndsFiles layout cut holds fails number old new (Err Memory) = new ≡ old
EndsFiles layout cut holds fails number old new (Err Unwritten) = HasFault new.fault
