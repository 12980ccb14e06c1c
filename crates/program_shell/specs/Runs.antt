-- What the command `run` does with a file for its closed logs (the project's own).
use Rattle.std.specs.Prelude.{◌≡◌, ◌⊎◌, Option, Some, None}
use Rattle.std.specs.declared.io.ErrorKind.{ErrorKind}
use Rattle.std.specs.declared.io.ErrorKind.TheVariants.{OutOfMemory}
use Rattle.clap.specs.Words.{Text}
use Rattle.merge_core.specs.Layout.{LayoutState}
use Rattle.text_input.specs.Source.{SourceState}
use Rattle.text_input.specs.Sink.{SinkState}
use Rattle.exit_status.specs.declared.status.Status.{Status}
use Rattle.exit_status.specs.declared.status.Status.TheVariants.{Done, Memory, Io}
use Rattle.run_engine.specs.Engine.{EndsRun}

-- how a run ends whose file could not be made
abbrev pub without_file : ErrorKind → Status
without_file OutOfMemory = Memory
without_file _ = Io

-- the end of a run that has a file: as its engine ended, or the file could not be given its name
abbrev pub IsPlaced : Status → Status → Type 0
IsPlaced engine ended = (ended ≡ engine) ⊎ ((engine ≡ Done) × (ended ≡ Io))

-- The engine ran with a sink for closed logs that no write had failed at, over a file. No contract can say what a file
-- holds.
pub record EndsLogged (layout : LayoutState) (source source_after : SourceState) (sink sink_after : SinkState) (ended : Status) : Type 0 where
  pub logs : SinkState
  pub sound : logs.fault ≡ None
  pub logs_after : Option SinkState
  pub engine : Status
  pub ran : EndsRun layout source source_after sink sink_after (Some logs) logs_after engine
  pub placed : IsPlaced engine ended

-- no file could be made: nothing was read or written
pub record EndsUnlogged (source source_after : SourceState) (sink sink_after : SinkState) (ended : Status) : Type 0 where
  pub unread : source_after ≡ source
  pub unwritten : sink_after ≡ sink
  pub failed : (ended ≡ Memory) ⊎ (ended ≡ Io)

-- `run`, by whether a file is named for the closed logs
abbrev pub EndsRunTo : Option Text → LayoutState → SourceState → SourceState → SinkState → SinkState → Status → Type 0
EndsRunTo None layout source source_after sink sink_after ended =
    (logs_after : Option SinkState) × EndsRun layout source source_after sink sink_after None logs_after ended
EndsRunTo (Some path) layout source source_after sink sink_after ended =
    EndsLogged layout source source_after sink sink_after ended ⊎ EndsUnlogged source source_after sink sink_after ended
