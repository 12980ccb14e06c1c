-- What the engine of `play` did, by the status that it ended with.
use Rattle.std.specs.Prelude.{◌≡◌, ℕ, ◌+◌, ◌⊎◌, Bool, true, false, List, [], ◌∷◌, ◌++◌, length, Option, Some, None, Ok, Err}
use Rattle.merge_core.specs.Layout.{LayoutState}
use Rattle.merge_core.specs.declared.layout.RecordSpec.{RecordSpec}
use Rattle.multi_site_world.specs.declared.event.Event.{Event}
use Rattle.multi_site_world.specs.World.{World, start_world, run, replies}
use Rattle.multi_site_world.specs.Worlds.{MayBeFirst}
use Rattle.audit_report.specs.Tables.{seat_table, session_table}
use Rattle.script_text.specs.Replies.{unread_line}
use Rattle.world_script.specs.Events.{event_in}
use Rattle.world_script.specs.Replies.{reply_lines}
use Rattle.world_script.specs.Played.{AreEvents}
use Rattle.text_input.specs.declared.input.InputError.TheVariants.{TooLong}
use Rattle.text_input.specs.Input.{ReadsInput, LosesSome, input_limit}
use Rattle.text_input.specs.Lines.{lines_of}
use Rattle.text_input.specs.Source.{HasFault, IsFailure, LacksMemory, SourceState}
use Rattle.text_input.specs.Sink.{SinkState, Writes}
use Rattle.layout_file.specs.declared.fault.LayoutFault.TheVariants.{BadGrowth}
use Rattle.exit_status.specs.declared.status.Status.{Status}
use Rattle.exit_status.specs.declared.status.Status.TheVariants.{Done, Usage, NoLayout, NoStore, Fault, Refused, Memory, Io}
use Rattle.exit_status.specs.Endings.{too_long_text}

-- how many sites begin together: all, where no number is named
abbrev pub first_sites : Option ℕ → LayoutState → ℕ
first_sites None layout = layout.sites
first_sites (Some first) layout = first

-- the tables of a world, where they are asked for
abbrev pub tables_text : Bool → World → List ℕ
tables_text false w = []
tables_text true w = seat_table w ++ session_table w

-- every line says an event: the replies of the model's world were written, and then its tables, where asked for
pub record WritesPlay (m : World) (records : List RecordSpec) (tables : Bool) (lines : List (List ℕ)) (old new : SinkState) : Type 0 where
  pub events : List Event
  pub read : AreEvents records lines events
  pub written : Writes old new (reply_lines (replies events m) ++ tables_text tables (run events m))

-- some line says none: the replies to the lines before the first such were written, and then a line that tells of it
pub record WritesStop (m : World) (records : List RecordSpec) (lines : List (List ℕ)) (old new : SinkState) : Type 0 where
  pub before : List (List ℕ)
  pub line : List ℕ
  pub behind : List (List ℕ)
  pub split : lines ≡ before ++ line ∷ behind
  pub events : List Event
  pub read : AreEvents records before events
  pub unread : event_in records line ≡ None
  pub written : Writes old new (reply_lines (replies events m) ++ unread_line (length before + 1))

-- What was written for a script, by the status. Without memory nothing was written. Nothing is said of it where a write
-- failed, which is told where the sink met a fault, and there alone.
abbrev pub AnswersScript : World → List RecordSpec → Bool → List ℕ → SinkState → SinkState → Status → Type 0
AnswersScript m records tables bytes old new Done = WritesPlay m records tables (lines_of bytes) old new
AnswersScript m records tables bytes old new Refused = WritesStop m records (lines_of bytes) old new
AnswersScript m records tables bytes old new Memory = new ≡ old
AnswersScript m records tables bytes old new Io = HasFault new.fault
AnswersScript m records tables bytes old new Usage = ⊥
AnswersScript m records tables bytes old new (NoLayout fault) = ⊥
AnswersScript m records tables bytes old new (NoStore refusal) = ⊥
AnswersScript m records tables bytes old new Fault = ⊥

-- The whole engine: the first sites have a layout, the bytes read are all that the source had, within the limit, and
-- their answer was written; or there are more, and that refusal alone was written; or the first sites have none, and
-- nothing was read or written; or the first sites have a layout, and memory, a read or a write failed. Without memory
-- nothing was written. In each case the source lost at most one byte past the limit. An engine has no word for wrong
-- arguments or a store.
abbrev pub EndsPlay : LayoutState → Option ℕ → Bool → SourceState → SourceState → SinkState → SinkState → Status → Type 0
EndsPlay layout first tables source source_after sink sink_after Done =
    MayBeFirst (first_sites first layout) layout × ((bytes : List ℕ) × ReadsInput source source_after (Ok bytes)
    × WritesPlay (start_world (first_sites first layout) layout) layout.records tables (lines_of bytes) sink sink_after)
EndsPlay layout first tables source source_after sink sink_after Refused =
    MayBeFirst (first_sites first layout) layout × (((bytes : List ℕ) × ReadsInput source source_after (Ok bytes)
    × WritesStop (start_world (first_sites first layout) layout) layout.records (lines_of bytes) sink sink_after)
    ⊎ (ReadsInput source source_after (Err TooLong) × Writes sink sink_after too_long_text))
EndsPlay layout first tables source source_after sink sink_after Memory =
    MayBeFirst (first_sites first layout) layout × LosesSome source source_after (input_limit + 1) × LacksMemory source.fault source_after.fault × (sink_after ≡ sink)
EndsPlay layout first tables source source_after sink sink_after Io =
    MayBeFirst (first_sites first layout) layout × LosesSome source source_after (input_limit + 1) × ((IsFailure source_after.fault × (sink_after ≡ sink)) ⊎ HasFault sink_after.fault)
EndsPlay layout first tables source source_after sink sink_after Usage = ⊥
EndsPlay layout first tables source source_after sink sink_after (NoStore refusal) = ⊥
EndsPlay layout first tables source source_after sink sink_after Fault = ⊥
EndsPlay layout first tables source source_after sink sink_after (NoLayout fault) =
    (fault ≡ BadGrowth) × (¬ MayBeFirst (first_sites first layout) layout) × (source_after ≡ source) × (sink_after ≡ sink)
