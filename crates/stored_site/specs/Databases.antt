-- What the program does with a site over the database at a path.
use Rattle.std.specs.Prelude.{◌≡◌, ℕ, ◌<◌, ◌+◌, ◌⊎◌, Bool, true, false, List, Ok, Err}
use Rattle.merge_core.specs.Layout.{LayoutState}
use Rattle.admission_model.specs.Account.{Account}
use Rattle.admission_model.specs.Restoring.{AreCells, AreSessions}
use Rattle.admission_core.specs.Kept.{DurableState}
use Rattle.site_engine.specs.Log.{begun}
use Rattle.site_engine.specs.Served.{Serves, Stops}
use Rattle.text_input.specs.declared.input.InputError.TheVariants.{TooLong}
use Rattle.text_input.specs.Input.{ReadsInput, LosesSome, input_limit}
use Rattle.text_input.specs.Lines.{lines_of}
use Rattle.text_input.specs.Source.{HasFault, IsFailure, LacksMemory, SourceState}
use Rattle.text_input.specs.Sink.{SinkState, Writes}
use Rattle.layout_file.specs.declared.fault.LayoutFault.TheVariants.{NoSite}
use Rattle.exit_status.specs.declared.status.Status.{Status}
use Rattle.exit_status.specs.declared.status.Status.TheVariants.{Done, Usage, NoLayout, NoStore, Fault, Refused, Memory, Io}
use Rattle.site_engine.specs.Sites.{log_places}
use Rattle.exit_status.specs.Endings.{too_long_text}

-- The lines were served, from an account that begins from a durable part of this site, and their answers were written.
-- Which part that is, no contract can say of a file.
pub record WritesSome (layout : LayoutState) (i : ℕ) (lines : List (List ℕ)) (whole : Bool) (old new : SinkState) : Type 0 where
  pub first : DurableState
  pub cells : AreCells layout i first.cells
  pub sessions : AreSessions layout i first.cells first.sessions
  pub text : List ℕ
  pub account : Account
  pub served : Serves (begun layout i first) log_places layout.records lines whole text account
  pub written : Writes old new text

-- the same where the store failed on the way
pub record StopsSome (layout : LayoutState) (i : ℕ) (lines : List (List ℕ)) (old new : SinkState) : Type 0 where
  pub first : DurableState
  pub cells : AreCells layout i first.cells
  pub sessions : AreSessions layout i first.cells first.sessions
  pub whole : Bool
  pub text : List ℕ
  pub account : Account
  pub tried : Account
  pub stopped : Stops (begun layout i first) log_places layout.records lines whole text account tried
  pub written : Writes old new text

-- The whole command, by the status: as the engine ends, over whatever store was found at the path; or there is no such
-- site, or the store is refused, and nothing was read or written. Without memory, and behind a failed read, nothing is written.
abbrev pub EndsStored : LayoutState → ℕ → SourceState → SourceState → SinkState → SinkState → Status → Type 0
EndsStored layout i source source_after sink sink_after Done =
    (i < layout.sites) × ((bytes : List ℕ) × ReadsInput source source_after (Ok bytes) × WritesSome layout i (lines_of bytes) true sink sink_after)
EndsStored layout i source source_after sink sink_after Refused =
    (i < layout.sites) × (((bytes : List ℕ) × ReadsInput source source_after (Ok bytes) × WritesSome layout i (lines_of bytes) false sink sink_after)
    ⊎ (ReadsInput source source_after (Err TooLong) × Writes sink sink_after too_long_text))
EndsStored layout i source source_after sink sink_after Fault =
    (i < layout.sites) × ((bytes : List ℕ) × ReadsInput source source_after (Ok bytes) × StopsSome layout i (lines_of bytes) sink sink_after)
EndsStored layout i source source_after sink sink_after (NoStore refusal) = (i < layout.sites) × (source_after ≡ source) × (sink_after ≡ sink)
EndsStored layout i source source_after sink sink_after (NoLayout fault) =
    (fault ≡ NoSite) × (¬ (i < layout.sites)) × (source_after ≡ source) × (sink_after ≡ sink)
EndsStored layout i source source_after sink sink_after Memory =
    (i < layout.sites) × LosesSome source source_after (input_limit + 1) × LacksMemory source.fault source_after.fault × (sink_after ≡ sink)
EndsStored layout i source source_after sink sink_after Io =
    (i < layout.sites) × LosesSome source source_after (input_limit + 1) × ((IsFailure source_after.fault × (sink_after ≡ sink)) ⊎ HasFault sink_after.fault)
EndsStored layout i source source_after sink sink_after Usage = ⊥
