-- What the engine of `site` does with an open desk. For private clauses.
use Rattle.std.specs.Prelude.{◌≡◌, ℕ, ◌+◌, ◌⊎◌, Bool, true, false, List, Ok, Err}
use Rattle.desk_log.specs.declared.error.OpenError.{OpenError}
use Rattle.desk_log.specs.declared.error.OpenError.TheVariants as opening
use Rattle.desk_log.specs.Desk.{DeskState, account_of, account_if_kept, is_frozen}
use Rattle.site_script.specs.Served.{Serves, ServesFront, Stops, places_of}
use Rattle.text_input.specs.declared.input.InputError.TheVariants.{TooLong}
use Rattle.text_input.specs.Input.{ReadsInput, LosesSome, input_limit}
use Rattle.text_input.specs.Lines.{lines_of}
use Rattle.text_input.specs.Source.{HasFault, IsFailure, LacksMemory, SourceState}
use Rattle.text_input.specs.Sink.{SinkState, Writes}
use Rattle.layout_file.specs.declared.fault.LayoutFault.TheVariants.{NoSite}
use Rattle.exit_status.specs.declared.store_refusal.StoreRefusal.TheVariants.{WrongCounters, WrongSessions, StoreFault}
use Rattle.exit_status.specs.declared.status.Status.{Status}
use Rattle.exit_status.specs.declared.status.Status.TheVariants.{Done, Usage, NoLayout, NoStore, Fault, Refused, Memory, Io}
use Rattle.exit_status.specs.Endings.{too_long_text}

-- the end where no desk was opened; the numbers of passes and places are good
abbrev pub opening_status : OpenError → Status
opening_status opening.BadSite = NoLayout NoSite
opening_status opening.WrongCounters = NoStore WrongCounters
opening_status opening.WrongSessions = NoStore WrongSessions
opening_status opening.StoreFault = NoStore StoreFault
opening_status opening.BadPasses = Memory
opening_status opening.BadLimit = Memory
opening_status opening.Memory = Memory

module _ {K : Type 0} where
  -- a desk served the lines, and their answers were written
  pub record WritesAnswers (old new : DeskState K) (lines : List (List ℕ)) (whole : Bool) (sink sink_after : SinkState) : Type 0 where
    pub text : List ℕ
    pub running : is_frozen new ≡ false
    pub served : Serves (account_of old) (places_of old) old.core.layout.records lines whole text (account_of new)
    pub written : Writes sink sink_after text

  -- the desk stopped on the way
  pub record WritesFault (old new : DeskState K) (lines : List (List ℕ)) (sink sink_after : SinkState) : Type 0 where
    pub text : List ℕ
    pub whole : Bool
    pub frozen : is_frozen new ≡ true
    pub stopped : Stops (account_of old) (places_of old) old.core.layout.records lines whole text (account_of new) (account_if_kept new)
    pub written : Writes sink sink_after text

  -- what was written for a script, by the status
  abbrev pub AnswersLines : DeskState K → DeskState K → List ℕ → SinkState → SinkState → Status → Type 0
  AnswersLines old new bytes sink sink_after Done = WritesAnswers old new (lines_of bytes) true sink sink_after
  AnswersLines old new bytes sink sink_after Refused = WritesAnswers old new (lines_of bytes) false sink sink_after
  AnswersLines old new bytes sink sink_after Fault = WritesFault old new (lines_of bytes) sink sink_after
  AnswersLines old new bytes sink sink_after Memory = (sink_after ≡ sink) × ServesFront old new (lines_of bytes)
  AnswersLines old new bytes sink sink_after Io = HasFault sink_after.fault × ServesFront old new (lines_of bytes)
  AnswersLines old new bytes sink sink_after Usage = ⊥
  AnswersLines old new bytes sink sink_after (NoLayout fault) = ⊥
  AnswersLines old new bytes sink sink_after (NoStore refusal) = ⊥

  -- Where memory, a read or a write failed: the desk is as it was, or the input was read and some of its first lines
  -- were served.
  abbrev pub ServesLost : DeskState K → DeskState K → SourceState → SourceState → Type 0
  ServesLost old new source source_after =
      (new ≡ old) ⊎ ((bytes : List ℕ) × ReadsInput source source_after (Ok bytes) × ServesFront old new (lines_of bytes))

  -- the same with the reading of the input: where it is too long, the desk serves nothing
  abbrev pub ServesInput : DeskState K → DeskState K → SourceState → SourceState → SinkState → SinkState → Status → Type 0
  ServesInput old new source source_after sink sink_after Done =
      (bytes : List ℕ) × ReadsInput source source_after (Ok bytes) × WritesAnswers old new (lines_of bytes) true sink sink_after
  ServesInput old new source source_after sink sink_after Refused =
      ((bytes : List ℕ) × ReadsInput source source_after (Ok bytes) × WritesAnswers old new (lines_of bytes) false sink sink_after)
      ⊎ (ReadsInput source source_after (Err TooLong) × Writes sink sink_after too_long_text × (new ≡ old))
  ServesInput old new source source_after sink sink_after Fault =
      (bytes : List ℕ) × ReadsInput source source_after (Ok bytes) × WritesFault old new (lines_of bytes) sink sink_after
  ServesInput old new source source_after sink sink_after Memory =
      LosesSome source source_after (input_limit + 1) × LacksMemory source.fault source_after.fault × (sink_after ≡ sink)
      × ServesLost old new source source_after
  ServesInput old new source source_after sink sink_after Io =
      LosesSome source source_after (input_limit + 1) × ((IsFailure source_after.fault × (sink_after ≡ sink)) ⊎ HasFault sink_after.fault)
      × ServesLost old new source source_after
  ServesInput old new source source_after sink sink_after Usage = ⊥
  ServesInput old new source source_after sink sink_after (NoLayout fault) = ⊥
  ServesInput old new source source_after sink sink_after (NoStore refusal) = ⊥
