-- What the commands `regroup` and `rebuild` do (the project's own).
use Rattle.std.specs.Prelude.{◌≡◌, ◌⊎◌, ℕ, List, ◌∷◌, ◌++◌, codes, Ok, Err}
use Rattle.merge_core.specs.Layout.{LayoutState}
use Rattle.text_input.specs.declared.input.InputError.{InputError}
use Rattle.text_input.specs.declared.input.InputError.TheVariants as input
use Rattle.text_input.specs.Input.{ReadsInput}
use Rattle.text_input.specs.Source.{HasFault, SourceState}
use Rattle.text_input.specs.Sink.{SinkState, Writes}
use Rattle.exit_status.specs.declared.status.Status.{Status}
use Rattle.exit_status.specs.declared.status.Status.TheVariants.{Done, Refused, Memory, Io}
use Rattle.exit_status.specs.Endings.{too_long_text}
use Rattle.rebuild_engine.specs.declared.rebuilding.RebuildStop.{RebuildStop}
use Rattle.rebuild_engine.specs.Parts.{IsUnbuilt}
use Rattle.rebuild_engine.specs.Refusals.{EndsStop}
use Rattle.live_databases.specs.declared.service_end.ServiceEnd.{ServiceEnd}
use Rattle.live_databases.specs.declared.service_end.ServiceEnd.TheVariants.{Ended}
use Rattle.live_databases.specs.Endings.{EndsServiceWith}
use Rattle.live_databases.specs.LiveMoves.{EndsUnmade, EndsUntold, MovesSome, RebuildsSome}

-- a text was written, or a write failed
abbrev pub EndsWriting : List ℕ → SinkState → SinkState → ServiceEnd → Type 0
EndsWriting text sink sink_after ended =
    (Writes sink sink_after text × (ended ≡ Ended Done)) ⊎ (HasFault sink_after.fault × (ended ≡ Ended Io))

abbrev pub EndsWritingLine : List ℕ → SinkState → SinkState → ServiceEnd → Type 0
EndsWritingLine text sink sink_after ended = EndsWriting (text ++ codes "\n") sink sink_after ended

-- a store was moved, and the text that tells of it written, or a write failed
pub record TellsMove (layout : LayoutState) (i : ℕ) (group : List ℕ) (sink sink_after : SinkState) (ended : ServiceEnd) : Type 0 where
  pub text : List ℕ
  pub moved : MovesSome layout i group text
  pub written : EndsWritingLine text sink sink_after ended

-- what `regroup` did: that, or no text is told
abbrev pub Regroups : LayoutState → ℕ → List ℕ → SinkState → SinkState → ServiceEnd → Type 0
Regroups layout i group sink sink_after ended =
    TellsMove layout i group sink sink_after ended ⊎ (EndsUntold layout i ended × (sink_after ≡ sink))

-- the command `regroup`
abbrev pub EndsRegroup : LayoutState → ℕ → List ℕ → SinkState → SinkState → SinkState → SinkState → ℕ → Type 0
EndsRegroup layout i group sink sink_after errors errors_after code =
    (ended : ServiceEnd) × Regroups layout i group sink sink_after ended × EndsServiceWith ended errors errors_after code

-- a site was built again of the bytes of an input, and the text that shows it written, or a write failed
pub record ShowsRebuilt (layout : LayoutState) (i : ℕ) (lost name bytes : List ℕ) (sink sink_after : SinkState) (ended : ServiceEnd) : Type 0 where
  pub text : List ℕ
  pub rebuilt : RebuildsSome layout i lost name bytes text
  pub written : EndsWriting text sink sink_after ended

-- none was, and why was written
pub record TellsStop (layout : LayoutState) (i : ℕ) (lost name bytes : List ℕ) (sink sink_after : SinkState) (ended : ServiceEnd) : Type 0 where
  pub stop : RebuildStop
  pub unbuilt : IsUnbuilt layout i lost name bytes stop
  pub status : Status
  pub told : EndsStop stop sink sink_after status
  pub is_ended : ended ≡ Ended status

-- what was done with the bytes of an input
abbrev pub AnswersInput : LayoutState → ℕ → List ℕ → List ℕ → List ℕ → SinkState → SinkState → ServiceEnd → Type 0
AnswersInput layout i lost name bytes sink sink_after ended =
    ShowsRebuilt layout i lost name bytes sink sink_after ended
    ⊎ (TellsStop layout i lost name bytes sink sink_after ended
    ⊎ (EndsUnmade layout i ended × (sink_after ≡ sink)))

-- how `rebuild` ends where its input was not read: it is too long, which is written; or memory or a read failed
abbrev pub EndsUnreadInput : InputError → SinkState → SinkState → ServiceEnd → Type 0
EndsUnreadInput input.TooLong sink sink_after ended =
    (Writes sink sink_after too_long_text × (ended ≡ Ended Refused)) ⊎ (HasFault sink_after.fault × (ended ≡ Ended Io))
EndsUnreadInput input.Memory sink sink_after ended = (sink_after ≡ sink) × (ended ≡ Ended Memory)
EndsUnreadInput input.Io sink sink_after ended = (sink_after ≡ sink) × (ended ≡ Ended Io)

-- the bytes that were read are all that the source had, within the limit
pub record ReadsSome (layout : LayoutState) (i : ℕ) (lost name : List ℕ) (source source_after : SourceState) (sink sink_after : SinkState) (ended : ServiceEnd) : Type 0 where
  pub bytes : List ℕ
  pub read : ReadsInput source source_after (Ok bytes)
  pub answered : AnswersInput layout i lost name bytes sink sink_after ended

pub record ReadsNone (source source_after : SourceState) (sink sink_after : SinkState) (ended : ServiceEnd) : Type 0 where
  pub error : InputError
  pub read : ReadsInput source source_after (Err error)
  pub told : EndsUnreadInput error sink sink_after ended

-- what `rebuild` did; the site is lost itself, with these others
abbrev pub RebuildsTo : LayoutState → ℕ → List ℕ → List ℕ → SourceState → SourceState → SinkState → SinkState → ServiceEnd → Type 0
RebuildsTo layout i others name source source_after sink sink_after ended =
    ReadsSome layout i (i ∷ others) name source source_after sink sink_after ended ⊎ ReadsNone source source_after sink sink_after ended

-- the command `rebuild`
abbrev pub EndsRebuild : LayoutState → ℕ → List ℕ → List ℕ → SourceState → SourceState → SinkState → SinkState → SinkState → SinkState → ℕ → Type 0
EndsRebuild layout i others name source source_after sink sink_after errors errors_after code =
    (ended : ServiceEnd) × RebuildsTo layout i others name source source_after sink sink_after ended × EndsServiceWith ended errors errors_after code
