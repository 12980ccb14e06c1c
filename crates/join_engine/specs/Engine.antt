-- What the engine of `join` did, by the status that it ended with.
use Rattle.std.specs.Prelude.{◌≡◌, ℕ, ◌+◌, ◌⊎◌, List, [], ◌∷◌, ◌++◌, Ok, Err}
use Rattle.merge_core.specs.Layout.{Shape}
use Rattle.merge_core.specs.Delta.{DeltaState}
use Rattle.merge_core.specs.Book.{BookState, book_shape, counter_of}
use Rattle.merge_core.specs.Moved.{all_moved}
use Rattle.delta_codec.specs.DeltaText.{delta_text}
use Rattle.text_input.specs.declared.input.InputError.TheVariants.{TooLong}
use Rattle.text_input.specs.Input.{ReadsInput, LosesSome, input_limit}
use Rattle.text_input.specs.Lines.{lines_of}
use Rattle.text_input.specs.Source.{HasFault, IsFailure, LacksMemory, SourceState}
use Rattle.join_engine.specs.declared.fault.LineFault.{LineFault}
use Rattle.exit_status.specs.declared.status.Status.{Status}
use Rattle.exit_status.specs.declared.status.Status.TheVariants.{Done, Usage, NoLayout, NoStore, Fault, Refused, Memory, Io}
use Rattle.text_input.specs.Sink.{SinkState, Writes}
use Rattle.join_engine.specs.Joins.{AreTexts, IsJoinOf, IsFirstRefused}
use Rattle.exit_status.specs.Endings.{too_long_text}
use Rattle.join_engine.specs.Texts.{refusal_text}

-- the text of what a book names, as a delta of site 0, and LF
abbrev pub book_line : BookState → List ℕ
book_line b = delta_text (record { from = 0; rows = all_moved (book_shape b) (counter_of b) }) ++ 10 ∷ []

-- the lines are texts of deltas that are taken, and the line of their join with the start was written
pub record WritesJoin (shape : Shape) (lines : List (List ℕ)) (old new : SinkState) : Type 0 where
  pub deltas : List DeltaState
  pub book : BookState
  pub texts : AreTexts shape lines deltas
  pub joined : IsJoinOf shape deltas book
  pub written : Writes old new (book_line book)

-- some line is refused, and the refusal of the first such line was written
pub record WritesRefusal (shape : Shape) (lines : List (List ℕ)) (old new : SinkState) : Type 0 where
  pub number : ℕ
  pub fault : LineFault
  pub first : IsFirstRefused shape lines number fault
  pub written : Writes old new (refusal_text number fault)

-- What was written for an input, by the status. Without memory nothing was written. Nothing is said of it where a
-- write failed, which is told where the sink met a fault, and there alone.
abbrev pub AnswersInput : Shape → List ℕ → SinkState → SinkState → Status → Type 0
AnswersInput shape bytes old new Done = WritesJoin shape (lines_of bytes) old new
AnswersInput shape bytes old new Refused = WritesRefusal shape (lines_of bytes) old new
AnswersInput shape bytes old new Memory = new ≡ old
AnswersInput shape bytes old new Io = HasFault new.fault
AnswersInput shape bytes old new Usage = ⊥
AnswersInput shape bytes old new (NoLayout fault) = ⊥
AnswersInput shape bytes old new (NoStore refusal) = ⊥
AnswersInput shape bytes old new Fault = ⊥

-- The whole engine: the bytes read are all that the source had, within the limit, and their answer was written;
-- or there are more, and that refusal alone was written; or memory, a read or a write failed. Without memory nothing was
-- written. In each case the source lost at most one byte past the limit. A failed read or write is told where the source or the sink met
-- a fault, and there alone; a read that failed for want of memory is told as that. An engine has no word for wrong
-- arguments, for want of a layout, or for a store.
abbrev pub EndsJoin : Shape → SourceState → SourceState → SinkState → SinkState → Status → Type 0
EndsJoin shape source source_after sink sink_after Done =
    (bytes : List ℕ) × ReadsInput source source_after (Ok bytes) × WritesJoin shape (lines_of bytes) sink sink_after
EndsJoin shape source source_after sink sink_after Refused =
    ((bytes : List ℕ) × ReadsInput source source_after (Ok bytes) × WritesRefusal shape (lines_of bytes) sink sink_after)
    ⊎ (ReadsInput source source_after (Err TooLong) × Writes sink sink_after too_long_text)
EndsJoin shape source source_after sink sink_after Memory =
    LosesSome source source_after (input_limit + 1) × LacksMemory source.fault source_after.fault × (sink_after ≡ sink)
EndsJoin shape source source_after sink sink_after Io =
    LosesSome source source_after (input_limit + 1) × ((IsFailure source_after.fault × (sink_after ≡ sink)) ⊎ HasFault sink_after.fault)
EndsJoin shape source source_after sink sink_after Usage = ⊥
EndsJoin shape source source_after sink sink_after (NoLayout fault) = ⊥
EndsJoin shape source source_after sink sink_after (NoStore refusal) = ⊥
EndsJoin shape source source_after sink sink_after Fault = ⊥
