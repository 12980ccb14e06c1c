-- A conversation of one line (this project's own).
use Rattle.std.specs.Prelude.{◌≡◌, ℕ, Bool, true, false, List, [], ◌∷◌, None}
use Rattle.std.specs.Io.KnownBytes.{Appends}
use Rattle.text_input.specs.Sink.{SinkState}
use Rattle.line_conversation.specs.Turns.{Line, Whole, Turn, Heard, Told, told_in}

-- the line, whether it was heard, and the sink for answers
pub record OneLineState : Type 0 where
  pub line : List ℕ
  pub taken : Bool
  pub sink : SinkState

-- the lines that were heard
abbrev pub heard_in : List Turn → List Line
heard_in [] = []
heard_in (Heard line ∷ turns) = line ∷ heard_in turns
heard_in (Told text ∷ turns) = heard_in turns

-- what is heard where the line was heard before, or now: nothing, or it
abbrev pub heard_between : List ℕ → Bool → Bool → List Line
heard_between line false true = Whole line ∷ []
heard_between line before now = []

-- These turns took place: the line was heard once, and the texts were written, one behind the other, unless the writer
-- failed.
pub record TookPlace (first : OneLineState) (turns : List Turn) (last : OneLineState) : Type 0 where
  pub line : last.line ≡ first.line
  pub stays : first.taken ≡ true → last.taken ≡ true
  pub heard : heard_in turns ≡ heard_between first.line first.taken last.taken
  pub told : last.sink.fault ≡ None → Appends first.sink.contents last.sink.contents (told_in turns)
