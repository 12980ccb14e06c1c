-- A conversation by lines (this project's own): a line comes in, and a text goes out.
use Rattle.std.specs.Prelude.{ℕ, List, [], ◌∷◌, ◌++◌}
use Rattle.line_conversation.specs.declared.conversation.Next.{Next}
use Rattle.line_conversation.specs.declared.conversation.Next.TheVariants as next

-- a line that came in, without its LF: whole; or longer than a line may be, or without memory for it, and then dropped;
-- or torn, the last part of the input, behind which no LF came, dropped too
pub data Line : Type 0 where
  Whole : (bytes : List ℕ) → Line
  TooLong : Line
  NoRoom : Line
  Torn : Line

-- a turn: a line is heard, or a text is told
pub data Turn : Type 0 where
  Heard : (line : Line) → Turn
  Told : (text : List ℕ) → Turn

-- the turn that a reading adds, where `line` is the line that was kept
abbrev pub heard_by : Next → List ℕ → List Turn
heard_by next.Line line = Heard (Whole line) ∷ []
heard_by next.TooLong line = Heard TooLong ∷ []
heard_by next.Memory line = Heard NoRoom ∷ []
heard_by next.Torn line = Heard Torn ∷ []
heard_by next.End line = []
heard_by next.Failed line = []

-- a line came to its LF, whether it was kept or dropped
abbrev pub IsLine : Next → Type 0
IsLine next.Line = Unit {0}
IsLine next.TooLong = Unit {0}
IsLine next.Memory = Unit {0}
IsLine next.Torn = ⊥
IsLine next.End = ⊥
IsLine next.Failed = ⊥

-- the texts that were told, one behind the other
abbrev pub told_in : List Turn → List ℕ
told_in [] = []
told_in (Heard line ∷ turns) = told_in turns
told_in (Told text ∷ turns) = text ++ told_in turns
