-- The conversation with a reader and a writer: what was read ahead, what is kept of a line, and how the bytes of the
-- reader are cut into the lines that were heard.
use Rattle.std.specs.Prelude.{◌≡◌, ℕ, ◌+◌, ◌≤◌, ◌<◌, ◌⊎◌, Bool, true, false, List, [], ◌∷◌, ◌++◌, length, None}
use Rattle.std.specs.Io.KnownBytes.{Appends, Consumes, IsAtEnd}
use Rattle.text_input.specs.Lines.{HasNoLf}
use Rattle.text_input.specs.Source.{HasFault, SourceState}
use Rattle.text_input.specs.Sink.{SinkState}
use Rattle.line_conversation.specs.declared.conversation.Next.{Next}
use Rattle.line_conversation.specs.declared.conversation.Next.TheVariants as next
use Rattle.line_conversation.specs.declared.held.Fate.{Fate}
use Rattle.line_conversation.specs.declared.held.Fate.TheVariants as fate
use Rattle.line_conversation.specs.Turns.{Line, Whole, TooLong, NoRoom, Torn, Turn, Heard, Told, told_in}

-- a line whose parts come one by one: what is kept of it, at most how much, and what became of it
pub record HeldState : Type 0 where
  pub bytes : List ℕ
  pub limit : ℕ
  pub fate : Fate

-- what is kept of a line by its fate: all of it within the limit; nothing of one beyond it, or without memory
abbrev pub HoldsAs : Fate → ℕ → List ℕ → List ℕ → Type 0
HoldsAs fate.Kept limit line bytes = (bytes ≡ line) × (length line ≤ limit)
HoldsAs fate.TooLong limit line bytes = (bytes ≡ []) × (limit < length line)
HoldsAs fate.NoRoom limit line bytes = (bytes ≡ []) × (0 < length line)

-- the line came so far
abbrev pub Holds : List ℕ → HeldState → Type 0
Holds line h = HoldsAs h.fate h.limit line h.bytes

-- one more part came
abbrev pub Takes : List ℕ → HeldState → HeldState → Type 0
Takes part old new = (line : List ℕ) → Holds line old → Holds (line ++ part) new

-- how a line of this fate is told
abbrev pub next_of : Fate → Next
next_of fate.Kept = next.Line
next_of fate.TooLong = next.TooLong
next_of fate.NoRoom = next.Memory

-- how it is told that nothing comes behind these bytes, which no LF ends
abbrev pub last_of : List ℕ → Next
last_of [] = next.End
last_of (b ∷ bs) = next.Torn

-- bytes begin with a line, which an LF ends, and behind which the rest comes
abbrev pub CutsLine : List ℕ → List ℕ → List ℕ → Type 0
CutsLine bytes line rest = HasNoLf line × (bytes ≡ line ++ 10 ∷ rest)

-- bytes are all that was left at the end of the input: some, and no LF
pub record AreTorn (ended : Bool) (bytes : List ℕ) : Type 0 where
  pub at_end : ended ≡ true
  pub some : 0 < length bytes
  pub plain : HasNoLf bytes

-- Bytes begin with what was heard, and leave the rest: a line within the limit, one beyond it, one without memory; or they
-- were torn, and leave nothing.
abbrev pub Hears : ℕ → Bool → List ℕ → Line → List ℕ → Type 0
Hears limit ended bytes (Whole line) rest = CutsLine bytes line rest × (length line ≤ limit)
Hears limit ended bytes TooLong rest = (line : List ℕ) × CutsLine bytes line rest × (limit < length line)
Hears limit ended bytes NoRoom rest = (line : List ℕ) × CutsLine bytes line rest
Hears limit ended bytes Torn rest = AreTorn ended bytes × (rest ≡ [])

-- what was cut off, by what was told: what was heard, of which a line within the limit is kept; or nothing
abbrev pub Cuts : Next → Bool → List ℕ → List ℕ → ℕ → List ℕ → Type 0
Cuts next.Line ended bytes kept limit rest = Hears limit ended bytes (Whole kept) rest
Cuts next.TooLong ended bytes kept limit rest = Hears limit ended bytes TooLong rest
Cuts next.Memory ended bytes kept limit rest = Hears limit ended bytes NoRoom rest
Cuts next.Torn ended bytes kept limit rest = Hears limit ended bytes Torn rest × (kept ≡ [])
Cuts next.End ended bytes kept limit rest = (ended ≡ true) × (bytes ≡ []) × (rest ≡ [])
Cuts next.Failed ended bytes kept limit rest = Unit {0}

-- why a reading failed: the source met a fault, or more reads would not be counted
abbrev pub MayFail : SourceState → ℕ → Type 0
MayFail source reads = HasFault source.fault ⊎ (18446744073709551615 ≤ reads)

-- One reading: the source lost these bytes, and none once it had told its end; what was read ahead and they begin with
-- what is told. Each read but the last brought a byte at least.
pub record ReadsLine (source source_after : SourceState) (ahead ahead_after : List ℕ) (held : HeldState) (ended ended_after : Bool) (reads : ℕ) (told : Next) : Type 0 where
  pub lost : List ℕ
  pub consumed : Consumes source.remaining source_after.remaining lost
  pub closed : ended ≡ true → (lost ≡ []) × (ended_after ≡ true)
  pub at_end : (ended ≡ true → IsAtEnd source.remaining) → ended_after ≡ true → IsAtEnd source_after.remaining
  pub cut : Cuts told ended_after (ahead ++ lost) held.bytes held.limit ahead_after
  pub failed : told ≡ next.Failed → MayFail source_after reads
  pub few : reads ≤ length lost + 1

-- A line on the way: the source lost these bytes so far, and what was read ahead and they are the parts of the line that
-- came, and what is ahead now. For private clauses.
pub record ReadsSoFar (source source_now : SourceState) (ahead ahead_now : List ℕ) (held : HeldState) (ended ended_now : Bool) (reads : ℕ) : Type 0 where
  pub lost : List ℕ
  pub line : List ℕ
  pub consumed : Consumes source.remaining source_now.remaining lost
  pub split : ahead ++ lost ≡ line ++ ahead_now
  pub plain : HasNoLf line
  pub holds : Holds line held
  pub closed : ended ≡ true → (lost ≡ []) × (ended_now ≡ true)
  pub at_end : (ended ≡ true → IsAtEnd source.remaining) → ended_now ≡ true → IsAtEnd source_now.remaining
  pub fewer : ended_now ≡ false → reads ≤ length lost
  pub few : reads ≤ length lost + 1

-- a conversation with a reader and a writer
pub record StreamState : Type 0 where
  pub source : SourceState
  pub sink : SinkState
  -- what was read and belongs to no line yet
  pub ahead : List ℕ
  -- the line that is kept
  pub kept : List ℕ
  -- the most bytes of a line
  pub limit : ℕ
  -- the source has told its end
  pub ended : Bool
  -- a reading has failed
  pub broken : Bool
  -- how many reads the last line took
  pub reads : ℕ

-- no bytes come behind an end that was told, and no reading fails without a cause
pub record IsStream (s : StreamState) : Type 0 where
  pub at_end : s.ended ≡ true → IsAtEnd s.source.remaining
  pub cause : s.broken ≡ true → MayFail s.source s.reads

-- what was heard is cut off the bytes, in order, and leaves the rest
abbrev pub CutsTurns : ℕ → Bool → List ℕ → List Turn → List ℕ → Type 0
CutsTurns limit ended bytes [] rest = bytes ≡ rest
CutsTurns limit ended bytes (Heard heard ∷ turns) rest =
    (more : List ℕ) × Hears limit ended bytes heard more × CutsTurns limit ended more turns rest
CutsTurns limit ended bytes (Told text ∷ turns) rest = CutsTurns limit ended bytes turns rest

-- These turns took place: the lines that were heard are those of the bytes that the reader lost, from what was read
-- ahead on, and the rest is what is ahead now, unless a reading failed; and the texts that were told were written, one
-- behind the other, unless the writer failed. Reading fails where the reader does, or where so many reads were made that
-- they are not counted, each of which but the last took a byte.
pub record TookPlace (first : StreamState) (turns : List Turn) (last : StreamState) : Type 0 where
  pub lost : List ℕ
  pub consumed : Consumes first.source.remaining last.source.remaining lost
  pub limit : last.limit ≡ first.limit
  pub rest : List ℕ
  pub heard : CutsTurns first.limit last.ended (first.ahead ++ lost) turns rest
  pub left : last.broken ≡ false → rest ≡ last.ahead
  pub told : last.sink.fault ≡ None → Appends first.sink.contents last.sink.contents (told_in turns)
  pub failed : first.broken ≡ false → last.broken ≡ true → HasFault last.source.fault ⊎ (18446744073709551615 ≤ length lost + 1)

-- no line comes any more
pub record HasEnded (s : StreamState) : Type 0 where
  pub ended : s.ended ≡ true
  pub none_ahead : s.ahead ≡ []
  pub at_end : IsAtEnd s.source.remaining

-- the reader or the writer has failed
abbrev pub HasFailed : StreamState → Type 0
HasFailed s = (s.broken ≡ true × MayFail s.source s.reads) ⊎ HasFault s.sink.fault

-- a whole line was read, and no reading has failed
pub record IsReady (s : StreamState) : Type 0 where
  pub line : List ℕ
  pub rest : List ℕ
  pub cut : CutsLine s.ahead line rest
  pub open_so : s.broken ≡ false
