-- How the joining of lines stops, and what is known on the way. For private clauses.
use Rattle.std.specs.Prelude.{◌≡◌, ℕ, ◌+◌, ◌-◌, ◌^◌, List, [], ◌++◌, length, map, min, Option, None, Some}
use Rattle.std.specs.List.{AllByRecursion}
use Rattle.merge_core.specs.Layout.{Shape}
use Rattle.merge_core.specs.Delta.{DeltaState}
use Rattle.merge_core.specs.Book.{BookState, IsBook, book_shape}
use Rattle.merge_core.specs.Changes.{JoinsAll}
use Rattle.delta_codec.specs.DeltaText.{delta_text}
use Rattle.text_input.specs.Lines.{lines_of, HasNoLf}
use Rattle.join_engine.specs.declared.fault.Refusal.{Refusal}
use Rattle.join_engine.specs.declared.joining.Joining.{Joining}
use Rattle.join_engine.specs.declared.lines.LineStop.{LineStop}
use Rattle.join_engine.specs.declared.lines.LineStop.TheVariants as line_stop
use Rattle.join_engine.specs.declared.lines.JoinStop.{JoinStop}
use Rattle.join_engine.specs.declared.lines.JoinStop.TheVariants as join_stop
use Rattle.join_engine.specs.Joins.{IsFaultOf, IsFirstRefused, IsTaken, IsJoinOf}

abbrev pub IsStopOf : Shape → List ℕ → LineStop → Type 0
IsStopOf shape line line_stop.Memory = Unit {0}
IsStopOf shape line (line_stop.Refused fault) = IsFaultOf shape line fault

abbrev pub StopsAt : Shape → List (List ℕ) → JoinStop → Type 0
StopsAt shape lines join_stop.Memory = Unit {0}
StopsAt shape lines (join_stop.Refused it) = IsFirstRefused shape lines it.number it.fault

-- so many of these lines are joined onto a book, and the rest is still to come
pub record JoinsSoFar (lines rest : List (List ℕ)) (number : ℕ) (old b : BookState) : Type 0 where
  pub deltas : List DeltaState
  pub split : lines ≡ map delta_text deltas ++ rest
  pub taken : AllByRecursion (IsTaken (book_shape old)) deltas
  pub joins : JoinsAll old b deltas
  pub book : IsBook old → IsBook b
  pub counted : length deltas ≡ number

-- so many lines of the bytes that came are joined, whatever follows: all whose ends came, so that the front of one
-- more line alone is pending
pub record JoinsFront (shape : Shape) (bytes pending : List ℕ) (number : ℕ) (b : BookState) : Type 0 where
  pub deltas : List DeltaState
  pub unended : HasNoLf pending
  pub split : (more : List ℕ) → lines_of (bytes ++ more) ≡ map delta_text deltas ++ lines_of (pending ++ more)
  pub taken : AllByRecursion (IsTaken shape) deltas
  pub joined : IsJoinOf shape deltas b
  pub counted : length deltas ≡ number

-- What is known once these bytes came: the join of the lines before what is pending; or the first line that is
-- refused, whatever follows.
abbrev pub KnownOf : Shape → List ℕ → Option Refusal → List ℕ → ℕ → BookState → Type 0
KnownOf shape bytes None pending joined b = JoinsFront shape bytes pending joined b
KnownOf shape bytes (Some it) pending joined b = (more : List ℕ) → IsFirstRefused shape (lines_of (bytes ++ more)) it.number it.fault

abbrev pub Knows : Shape → List ℕ → Joining → Type 0
Knows shape bytes j = KnownOf shape bytes j.refused j.pending.items j.joined j.book

-- a count of lines goes on, up to where 64 bits end
abbrev pub counted_on : ℕ → ℕ → ℕ
counted_on joined number = min (joined + number) (2 ^ 64 - 1)

-- these lines are joined behind others, up to the first that is refused
abbrev pub JoinsLines : List (List ℕ) → ℕ → BookState → Option Refusal → ℕ → BookState → Type 0
JoinsLines lines before old None joined new = (number : ℕ) × JoinsSoFar lines [] number old new × (joined ≡ counted_on before number)
JoinsLines lines before old (Some it) joined new =
    (number : ℕ) × IsFirstRefused (book_shape old) lines number it.fault × (it.number ≡ counted_on before number)

-- what was pending is joined
abbrev pub JoinsPending : Joining → Joining → Type 0
JoinsPending old new =
    (new.pending.items ≡ []) × JoinsLines (lines_of old.pending.items) old.joined old.book new.refused new.joined new.book
