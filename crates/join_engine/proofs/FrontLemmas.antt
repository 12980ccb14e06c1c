-- What an input that comes in parts came to: the lines before what is pending, and what is pending.
use Rattle.std.proofs.Common.{true≢false, ◌≡◌, ℕ, ◌+◌, ◌^◌, ◌≤◌, List, [], ◌∷◌, ◌++◌, length, map, true, Option, None, Some, is_some, refl, sym, ap, ◌∙◌, subst, append_assoc, append-nil, arith}
use Rattle.std.specs.List.{AllByRecursion}
use Rattle.std.proofs.lemmas.List.{length-append, length-map, map-append}
use Rattle.merge_core.specs.Layout.{Shape}
use Rattle.merge_core.specs.Delta.{DeltaState}
use Rattle.merge_core.specs.Book.{BookState, book_shape}
use Rattle.delta_codec.specs.DeltaText.{delta_text}
use Rattle.text_input.specs.Lines.{lines_of, EndsLine, HasNoLf}
use Rattle.text_input.proofs.LineLemmas.{lines_behind, lines_bounded, no_lf_behind}
use Rattle.join_engine.specs.declared.fault.LineFault.{LineFault}
use Rattle.join_engine.specs.declared.fault.Refusal.{Refusal}
use Rattle.join_engine.specs.Joins.{AreTexts, IsFirstRefused, IsJoinOf, IsTaken}
use Rattle.join_engine.specs.Stops.{counted_on, JoinsFront, JoinsLines, JoinsSoFar, KnownOf}
use Rattle.join_engine.proofs.LineLemmas.{joined_on, refused_behind, taken_on}

-- whole lines behind what was pending, and what follows them
whole_lines : (pending before rest more : List ℕ)
    → lines_of (pending ++ (((before ++ 10 ∷ []) ++ rest) ++ more)) ≡ lines_of (pending ++ (before ++ 10 ∷ [])) ++ lines_of (rest ++ more)
whole_lines pending before rest more =
    ap lines_of (
    ap (λ (l : List ℕ). pending ++ l) (append_assoc (before ++ 10 ∷ []) rest more ∙ append_assoc before (10 ∷ []) (rest ++ more))
    ∙ sym (append_assoc pending before (10 ∷ (rest ++ more)))
    )
    ∙ lines_behind (pending ++ before) (rest ++ more)
    ∙ ap (λ (l : List ℕ). lines_of l ++ lines_of (rest ++ more)) (append_assoc pending before (10 ∷ []))

-- the lines of all that came, once whole lines came behind what was pending
lines_then : (shape : Shape) (bytes part lines rest pending : List ℕ) (n : ℕ) (b : BookState) (front : JoinsFront shape bytes pending n b)
    → part ≡ lines ++ rest → EndsLine lines → (more : List ℕ)
    → lines_of ((bytes ++ part) ++ more) ≡ map delta_text front.deltas ++ (lines_of (pending ++ lines) ++ lines_of (rest ++ more))
lines_then shape bytes part lines rest pending n b front cut ended more =
    ap lines_of (append_assoc bytes part more) ∙ front.split (part ++ more)
    ∙ ap (λ (ls : List (List ℕ)). map delta_text front.deltas ++ ls) (rw cut (rw (ended.1) (whole_lines pending ended.0 rest more)))

-- the lines of all that came, and no more
lines_at_end : (shape : Shape) (bytes pending : List ℕ) (n : ℕ) (b : BookState) (front : JoinsFront shape bytes pending n b)
    → lines_of bytes ≡ map delta_text front.deltas ++ (lines_of pending ++ [])
lines_at_end shape bytes pending n b front =
    ap lines_of (sym (append-nil bytes)) ∙ front.split []
    ∙ ap (λ (ls : List (List ℕ)). map delta_text front.deltas ++ ls) (ap lines_of (append-nil pending) ∙ sym (append-nil (lines_of pending)))

-- lines that are joined behind others
texts_on : (ds es : List DeltaState) (lines later : List (List ℕ)) → lines ≡ map delta_text es ++ []
    → map delta_text ds ++ (lines ++ later) ≡ map delta_text (ds ++ es) ++ later
texts_on ds es lines later texts =
    ap (λ (ls : List (List ℕ)). map delta_text ds ++ (ls ++ later)) (texts ∙ append-nil (map delta_text es))
    ∙ sym (append_assoc (map delta_text ds) (map delta_text es) later)
    ∙ ap (λ (ls : List (List ℕ)). ls ++ later) (sym (map-append delta_text ds es))

taken_both : (shape : Shape) (ds es : List DeltaState) (b : BookState) → IsJoinOf shape ds b → AllByRecursion (IsTaken shape) ds
    → AllByRecursion (IsTaken (book_shape b)) es → AllByRecursion (IsTaken shape) (ds ++ es)
taken_both shape ds es b is front back =
    taken_on shape ds es front (subst (λ (it : Shape). AllByRecursion (IsTaken it) es) is.one_shape back)

-- before the first byte
pub front_of_none : (shape : Shape) (b : BookState) → IsJoinOf shape [] b → JoinsFront shape [] [] 0 b
front_of_none shape b is = record { deltas = []; unended = λ i within. absurd (omega (arith, within)); split = λ more. refl; taken = tt; joined = is; counted = refl }

-- no end of a line came, so that all of it is pending
pub front_waits : (shape : Shape) (bytes part pending : List ℕ) (n : ℕ) (b : BookState) → JoinsFront shape bytes pending n b
    → HasNoLf part → JoinsFront shape (bytes ++ part) (pending ++ part) n b
front_waits shape bytes part pending n b front none = record {
  deltas = front.deltas;
  unended = no_lf_behind pending part front.unended none;
  split = λ more. ap lines_of (append_assoc bytes part more) ∙ front.split (part ++ more)
      ∙ ap (λ (l : List ℕ). map delta_text front.deltas ++ lines_of l) (sym (append_assoc pending part more));
  taken = front.taken;
  joined = front.joined;
  counted = front.counted;
}

-- what was pending is joined with the whole lines that came
front_joined : (shape : Shape) (bytes part lines rest pending : List ℕ) (n m : ℕ) (b new : BookState) → JoinsFront shape bytes pending n b
    → part ≡ lines ++ rest → EndsLine lines → HasNoLf rest → JoinsSoFar (lines_of (pending ++ lines)) [] m b new
    → JoinsFront shape (bytes ++ part) rest (n + m) new
front_joined shape bytes part lines rest pending n m b new front cut ended none joins = record {
  deltas = front.deltas ++ joins.deltas;
  unended = none;
  split = λ more. lines_then shape bytes part lines rest pending n b front cut ended more
      ∙ texts_on front.deltas joins.deltas (lines_of (pending ++ lines)) (lines_of (rest ++ more)) joins.split;
  taken = taken_both shape front.deltas joins.deltas b front.joined front.taken joins.taken;
  joined = joined_on shape front.deltas joins.deltas b new front.joined joins.joins (joins.book front.joined.book);
  counted = omega (arith, length-append front.deltas joins.deltas, front.counted, joins.counted);
}

-- a line of them is refused
front_refused : (shape : Shape) (bytes part lines rest pending : List ℕ) (n m : ℕ) (b : BookState) (fault : LineFault)
    → JoinsFront shape bytes pending n b → part ≡ lines ++ rest → EndsLine lines
    → IsFirstRefused (book_shape b) (lines_of (pending ++ lines)) m fault → (more : List ℕ)
    → IsFirstRefused shape (lines_of ((bytes ++ part) ++ more)) (n + m) fault
front_refused shape bytes part lines rest pending n m b fault front cut ended first more =
    refused_behind shape (lines_of ((bytes ++ part) ++ more)) (lines_of (pending ++ lines)) (lines_of (rest ++ more)) front.deltas n m fault
    (lines_then shape bytes part lines rest pending n b front cut ended more) front.taken front.counted
    (subst (λ (it : Shape). IsFirstRefused it (lines_of (pending ++ lines)) m fault) front.joined.one_shape first)

-- there are no more lines joined, or up to one that is refused, than bytes came
joined_bounded : (shape : Shape) (bytes pending : List ℕ) (n : ℕ) (b : BookState) → JoinsFront shape bytes pending n b → n ≤ length bytes
joined_bounded shape bytes pending n b front = omega (
  arith,
  front.counted,
  lines_bounded bytes,
  ap (λ (ls : List (List ℕ)). length ls) (lines_at_end shape bytes pending n b front),
  length-append (map delta_text front.deltas) (lines_of pending ++ []),
  length-map front.deltas delta_text,
)

refused_bounded : (shape : Shape) (bytes : List ℕ) (n : ℕ) (fault : LineFault) → IsFirstRefused shape (lines_of bytes) n fault → n ≤ length bytes
refused_bounded shape bytes n fault first = omega (
  arith,
  first.counted,
  lines_bounded bytes,
  ap (λ (ls : List (List ℕ)). length ls) first.split,
  length-append first.before (first.line ∷ first.after),
)

-- a count that is no more than the bytes is exact
exact : (n m k : ℕ) → n + m ≤ k → k ≤ 2 ^ 32 → counted_on n m ≡ n + m
exact n m k few most = omega (arith, few, most)

-- whole lines came, and all of them are joined
pub known_lines : (shape : Shape) (bytes part lines rest pending : List ℕ) (n : ℕ) (b : BookState) (joined : ℕ) (new : BookState)
    → JoinsFront shape bytes pending n b → part ≡ lines ++ rest → EndsLine lines → HasNoLf rest → length (bytes ++ part) ≤ 2 ^ 32
    → JoinsLines (lines_of (pending ++ lines)) n b None joined new → JoinsFront shape (bytes ++ part) rest joined new
known_lines shape bytes part lines rest pending n b joined new front cut ended none few joins =
    let more = front_joined shape bytes part lines rest pending n joins.0 b new front cut ended none joins.1 in
    let few_lines = joined_bounded shape (bytes ++ part) rest (n + joins.0) new more in
    subst (λ (k : ℕ). JoinsFront shape (bytes ++ part) rest k new) (sym (joins.2 ∙ exact n joins.0 (length (bytes ++ part)) few_lines few)) more

-- whole lines came, of which one is refused
known_stop : (shape : Shape) (bytes part lines rest pending : List ℕ) (n : ℕ) (b : BookState) (it : Refusal) (joined : ℕ) (new : BookState)
    → JoinsFront shape bytes pending n b → part ≡ lines ++ rest → EndsLine lines → length (bytes ++ part) ≤ 2 ^ 32
    → JoinsLines (lines_of (pending ++ lines)) n b (Some it) joined new → (more : List ℕ)
    → IsFirstRefused shape (lines_of ((bytes ++ part) ++ more)) it.number it.fault
known_stop shape bytes part lines rest pending n b it joined new front cut ended few joins =
    let refused = front_refused shape bytes part lines rest pending n joins.0 b it.fault front cut ended joins.1 in
    let at_end = subst (λ (l : List ℕ). IsFirstRefused shape (lines_of l) (n + joins.0) it.fault) (append-nil (bytes ++ part)) (refused []) in
    let few_lines = refused_bounded shape (bytes ++ part) (n + joins.0) it.fault at_end in
    λ more. subst (λ (k : ℕ). IsFirstRefused shape (lines_of ((bytes ++ part) ++ more)) k it.fault)
    (sym (joins.2 ∙ exact n joins.0 (length (bytes ++ part)) few_lines few)) (refused more)

-- the same, whatever is pending then
pub known_stopped : (shape : Shape) (bytes part lines rest pending after : List ℕ) (n : ℕ) (b : BookState) (refused : Option Refusal) (joined : ℕ) (new : BookState)
    → is_some refused ≡ true → JoinsFront shape bytes pending n b → part ≡ lines ++ rest → EndsLine lines → length (bytes ++ part) ≤ 2 ^ 32
    → JoinsLines (lines_of (pending ++ lines)) n b refused joined new → KnownOf shape (bytes ++ part) refused after joined new
known_stopped shape bytes part lines rest pending after n b None joined new some front cut ended few joins = absurd (true≢false (sym some))
known_stopped shape bytes part lines rest pending after n b (Some it) joined new some front cut ended few joins =
    known_stop shape bytes part lines rest pending n b it joined new front cut ended few joins

-- what comes behind a line that is refused changes nothing
pub known_behind : (shape : Shape) (bytes part : List ℕ) (it : Refusal)
    → ((more : List ℕ) → IsFirstRefused shape (lines_of (bytes ++ more)) it.number it.fault) → (more : List ℕ)
    → IsFirstRefused shape (lines_of ((bytes ++ part) ++ more)) it.number it.fault
known_behind shape bytes part it known more =
    subst (λ (l : List ℕ). IsFirstRefused shape (lines_of l) it.number it.fault) (sym (append_assoc bytes part more)) (known (part ++ more))

-- nothing more came, and what was pending is joined
pub known_all : (shape : Shape) (bytes pending : List ℕ) (n : ℕ) (b : BookState) (joined : ℕ) (new : BookState) → JoinsFront shape bytes pending n b
    → JoinsLines (lines_of pending) n b None joined new
    → (deltas : List DeltaState) × AreTexts shape (lines_of bytes) deltas × IsJoinOf shape deltas new
known_all shape bytes pending n b joined new front joins = (
  front.deltas ++ joins.1.deltas,
  record {
    texts = lines_at_end shape bytes pending n b front ∙ texts_on front.deltas joins.1.deltas (lines_of pending) [] joins.1.split
        ∙ append-nil (map delta_text (front.deltas ++ joins.1.deltas));
    taken = taken_both shape front.deltas joins.1.deltas b front.joined front.taken joins.1.taken;
  },
  joined_on shape front.deltas joins.1.deltas b new front.joined joins.1.joins (joins.1.book front.joined.book),
)

-- the same where a line of it is refused
pub known_refused : (shape : Shape) (bytes pending : List ℕ) (n : ℕ) (b : BookState) (it : Refusal) (joined : ℕ) (new : BookState)
    → JoinsFront shape bytes pending n b → length bytes ≤ 2 ^ 32 → JoinsLines (lines_of pending) n b (Some it) joined new
    → IsFirstRefused shape (lines_of bytes) it.number it.fault
known_refused shape bytes pending n b it joined new front few joins =
    let first = refused_behind shape (lines_of bytes) (lines_of pending) [] front.deltas n joins.0 it.fault (lines_at_end shape bytes pending n b front)
    front.taken front.counted (subst (λ (x : Shape). IsFirstRefused x (lines_of pending) joins.0 it.fault) front.joined.one_shape joins.1) in
    let few_lines = refused_bounded shape bytes (n + joins.0) it.fault first in
    subst (λ (k : ℕ). IsFirstRefused shape (lines_of bytes) k it.fault) (sym (joins.2 ∙ exact n joins.0 (length bytes) few_lines few)) first

-- the first refused line of all that came
pub refused_of_all : (shape : Shape) (bytes : List ℕ) (it : Refusal) → ((more : List ℕ) → IsFirstRefused shape (lines_of (bytes ++ more)) it.number it.fault)
    → IsFirstRefused shape (lines_of bytes) it.number it.fault
refused_of_all shape bytes it known =
    subst (λ (l : List ℕ). IsFirstRefused shape (lines_of l) it.number it.fault) (append-nil bytes) (known [])
