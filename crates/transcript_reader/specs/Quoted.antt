-- For private clauses: a text between quotes, and what a reader of one answers.
use Rattle.std.specs.Prelude.{◌≡◌, ◌≢◌, ℕ, List, ◌∷◌, ◌++◌, Result, Ok, Err}
use Rattle.text_parts.specs.declared.unread.Unread.{Unread}
use Rattle.text_parts.specs.declared.unread.Unread.TheVariants.{Refused, Memory}
use Rattle.transcript_text.specs.Quoted.{escaped}

-- a text as it stands behind a quote, the closing quote, and the bytes behind it
abbrev pub quoted : List ℕ → List ℕ → List ℕ
quoted text rest = escaped text ++ 34 ∷ rest

-- a refusal says so much; memory may run out over any bytes
abbrev pub Refuses : Unread → Type 0 → Type 0
Refuses Refused Nothing = Nothing
Refuses Memory Nothing = Unit {0}

-- What a reader of a text between quotes answers, seen by view: a value whose text stands there and the bytes behind the
-- closing quote, or that the text of no value stands there.
abbrev pub ReadsQuoted : {X Y : Type 0} → (X → Y × List ℕ) → (Y → Type 0) → (Y → List ℕ) → List ℕ → Result X Unread → Type 0
ReadsQuoted view Fits text bytes (Ok x) = Fits (view x).0 × (bytes ≡ quoted (text (view x).0) (view x).1)
ReadsQuoted {X} {Y} view Fits text bytes (Err e) = Refuses e ((y : Y) → (rest : List ℕ) → Fits y → bytes ≢ quoted (text y) rest)
