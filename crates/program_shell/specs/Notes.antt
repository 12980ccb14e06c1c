-- What is noted of a conversation (this project's own).
use Rattle.std.specs.Prelude.{◌≡◌, ◌==◌, ℕ, Bool, ◌||◌, List, [], ◌∷◌, codes}
use Rattle.std.specs.List.{starts_with}
use Rattle.text_input.specs.Lines.{lines_of}
use Rattle.line_conversation.specs.Turns.{Turn, Heard, Told}
use Rattle.line_conversation.specs.declared.conversation.Conversation.{Ghosts}

-- a conversation, whether its last answer was a refusal, and whether some answer told that the store is outdated
pub record NotedState (C : Type 0) : Type 0 where
  pub talk : C
  pub refused : Bool
  pub outdated : Bool

-- an answer is a refusal
abbrev pub is_refusal : List ℕ → Bool
is_refusal answer = starts_with (◌==◌) answer (codes "refused ")

-- an answer tells that the site's store is older than what others have seen of it
abbrev pub tells_outdated : List ℕ → Bool
tells_outdated answer = starts_with (◌==◌) answer (codes "refused OwnRowAhead ")

-- whether the last of these answers is a refusal, where this was known before them
abbrev pub ends_refused : Bool → List (List ℕ) → Bool
ends_refused known [] = known
ends_refused known (answer ∷ answers) = ends_refused (is_refusal answer) answers

-- whether some of these answers tells that the store is outdated, or one before them did
abbrev pub some_outdated : Bool → List (List ℕ) → Bool
some_outdated known [] = known
some_outdated known (answer ∷ answers) = some_outdated (known || tells_outdated answer) answers

-- whether the last answer is a refusal: each line of a text is an answer
abbrev pub last_refused : Bool → List Turn → Bool
last_refused known [] = known
last_refused known (Heard line ∷ turns) = last_refused known turns
last_refused known (Told text ∷ turns) = last_refused (ends_refused known (lines_of text)) turns

-- whether some answer tells that the store is outdated
abbrev pub any_outdated : Bool → List Turn → Bool
any_outdated known [] = known
any_outdated known (Heard line ∷ turns) = any_outdated known turns
any_outdated known (Told text ∷ turns) = any_outdated (some_outdated known (lines_of text)) turns

-- these turns took place in the conversation, and were noted
pub record TookPlace {C : Type 0} (g : Ghosts C) (first : NotedState C) (turns : List Turn) (last : NotedState C) : Type 0 where
  pub talk : g.took_place first.talk turns last.talk
  pub refused : last.refused ≡ last_refused first.refused turns
  pub outdated : last.outdated ≡ any_outdated first.outdated turns
