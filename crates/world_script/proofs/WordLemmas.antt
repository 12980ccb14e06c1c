-- A word, and others behind it.
use Rattle.std.proofs.Common.{◌≡◌, ℕ, None, List, ◌∷◌, refl}
use Rattle.merge_core.specs.declared.layout.RecordSpec.{RecordSpec}
use Rattle.script_text.specs.Words.{words_of}
use Rattle.script_text.proofs.WordLemmas.{some_word}
use Rattle.world_script.specs.Events.{message_in, event_behind, event_at}

-- a word too many
pub message_and_more : (words number rest : List ℕ) → words_of words ≡ number ∷ words_of rest → None ≡ message_in (words_of words)
message_and_more words number rest first = rw first (some_word (λ ws. None ≡ message_in (number ∷ ws)) (λ w ws. refl) rest)

-- a verb with words behind it
pub verb_and_more : (records : List RecordSpec) (i : ℕ) (words verb rest : List ℕ) → words_of words ≡ verb ∷ words_of rest → event_behind records i verb (words_of rest) ≡ event_at records i (words_of words)
verb_and_more records i words verb rest first =
    rw first (some_word (λ ws. event_behind records i verb ws ≡ event_at records i (verb ∷ ws)) (λ w ws. refl) rest)
