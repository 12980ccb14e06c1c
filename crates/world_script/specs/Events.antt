-- What a line of a script says of several sites (this project's own format): a site's number, and what happens
-- there.
use Rattle.std.specs.Prelude.{ℕ, List, [], ◌∷◌, codes, if◌then◌else◌, Option, Some, None}
use Rattle.std.specs.Str.{bytes_eq}
use Rattle.merge_core.specs.declared.layout.RecordSpec.{RecordSpec}
use Rattle.text_parts.specs.Readers.{◌>>=◌}
use Rattle.script_text.specs.Words.{words_of, number_word, short_word}
use Rattle.script_text.specs.Asks.{ask_in}
use Rattle.multi_site_world.specs.declared.event.Event.{Event}
use Rattle.multi_site_world.specs.declared.event.Event.TheVariants.{Call, Send, Take, Restart, Grow}

-- what one word tells: `send`, `restart` or `grow`
abbrev pub event_alone : ℕ → List ℕ → Option Event
event_alone i verb =
    if bytes_eq verb (codes "send") then Some (Send i) else (
    if bytes_eq verb (codes "restart") then Some (Restart i) else (
    if bytes_eq verb (codes "grow") then Some (Grow i) else None))

-- a message's number, and no word behind it
abbrev pub message_in : List (List ℕ) → Option ℕ
message_in (number ∷ []) = number_word number
message_in words = None

-- what a verb tells with words behind it: `take K`, or what a caller asks
abbrev pub event_behind : List RecordSpec → ℕ → List ℕ → List (List ℕ) → Option Event
event_behind records i verb words =
    if bytes_eq verb (codes "take") then (message_in words >>= λ k. Some (Take i k)) else
    (ask_in records (verb ∷ words) >>= λ ask. Some (Call i ask))

-- what happens at a site, by the words behind its number
abbrev pub event_at : List RecordSpec → ℕ → List (List ℕ) → Option Event
event_at records i [] = None
event_at records i (verb ∷ []) = event_alone i verb
event_at records i (verb ∷ (word ∷ words)) = event_behind records i verb (word ∷ words)

-- the words of a whole line
abbrev pub event_of : List RecordSpec → List (List ℕ) → Option Event
event_of records [] = None
event_of records (site ∷ words) = short_word site >>= λ i. event_at records i words

-- what a line says, where it says an event
abbrev pub event_in : List RecordSpec → List ℕ → Option Event
event_in records line = event_of records (words_of line)
