-- The name of a group of sites (the project's own). Who begins a group names it: 1 to 32 bytes, a letter from a to z first,
-- and then such letters, digits and `-`; and no word that begins a reply, since the name stands in front of the deltas that
-- are sent. Sites that are moved to the group's next generation get the name with a dot and the generation's number behind
-- it, from 2 on: so no name without a dot is one that a move made.
use Rattle.std.specs.Prelude.{ℕ, ◌+◌, ◌==◌, ◌&&◌, ◌||◌, not, nat_le, nat_lt, bytes_eq, Bool, false, List, [], ◌∷◌, ◌++◌, length, codes, decimal, if◌then◌else◌, Option, Some, None, is_some}
use Rattle.std.specs.List.{list_all}
use Rattle.text_parts.specs.Readers.{number_at}
use Rattle.merge_core.specs.Layout.{is_name_byte}

-- the form of the part in front of the dot
abbrev pub has_base_form : List ℕ → Bool
has_base_form [] = false
has_base_form (b ∷ bs) = (nat_le 97 b && nat_le b 122) && (nat_le (length bs) 31 && list_all is_name_byte bs)

-- the words that begin the replies to calls
abbrev pub is_answer_word : List ℕ → Bool
is_answer_word word =
    bytes_eq word (codes "refused") || (bytes_eq word (codes "admitted") || (bytes_eq word (codes "announced") || (bytes_eq word (codes "left")
    || (bytes_eq word (codes "withdrawn") || (bytes_eq word (codes "given") || (bytes_eq word (codes "gave") || bytes_eq word (codes "merged")))))))

-- the words that begin what is shown of a record
abbrev pub is_look_word : List ℕ → Bool
is_look_word word = bytes_eq word (codes "rights") || bytes_eq word (codes "fence")

abbrev pub is_reply_word : List ℕ → Bool
is_reply_word word = is_answer_word word || is_look_word word

-- a name that anyone may give
abbrev pub is_base_name : List ℕ → Bool
is_base_name name = has_base_form name && not (is_reply_word name)

-- what stands in front of the first dot, and what behind it, if there is one
abbrev pub base_of : List ℕ → List ℕ
base_of [] = []
base_of (b ∷ bs) = if b == 46 then [] else b ∷ base_of bs

abbrev pub behind_dot : List ℕ → Option (List ℕ)
behind_dot [] = None
behind_dot (b ∷ bs) = if b == 46 then Some bs else behind_dot bs

abbrev pub most_generations : ℕ
most_generations = 1048575

-- a number that a move gives
abbrev pub is_moved : ℕ → Bool
is_moved n = nat_le 2 n && nat_le n most_generations

-- such a number, if nothing stands behind it
abbrev pub whole_number : Option (ℕ × List ℕ) → Option ℕ
whole_number None = None
whole_number (Some (n, [])) = if is_moved n then Some n else None
whole_number (Some (n, b ∷ bs)) = None

-- the generation that a name tells: the number behind its dot, and 1 where there is no dot
abbrev pub number_behind : Option (List ℕ) → Option ℕ
number_behind None = Some 1
number_behind (Some digits) = whole_number (number_at digits)

abbrev pub told_generation : List ℕ → Option ℕ
told_generation name = number_behind (behind_dot name)

abbrev pub is_group_name : List ℕ → Bool
is_group_name name = is_base_name (base_of name) && is_some (told_generation name)

-- the generation of a group that has such a name, or none at all
abbrev pub or_first : Option ℕ → ℕ
or_first None = 1
or_first (Some n) = n

abbrev pub generation_of : Option (List ℕ) → ℕ
generation_of None = 1
generation_of (Some name) = or_first (told_generation name)

-- the name of a generation that a move makes
abbrev pub moved_name : List ℕ → ℕ → List ℕ
moved_name base n = base ++ 46 ∷ decimal n

-- the name of the generation behind that of a name; none is behind the last one
abbrev pub next_name : List ℕ → Option (List ℕ)
next_name name =
    if nat_lt (generation_of (Some name)) most_generations
    then Some (moved_name (base_of name) (generation_of (Some name) + 1))
    else None
