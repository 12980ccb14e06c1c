-- The lines of the report tables, and what stands where in them (texts of the project's own).
use Rattle.std.specs.Prelude.{ℕ, zero, suc, ◌-◌, ◌==◌, List, [], ◌∷◌, ◌++◌, length, replicate, codes, decimal}
use Rattle.std.specs.List.{filter, flat_map}
use Rattle.session_list.specs.declared.session.Phase.{Phase}
use Rattle.session_list.specs.declared.session.Phase.TheVariants.{Reader, Waiting, Writer}
use Rattle.session_list.specs.declared.session.Session.{Session}
use Rattle.audit_report.specs.declared.lines.SeatCounts.{SeatCounts}

-- so many blanks
abbrev pub blanks : ℕ → List ℕ
blanks n = replicate n 32

-- a text at the left of so many places; a longer one stands as it is
abbrev pub left_in : ℕ → List ℕ → List ℕ
left_in places text = text ++ blanks (places - length text)

-- a text at the right of so many places; a longer one stands as it is
abbrev pub right_in : ℕ → List ℕ → List ℕ
right_in places text = blanks (places - length text) ++ text

-- a number in decimal digits, at the right of so many places
abbrev pub number_in : ℕ → ℕ → List ℕ
number_in places n = right_in places (decimal n)

-- the end of a line
abbrev pub line_end : List ℕ
line_end = 10 ∷ []

-- texts one after the other, that of 0 first, for all numbers below n
abbrev pub texts_below : ℕ → (ℕ → List ℕ) → List ℕ
texts_below zero text = []
texts_below (suc n) text = texts_below n text ++ text n

-- a line begins with a record's name and a site
abbrev pub place_text : List ℕ → ℕ → List ℕ
place_text name i = left_in 16 name ++ number_in 5 i

-- a line of the seat table
abbrev pub seat_line : List ℕ → ℕ → SeatCounts → List ℕ
seat_line name i n =
    place_text name i ++ (number_in 8 n.rights ++ (number_in 8 n.inside ++ (number_in 12 n.unfinished ++ line_end)))

-- the word for a phase
abbrev pub phase_text : Phase → List ℕ
phase_text Reader = codes "reader"
phase_text Waiting = codes "waiting"
phase_text Writer = codes "writer"

-- a line of the session table
abbrev pub session_line : List ℕ → ℕ → Session → List ℕ
session_line name i s = place_text name i ++ (number_in 15 s.h ++ (codes "  " ++ (phase_text s.phase ++ line_end)))

-- the sessions at a record, in their order
abbrev pub sessions_at : ℕ → List Session → List Session
sessions_at r sessions = filter (λ s. s.r == r) sessions

-- the lines of a record's sessions in a list, at one site
abbrev pub session_lines : List ℕ → ℕ → ℕ → List Session → List ℕ
session_lines name i r sessions = flat_map (session_line name i) (sessions_at r sessions)
