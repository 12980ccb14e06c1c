-- The sessions of one site as a list in order of arrival, and what each change does to it. The phases are
-- those of readers and writers in Courtois, Heymans and Parnas 1971; the list is the project's own.
use Rattle.std.specs.Prelude.{◌≡◌, ℕ, ◌==◌, ◌&&◌, not, Bool, List, [], ◌∷◌, filter, map, Option, Some, None, if◌then◌else◌}
use Rattle.session_list.specs.declared.session.Phase.{Phase}
use Rattle.session_list.specs.declared.session.Session.{Session}

-- the sessions of one site in order of arrival, and how many more fit without taking memory
pub record Held : Type 0 where
  pub sessions : List Session
  pub room : ℕ

-- the test whether a session is of holder h at record r
abbrev pub is_of : ℕ → ℕ → Session → Bool
is_of r h s = (r == s.r) && (h == s.h)

-- the phase of holder h at record r: that of the first session of theirs
abbrev pub phase_in : List Session → ℕ → ℕ → Option Phase
phase_in [] r h = None
phase_in (s ∷ ss) r h = if is_of r h s then Some s.phase else phase_in ss r h

-- the sessions, those of holder h at record r in another phase
abbrev pub with_phase : List Session → ℕ → ℕ → Phase → List Session
with_phase ss r h p = map (λ s. if is_of r h s then record s { phase = p } else s) ss

-- the sessions that are not of holder h at record r
abbrev pub without : List Session → ℕ → ℕ → List Session
without ss r h = filter (λ s. not (is_of r h s)) ss

-- each holder has one session at most at each record
abbrev pub IsOnce : List Session → Type 0
IsOnce [] = Unit {0}
IsOnce (s ∷ ss) = (phase_in ss s.r s.h ≡ None) × IsOnce ss
