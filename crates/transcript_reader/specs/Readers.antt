-- The reading of lines from left to right, whatever stands between the quotes. For private clauses: that each
-- text is read as what it was written for is proved in proofs/.
use Rattle.std.specs.Prelude.{ℕ, ◌==◌, List, [], ◌∷◌, length, codes, if◌then◌else◌, Option, Some, None}
use Rattle.merge_core.specs.declared.layout.RecordSpec.{RecordSpec}
use Rattle.session_list.specs.declared.session.Phase.{Phase}
use Rattle.session_list.specs.declared.session.Phase.TheVariants.{Reader, Waiting, Writer}
use Rattle.session_list.specs.declared.session.Session.{Session}
use Rattle.text_parts.specs.Readers.{◌>>=◌, onto, after, number_at, short_at, joined_at}
use Rattle.script_text.specs.Words.{record_word}

-- the pass of an entry, and the bytes from the reply on
unfoldable pub pass_behind : List ℕ → Option (ℕ × List ℕ)
pass_behind bytes = do
  front ← after (codes ",\"pass\":") bytes
  pass ← short_at front
  rest ← after (codes ",\"reply\":\"") pass.1
  Some (pass.0, rest)

-- the bytes up to the first of a kind, and those behind it
abbrev pub cut_at : ℕ → List ℕ → Option (List ℕ × List ℕ)
cut_at k [] = None
cut_at k (b ∷ bs) = if b == k then Some ([], bs) else onto b (cut_at k bs)

-- what a session is doing, up to the closing quote
abbrev pub first_at : {A : Type 0} → Option A → Option A → Option A
first_at (Some x) other = Some x
first_at None other = other

abbrev pub phase_after : List ℕ → Phase → List ℕ → Option (Phase × List ℕ)
phase_after literal phase bytes = after literal bytes >>= λ rest. Some (phase, rest)

unfoldable pub phase_at : List ℕ → Option (Phase × List ℕ)
phase_at bytes =
    first_at (phase_after (codes "reader\"") Reader bytes)
    (first_at (phase_after (codes "waiting\"") Waiting bytes) (phase_after (codes "writer\"") Writer bytes))

unfoldable pub session_at : List RecordSpec → List ℕ → Option (Session × List ℕ)
session_at records bytes = do
  front ← after (codes "\"") bytes
  name ← cut_at 32 front
  r ← record_word records name.0
  h ← number_at name.1
  blank ← after (codes " ") h.1
  phase ← phase_at blank
  Some (record { r = r; h = h.0; phase = phase.0 }, phase.1)

-- the sessions up to the closing bracket
unfoldable pub sessions_at : List RecordSpec → List ℕ → Option (List Session × List ℕ)
sessions_at records [] = None
sessions_at records (b ∷ bs) =
    if b == 93 then Some ([], b ∷ bs) else joined_at (session_at records) (length (b ∷ bs)) (b ∷ bs)

-- the number of sites at the end of a line, if it is there
unfoldable pub sites_at : List ℕ → Option (Option ℕ × List ℕ)
sites_at [] = Some (None, [])
sites_at (b ∷ bs) =
    if b == 44 then (after (codes ",\"sites\":") (b ∷ bs) >>= λ front. short_at front >>= λ n. Some (Some n.0, n.1)) else Some (None, b ∷ bs)

-- what the beginning of a run has behind what the site tells: sessions, a site, and a number of sites
pub record OpeningParts : Type 0 where
  pub sessions : List Session
  pub site : ℕ
  pub sites : Option ℕ

unfoldable pub opening_parts : List RecordSpec → List ℕ → Option OpeningParts
opening_parts records bytes = do
  front ← after (codes ",\"sessions\":[") bytes
  sessions ← sessions_at records front
  behind ← after (codes "],\"site\":") sessions.1
  site ← short_at behind
  sites ← sites_at site.1
  rest ← after (codes "}") sites.1
  if length rest == 0 then Some (record { sessions = sessions.0; site = site.0; sites = sites.0 }) else None
