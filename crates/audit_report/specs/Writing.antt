-- How the lines of sessions come to each record's text, site by site. No public contract cites this.
use Rattle.std.specs.Prelude.{◌≡◌, ℕ, ◌<◌, ◌++◌, List, [], length, slice_index_or}
use Rattle.merge_core.specs.declared.layout.RecordSpec.{RecordSpec}
use Rattle.session_list.specs.declared.session.Session.{Session}
use Rattle.multi_site_world.specs.World.{World}
use Rattle.multi_site_world.specs.Worlds.{WorldState, StandsForWorld}
use Rattle.audit_report.specs.Lines.{texts_below, session_lines}
use Rattle.audit_report.specs.Tables.{name_in, session_rows}

-- the text of a record
abbrev pub text_at : List (List ℕ) → ℕ → List ℕ
text_at rows r = slice_index_or rows r []

-- each record's text has got the lines of its sessions in the list
pub record AddsSessions (records : List RecordSpec) (i : ℕ) (sessions : List Session) (old new : List (List ℕ)) : Type 0 where
  pub number : length new ≡ length old
  pub lines : (r : ℕ) → r < length old → text_at new r ≡ text_at old r ++ session_lines (name_in records r) i r sessions

-- each record's text has got the lines of a site's sessions
pub record AddsSite (w : WorldState) (i : ℕ) (old new : List (List ℕ)) : Type 0 where
  pub number : length new ≡ length old
  pub lines : (m : World) → StandsForWorld m w → (r : ℕ) → r < length old → text_at new r ≡ text_at old r ++ session_rows m r i

-- each record's text has the lines of the first n sites' sessions
pub record HasRows (w : WorldState) (n : ℕ) (rows : List (List ℕ)) : Type 0 where
  pub number : length rows ≡ length w.layout.records
  pub lines : (m : World) → StandsForWorld m w → (r : ℕ) → r < length rows → text_at rows r ≡ texts_below n (λ i. session_rows m r i)
