-- An account whose counters and sessions agree: what the start is, what every step keeps, and what a
-- durable part has to be for a site to begin from it.
use Rattle.std.specs.Prelude.{◌≡◌, ◌≢◌, ℕ, ◌+◌, ◌<◌, ◌≤◌, length, Some}
use Rattle.merge_core.specs.declared.cell.Cell.{Cell}
use Rattle.merge_core.specs.declared.cell.Cell.TheVariants.{Out, Taken, Ann, Fin}
use Rattle.merge_core.specs.Layout.{shape_of}
use Rattle.merge_core.specs.Counts.{counter_limit}
use Rattle.merge_core.specs.Notices.{most_writers}
use Rattle.merge_core.specs.Rows.{grant, start_counter}
use Rattle.session_list.specs.declared.session.Phase.{Phase}
use Rattle.admission_model.specs.Account.{Origin, Account, begin, arrivals, occurs, phase_of, own, inside, writers_here}
use Rattle.admission_model.specs.Knowledge.{told}
use Rattle.admission_model.specs.View.{view_of, gained, spent}
use Rattle.admission_model.specs.Replies.{holder_limit}

-- the counters of one row are such that its site, s, can have them, where its grant is so many seats
pub record FitsRow (granted : ℕ) (s : ℕ) (counters : Cell → ℕ) : Type 0 where
  pub grant_kept : granted ≤ counters (Out s)
  pub returned_after_taken : counters (Out s) ≤ granted + counters Taken
  pub few_taken : counters Taken ≤ counter_limit
  pub few_moved : (j : ℕ) → j ≢ s → counters (Out j) ≤ counter_limit
  pub finished_after_announced : counters Fin ≤ counters Ann
  pub few_announced : counters Ann ≤ counter_limit

-- the counters of a record agree with its sessions, and the site has at most so many unfinished writers
pub record IsBalanced (a : Account) (r : ℕ) : Type 0 where
  pub affordable : spent (view_of a) r ≤ gained (view_of a) r
  pub seats : own a r Taken + grant (shape_of a.origin.layout) r a.origin.site ≡ own a r (Out a.origin.site) + inside a r
  pub writers : own a r Ann ≡ own a r Fin + writers_here a r
  pub few_writers : writers_here a r ≤ most_writers
  pub fits : FitsRow (grant (shape_of a.origin.layout) r a.origin.site) a.origin.site (own a r)

-- nothing was sent to sites past those that the account knows, and nothing was told of them
pub record KnowsNothingBeyond (a : Account) : Type 0 where
  pub none_sent : (r j : ℕ) → a.sites ≤ j → own a r (Out j) ≡ 0
  pub none_told : (r s : ℕ) (cell : Cell) → a.sites ≤ s → told a r s cell ≤ start_counter (shape_of a.origin.layout) r s cell
  pub none_told_sent : (r s j : ℕ) → a.sites ≤ j → told a r s (Out j) ≤ start_counter (shape_of a.origin.layout) r s (Out j)

-- no counter was moved of records past those of the layout, and nothing was told of them
pub record KnowsNoOtherRecords (a : Account) : Type 0 where
  pub none_done : (r : ℕ) (cell : Cell) → length a.origin.layout.records ≤ r → own a r cell ≡ 0
  pub none_heard : (r s : ℕ) (cell : Cell) → length a.origin.layout.records ≤ r → told a r s cell ≡ 0

-- every session is listed once, at a record that there is and of a holder within its limit; each record is
-- balanced; what was told of any row fits, nothing was told of the site's own row that it has not done, and
-- nothing is known of sites and records that are not there
pub record IsSound (a : Account) : Type 0 where
  pub site_there : a.origin.site < a.sites
  pub listed_once : (r h : ℕ) (p : Phase) → phase_of a r h ≡ Some p → occurs r h (arrivals a.origin a.done) ≡ 1
  pub record_there : (r h : ℕ) (p : Phase) → phase_of a r h ≡ Some p → r < length a.origin.layout.records
  pub holder_there : (r h : ℕ) (p : Phase) → phase_of a r h ≡ Some p → h ≤ holder_limit
  pub balanced : (r : ℕ) → IsBalanced a r
  pub told_fits : (r s : ℕ) → FitsRow (grant (shape_of a.origin.layout) r s) s (told a r s)
  pub told_after_done : (r : ℕ) (cell : Cell) → told a r a.origin.site cell ≤ own a r cell
  pub no_others : KnowsNothingBeyond a
  pub no_other_records : KnowsNoOtherRecords a

-- an account may begin here: at the start, and wherever a stop leaves a site
abbrev pub IsOrigin : Origin → Type 0
IsOrigin o = IsSound (begin o)
