-- What each verdict says of closed logs and a cut. Of the verdicts exactly one is right.
use Rattle.std.specs.Prelude.{◌≡◌, ℕ, ◌<◌, ◌≤◌, List, length, slice_index, slice_index_or}
use Rattle.merge_core.specs.Layout.{LayoutState}
use Rattle.admission_model.specs.Account.{seats_in}
use Rattle.desk_log.specs.declared.transcript.Transcript.{Transcript}
use Rattle.multi_site_world.specs.Laws.{all_inside, IsWriterAlone}
use Rattle.log_judge.specs.declared.verdict.Verdict.{Verdict}
use Rattle.log_judge.specs.declared.verdict.Verdict.TheVariants.{BadCut, BadJoint, BadReply, Exceeds, Consistent}
use Rattle.log_replay.specs.Legal.{start_account, AreLegal, IsBadJoint, IsBadReply}
use Rattle.log_judge.specs.Cut.{entries_in, no_transcript, runs_at, cut_account, IsExcess, IsLeastExcess}

-- one transcript for each site of the layout, in order of sites
pub record AreOfSites (layout : LayoutState) (ts : List Transcript) : Type 0 where
  pub number : length ts ≡ layout.sites
  pub in_order : (i : ℕ) → i < length ts → (slice_index_or ts i no_transcript).site ≡ i

-- a length for each transcript, not above its number of entries
pub record IsCut (ts : List Transcript) (cut : List ℕ) : Type 0 where
  pub number : length cut ≡ length ts
  pub within : (i : ℕ) → i < length ts → slice_index cut i ≤ entries_in (runs_at ts i)

-- the transcript of a site is legal
abbrev pub IsLegalSite : LayoutState → List Transcript → ℕ → Type 0
IsLegalSite layout ts i = AreLegal layout i (start_account layout i (runs_at ts i)) (runs_at ts i)

-- the transcripts of the first n sites are legal
abbrev pub AreLegalSites : LayoutState → List Transcript → ℕ → Type 0
AreLegalSites layout ts n = (i : ℕ) → i < n → IsLegalSite layout ts i

-- Each verdict is right where none before it is. First, there is no cut. Then, site by site and entry by entry, a run
-- does not begin where the site was, or a reply can't stand. Then some merge within the cut exceeds it; else the cut is
-- consistent.
abbrev pub IsVerdict : LayoutState → List Transcript → List ℕ → Verdict → Type 0
IsVerdict layout ts cut BadCut = ¬ IsCut ts cut
IsVerdict layout ts cut (BadJoint i) =
    IsCut ts cut × AreLegalSites layout ts i × (i < length ts) × IsBadJoint layout i (start_account layout i (runs_at ts i)) (runs_at ts i)
IsVerdict layout ts cut (BadReply i at) =
    IsCut ts cut × AreLegalSites layout ts i × (i < length ts) × IsBadReply layout i (start_account layout i (runs_at ts i)) (runs_at ts i) at
IsVerdict layout ts cut (Exceeds i at r s) =
    IsCut ts cut × AreLegalSites layout ts (length ts) × IsLeastExcess layout ts cut i at r s
IsVerdict layout ts cut Consistent =
    IsCut ts cut × AreLegalSites layout ts (length ts) × ((i at r s : ℕ) → ¬ IsExcess layout ts cut i at r s)

-- At the cut the readers and writers inside a record take at most its seats, all sites together, and a writer inside is
-- the only session inside.
pub record IsSafeCut (layout : LayoutState) (ts : List Transcript) (cut : List ℕ) (r : ℕ) : Type 0 where
  pub seats : all_inside (cut_account layout ts cut) layout.sites r ≤ seats_in layout r
  pub writer_alone : IsWriterAlone (cut_account layout ts cut) layout.sites r
