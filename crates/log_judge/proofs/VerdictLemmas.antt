-- What comparing the rows before a cut shows, and what a consistent cut keeps.
use Rattle.std.proofs.Common.{◌≡◌, ℕ, ◌<◌, ◌≤◌, ◌⊎◌, inl, inr, Bool, List, [], ◌∷◌, ◌++◌, length, map, get_or, Option, Some, None, refl, sym, ap, subst, ◌∙◌, arith}
use Rattle.std.proofs.lemmas.Bool.{cases_lt}
use Rattle.std.proofs.lemmas.List.{get_or_read}
use Rattle.merge_core.specs.declared.cell.Cell.{Cell}
use Rattle.merge_core.specs.declared.delta.Row.{Row}
use Rattle.merge_core.specs.Layout.{LayoutState, IsLayout}
use Rattle.merge_core.specs.Rows.{counter_in, counters_of}
use Rattle.admission_model.specs.Account.{Account, own}
use Rattle.desk_log.specs.declared.transcript.Run.{Run}
use Rattle.desk_log.specs.declared.transcript.Transcript.{Transcript}
use Rattle.multi_site_world.specs.Laws.{StandsIn, AreLogged, IsConsistentCut}
use Rattle.multi_site_world.proofs.LawLemmas.{separate_seats, separate_writer}
use Rattle.log_judge.specs.declared.excess.Place.{Place}
use Rattle.log_judge.specs.declared.verdict.Verdict.{Verdict}
use Rattle.log_judge.specs.declared.verdict.Verdict.TheVariants.{Exceeds, Consistent}
use Rattle.log_replay.specs.Legal.{was_kept, after_run, start_account}
use Rattle.log_judge.specs.Cut.{no_transcript, runs_at, cut_account, site_brought, brought, rows_brought, IsExcess, IsBefore, IsLeastExcess}
use Rattle.log_judge.specs.Excess.{IsAhead, IsFirstAhead, IsFoundAt, own_in, brought_by}
use Rattle.log_replay.specs.Replay.{flags_of}
use Rattle.log_judge.specs.Verdict.{AreLegalSites, IsCut, IsVerdict, IsSafeCut}
use Rattle.log_judge.specs.Judging.{AreHistories}
use Rattle.log_judge.proofs.LeadsLemmas.{logged_at}
use Rattle.log_judge.proofs.HeardLemmas.{all_done, heard_at}
use Rattle.log_judge.proofs.TellsLemmas.{tells_all}

-- by the flags of runs they brought what they brought
brought_same : (a : Account) (runs : List Run) → brought_by (flags_of a runs) runs ≡ brought a runs
brought_same a [] = refl
brought_same a (run ∷ later) = ap (λ (lists : List (List Row)). map (rows_brought (was_kept a run later)) run.entries ++ lists) (brought_same (after_run a run later) later)

-- tables that tell the own counters of all accounts
abbrev pub TellAll : List (List Row) → (ℕ → Account) → Type 0
TellAll tables accounts = (s r : ℕ) (cell : Cell) → counter_in (counters_of (own_in tables s r)) cell ≡ own (accounts s) r cell

module _ (layout : LayoutState) (ts : List Transcript) (cut : List ℕ) (tables : List (List Row)) (told : TellAll tables (cut_account layout ts cut)) where
  -- a row that exceeds what its site had done is ahead, and the other way round
  excess_ahead : (i at r s : ℕ) (excess : IsExcess layout ts cut i at r s) → IsAhead tables excess.row
  excess_ahead i at r s excess =
      let p = excess.row in
      let here : own (cut_account layout ts cut p.s) p.r excess.cell < counter_in (counters_of p) excess.cell = subst (λ (q : ℕ). own (cut_account layout ts cut p.s) q excess.cell < counter_in (counters_of p) excess.cell) (sym excess.record_is)
      (subst (λ (t : ℕ). own (cut_account layout ts cut t) r excess.cell < counter_in (counters_of p) excess.cell) (sym excess.origin_is) excess.above) in
      (excess.cell, omega (arith, told p.s p.r excess.cell, here))

  ahead_excess : (i at r s : ℕ) → i < length ts → at < get_or cut i 0 → IsFirstAhead tables (get_or (site_brought layout ts i) at []) r s → IsExcess layout ts cut i at r s
  ahead_excess i at r s there within first = record {
    site_there = there;
    within = within;
    row = first.row;
    here = first.here;
    record_is = first.record_is;
    origin_is = first.origin_is;
    cell = first.ahead.0;
    above = subst (λ (q : ℕ). own (cut_account layout ts cut s) q first.ahead.0 < counter_in (counters_of first.row) first.ahead.0) first.record_is
        (subst (λ (t : ℕ). own (cut_account layout ts cut t) first.row.r first.ahead.0 < counter_in (counters_of first.row) first.ahead.0) first.origin_is
        (omega (arith, told first.row.s first.row.r first.ahead.0, first.ahead.1)));
  }

  -- the answer to a site's transcript
  pub none_exceeds : (i : ℕ) → IsFoundAt tables (site_brought layout ts i) (get_or cut i 0) None → (at r s : ℕ) → ¬ IsExcess layout ts cut i at r s
  none_exceeds i found at r s excess = found at excess.within excess.row excess.here (excess_ahead i at r s excess)

  pub least_exceeds : (i : ℕ) (it : Place) → i < length ts → ((k : ℕ) → k < i → (at r s : ℕ) → ¬ IsExcess layout ts cut k at r s) → IsFoundAt tables (site_brought layout ts i) (get_or cut i 0) (Some it) → IsLeastExcess layout ts cut i it.at it.rec it.origin
  least_exceeds i it there earlier found = record {
    is = ahead_excess i it.at it.rec it.origin there found.0 found.1;
    least = least;
  }
    where
      after_site : (j bt q t : ℕ) → IsExcess layout ts cut j bt q t → j ≡ i → (bt < it.at) ⊎ ((bt ≡ it.at) × ((q < it.rec) ⊎ ((q ≡ it.rec) × (t < it.origin)))) → ⊥
      after_site j bt q t excess same (inl before) =
          found.2 bt before excess.row (subst (λ (k : ℕ). StandsIn excess.row (get_or (site_brought layout ts k) bt [])) same excess.here) (excess_ahead j bt q t excess)
      after_site j bt q t excess same (inr (entry, before)) =
          let row_there : StandsIn excess.row (get_or (site_brought layout ts i) it.at []) = subst (λ (k : ℕ). StandsIn excess.row (get_or (site_brought layout ts i) k [])) entry
          (subst (λ (k : ℕ). StandsIn excess.row (get_or (site_brought layout ts k) bt [])) same excess.here) in
          found.1.least excess.row row_there (excess_ahead j bt q t excess) (moved before)
        where
          moved : (q < it.rec) ⊎ ((q ≡ it.rec) × (t < it.origin)) → (excess.row.r < it.rec) ⊎ ((excess.row.r ≡ it.rec) × (excess.row.s < it.origin))
          moved (inl less) = inl (subst (λ (x : ℕ). x < it.rec) (sym excess.record_is) less)
          moved (inr (equal, less)) = inr (excess.record_is ∙ equal, subst (λ (x : ℕ). x < it.origin) (sym excess.origin_is) less)

      least : (j bt q t : ℕ) → IsExcess layout ts cut j bt q t → IsBefore j bt q t i it.at it.rec it.origin → ⊥
      least j bt q t excess (inl before) = earlier j before bt q t excess
      least j bt q t excess (inr (same, before)) = after_site j bt q t excess same before

-- the rows by the flags that were kept are those that the site's merges brought
pub brought_there : (layout : LayoutState) (ts : List Transcript) (cut : List ℕ) (tables : List (List Row)) (kept : List (List Bool)) (i : ℕ) → i < length ts → AreHistories layout ts cut (length ts) tables kept → brought_by (get_or kept i []) (runs_at ts i) ≡ site_brought layout ts i
brought_there layout ts cut tables kept i below histories =
    ap (λ (flags : List Bool). brought_by flags (runs_at ts i)) (histories.flags i below) ∙ brought_same (start_account layout i (runs_at ts i)) (runs_at ts i)

-- the answer to one site, by the tables and flags that were kept
pub site_exceeds : (layout : LayoutState) (ts : List Transcript) (cut : List ℕ) (tables : List (List Row)) (kept : List (List Bool)) (i : ℕ) (it : Place) → IsLayout layout → length ts ≡ layout.sites → AreHistories layout ts cut (length ts) tables kept → IsCut ts cut → i < length ts → ((k : ℕ) → k < i → (at r s : ℕ) → ¬ IsExcess layout ts cut k at r s)
    → IsFoundAt tables (brought_by (get_or kept i []) (runs_at ts i)) (get_or cut i 0) (Some it) → IsVerdict layout ts cut (Exceeds i it.at it.rec it.origin)
site_exceeds layout ts cut tables kept i it is number histories is_cut below earlier found = (
  is_cut,
  histories.legal,
  least_exceeds layout ts cut tables (tells_all layout ts cut tables kept is number histories) i it below earlier
      (subst (λ (lists : List (List Row)). IsFoundAt tables lists (get_or cut i 0) (Some it)) (brought_there layout ts cut tables kept i below histories) found),
)

pub site_within : (layout : LayoutState) (ts : List Transcript) (cut : List ℕ) (tables : List (List Row)) (kept : List (List Bool)) (i : ℕ) → IsLayout layout → length ts ≡ layout.sites → AreHistories layout ts cut (length ts) tables kept → i < length ts
    → IsFoundAt tables (brought_by (get_or kept i []) (runs_at ts i)) (get_or cut i 0) None → (at r s : ℕ) → ¬ IsExcess layout ts cut i at r s
site_within layout ts cut tables kept i is number histories below found =
    none_exceeds layout ts cut tables (tells_all layout ts cut tables kept is number histories) i
    (subst (λ (lists : List (List Row)). IsFoundAt tables lists (get_or cut i 0) None) (brought_there layout ts cut tables kept i below histories) found)

-- the answer to a site, as the code asked for it
pub found_there : (o : Option Place) (ts : List Transcript) (cut : List ℕ) (tables own : List (List Row)) (kept : List (List Bool)) (flags : List Bool) (runs : List Run) (at i : ℕ) → own ≡ tables → at ≡ i → flags ≡ get_or kept at [] → runs ≡ runs_at ts at → IsFoundAt own (brought_by flags runs) (get_or cut at 0) o → IsFoundAt tables (brought_by (get_or kept i []) (runs_at ts i)) (get_or cut i 0) o
found_there o ts cut tables own kept flags runs at i same place flags_are runs_are found =
    let by_own : IsFoundAt tables (brought_by flags runs) (get_or cut at 0) o = subst (λ (x : List (List Row)). IsFoundAt x (brought_by flags runs) (get_or cut at 0) o) same found in
    let by_flags : IsFoundAt tables (brought_by (get_or kept at []) runs) (get_or cut at 0) o = subst (λ (x : List Bool). IsFoundAt tables (brought_by x runs) (get_or cut at 0) o) flags_are by_own in
    let by_runs : IsFoundAt tables (brought_by (get_or kept at []) (runs_at ts at)) (get_or cut at 0) o = subst (λ (x : List Run). IsFoundAt tables (brought_by (get_or kept at []) x) (get_or cut at 0) o) runs_are by_flags in
    subst (λ (k : ℕ). IsFoundAt tables (brought_by (get_or kept k []) (runs_at ts k)) (get_or cut k 0) o) place by_runs

-- the runs of a transcript that was read
pub runs_read : (ts : List Transcript) (i : ℕ) (t : Transcript) (runs : List Run) → i < length ts → t ≡ get_or ts i t → runs ≡ t.runs → runs ≡ runs_at ts i
runs_read ts i t runs below is same = same ∙ ap (λ (x : Transcript). x.runs) (get_or_read ts i t below is no_transcript)

-- where no site exceeds, the cut is consistent
pub all_within : (layout : LayoutState) (ts : List Transcript) (cut : List ℕ) (tables : List (List Row)) (kept : List (List Bool)) → AreHistories layout ts cut (length ts) tables kept → IsCut ts cut → ((k : ℕ) → k < length ts → (at r s : ℕ) → ¬ IsExcess layout ts cut k at r s) → IsVerdict layout ts cut Consistent
all_within layout ts cut tables kept histories is_cut each =
    (is_cut, histories.legal, λ i at r s excess. each i excess.site_there at r s excess)

-- a consistent cut keeps the seats, and a writer alone
module _ (layout : LayoutState) (ts : List Transcript) (cut : List ℕ) (is : IsLayout layout) (number : length ts ≡ layout.sites) (legal : AreLegalSites layout ts (length ts)) (none : (i at r s : ℕ) → ¬ IsExcess layout ts cut i at r s) where
  logged : AreLogged layout (cut_account layout ts cut)
  logged i below = logged_at layout i (runs_at ts i) (get_or cut i 0) below (legal i (omega (arith, number, below)))

  within : (i at : ℕ) → i < length ts → at < get_or cut i 0 → (q : Row) → StandsIn q (get_or (site_brought layout ts i) at []) → (cell : Cell) → counter_in (counters_of q) cell ≤ own (cut_account layout ts cut q.s) q.r cell
  within i at there below q here cell = decide (cases_lt (own (cut_account layout ts cut q.s) q.r cell) (counter_in (counters_of q) cell))
    where
      decide : (own (cut_account layout ts cut q.s) q.r cell < counter_in (counters_of q) cell) ⊎ (counter_in (counters_of q) cell ≤ own (cut_account layout ts cut q.s) q.r cell) → counter_in (counters_of q) cell ≤ own (cut_account layout ts cut q.s) q.r cell
      decide (inl above) = absurd (none i at q.r q.s (record { site_there = there; within = below; row = q; here = here; record_is = refl; origin_is = refl; cell = cell; above = above }))
      decide (inr fits) = fits

  consistent : IsConsistentCut layout (cut_account layout ts cut)
  consistent i below =
      let there : i < length ts = omega (arith, number, below) in
      heard_at (cut_account layout ts cut) layout i (start_account layout i (runs_at ts i)) (get_or cut i 0) (runs_at ts i) (legal i there) tt
      (λ at before. all_done (cut_account layout ts cut) (get_or (site_brought layout ts i) at []) (within i at there before))

  pub safe_cut : (r : ℕ) → IsSafeCut layout ts cut r
  safe_cut r = record {
    seats = separate_seats layout is (cut_account layout ts cut) logged consistent r;
    writer_alone = separate_writer layout is (cut_account layout ts cut) logged consistent r;
  }

-- the verdict that a cut is consistent tells that it is safe
pub safe_verdict : (layout : LayoutState) (ts : List Transcript) (cut : List ℕ) (verdict : Verdict) → IsLayout layout → length ts ≡ layout.sites → IsVerdict layout ts cut verdict → verdict ≡ Consistent → (r : ℕ) → IsSafeCut layout ts cut r
safe_verdict layout ts cut verdict is number right consistent =
    let it : IsVerdict layout ts cut Consistent = subst (IsVerdict layout ts cut) consistent right in
    safe_cut layout ts cut is number it.1 it.2
