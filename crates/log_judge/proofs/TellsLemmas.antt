-- The own rows at a cut tell the own counters of every site and record, those that are not there included.
use Rattle.std.proofs.Common.{◌≡◌, ℕ, ◌+◌, ◌<◌, ◌≤◌, ◌⊎◌, inl, inr, Bool, eqb, List, [], ◌∷◌, ◌++◌, length, get_or, refl, sym, ap, subst, ◌∙◌, arith}
use Rattle.std.proofs.lemmas.Bool.{cases_lt, cond_both, eqb-true}
use Rattle.std.proofs.lemmas.List.{get_or_past, get_or-map, length-map, get_or_append_left, get_or_push, length_push}
use Rattle.merge_core.specs.declared.cell.Cell.{Cell}
use Rattle.merge_core.specs.declared.cell.Cell.TheVariants.{Out, Taken, Ann, Fin}
use Rattle.merge_core.specs.declared.delta.Row.{Row}
use Rattle.merge_core.specs.declared.layout.RecordSpec.{RecordSpec}
use Rattle.merge_core.specs.Layout.{LayoutState, IsLayout, RecordShape, shape_of, record_shape, at_sites}
use Rattle.merge_core.specs.Rows.{counter_in, counters_of, grant, start_counter, no_record}
use Rattle.admission_model.specs.Account.{Account, Origin, start_origin, own}
use Rattle.admission_model.specs.Sound.{IsSound}
use Rattle.admission_model.proofs.LawLemmas.{sound_reached}
use Rattle.admission_model.proofs.ServingLemmas.{origin_replay}
use Rattle.desk_log.specs.declared.transcript.Run.{Run}
use Rattle.desk_log.specs.declared.transcript.Transcript.{Transcript}
use Rattle.log_replay.specs.Legal.{AreLegal, first_sites, start_account, account_at}
use Rattle.log_judge.specs.Cut.{no_transcript, runs_at, cut_account}
use Rattle.log_judge.specs.Excess.{own_in, no_row}
use Rattle.log_judge.specs.Verdict.{IsLegalSite, AreLegalSites}
use Rattle.log_replay.specs.Replay.{TellsOwn, flags_of}
use Rattle.log_judge.specs.Judging.{AreHistories}
use Rattle.log_judge.proofs.LeadsLemmas.{leads_at, start_leads, reached_at}

-- a row that is not there tells nothing
pub none_told : (cell : Cell) → counter_in (counters_of no_row) cell ≡ 0
none_told (Out j) = get_or_past [] j 0 (omega arith)
none_told Taken = refl
none_told Ann = refl
none_told Fin = refl

-- every home is one of the sites
home_there : (layout : LayoutState) → IsLayout layout → (r : ℕ) → (get_or (shape_of layout).records r no_record).home < layout.sites
home_there layout is r = at (cases_lt r (length layout.records))
  where
    d : RecordSpec
    d = record { name = []; seats = 0; home = 0; problem = 0 }

    at : (r < length layout.records) ⊎ (length layout.records ≤ r) → (get_or (shape_of layout).records r no_record).home < layout.sites
    at (inl below) =
        let e : (get_or (shape_of layout).records r no_record).home ≡ (get_or layout.records r d).home = ap (λ (x : RecordShape). x.home) (get_or-map record_shape layout.records r d no_record below) in
        let here = is.homes r d below in
        omega (arith, e, here)
    at (inr past) =
        let e : (get_or (shape_of layout).records r no_record).home ≡ 0 = ap (λ (x : RecordShape). x.home) (get_or_past (shape_of layout).records r no_record (omega (arith, length-map layout.records record_shape))) in
        omega (arith, e, is.some_sites)

-- a site that is not there is granted nothing
no_grant : (layout : LayoutState) → IsLayout layout → (r s : ℕ) → layout.sites ≤ s → grant (shape_of layout) r s ≡ 0
no_grant layout is r s past =
    let home = home_there layout is r in
    cond_both (eqb s (get_or (shape_of layout).records r no_record).home) (get_or (shape_of layout).records r no_record).seats 0 (λ (n : ℕ). n ≡ 0)
    (λ e. absurd (let same = eqb-true s (get_or (shape_of layout).records r no_record).home e in omega (arith, same, home, past))) (λ e. refl)

start_beyond : (layout : LayoutState) → IsLayout layout → (r s : ℕ) (cell : Cell) → layout.sites ≤ s → start_counter (shape_of layout) r s cell ≡ 0
start_beyond layout is r s (Out j) past =
    cond_both (eqb j s) (grant (shape_of layout) r s) 0 (λ (n : ℕ). n ≡ 0) (λ e. no_grant layout is r s past) (λ e. refl)
start_beyond layout is r s Taken past = refl
start_beyond layout is r s Ann past = refl
start_beyond layout is r s Fin past = refl

-- the account at a cut begins under the layout's records, at its site
pub origin_at : (layout : LayoutState) (i : ℕ) (runs : List Run) (n : ℕ) → AreLegal layout i (start_account layout i runs) runs → (account_at (start_account layout i runs) n runs).origin ≡ start_origin (at_sites (first_sites layout runs) layout) i
origin_at layout i runs n legal =
    let s = start_account layout i runs in
    let leads = leads_at layout i s s n runs legal (start_leads s) in
    ap (λ (x : Account). x.origin) leads.replayed ∙ origin_replay s leads.steps

-- records that are not there have no counters
own_beyond : (layout : LayoutState) (i : ℕ) (runs : List Run) (n r : ℕ) (cell : Cell) → i < layout.sites → AreLegal layout i (start_account layout i runs) runs → length layout.records ≤ r → own (account_at (start_account layout i runs) n runs) r cell ≡ 0
own_beyond layout i runs n r cell below legal past =
    let sound : IsSound (account_at (start_account layout i runs) n runs) = sound_reached (account_at (start_account layout i runs) n runs) (reached_at layout i runs n below legal) in
    let records : length (account_at (start_account layout i runs) n runs).origin.layout.records ≡ length layout.records = ap (λ (o : Origin). length o.layout.records) (origin_at layout i runs n legal) in
    sound.no_other_records.none_done r cell (omega (arith, records, past))

module _ (layout : LayoutState) (ts : List Transcript) (cut : List ℕ) (tables : List (List Row)) (kept : List (List Bool)) (is : IsLayout layout) (number : length ts ≡ layout.sites) (histories : AreHistories layout ts cut (length ts) tables kept) where
  told_there : (s r : ℕ) (cell : Cell) → s < length ts → (r < length layout.records) ⊎ (length layout.records ≤ r) → counter_in (counters_of (own_in tables s r)) cell ≡ own (cut_account layout ts cut s) r cell
  told_there s r cell below (inl there) = (histories.own_rows s below).tells r there no_row cell
  told_there s r cell below (inr past) =
      let short = (histories.own_rows s below).number in
      ap (λ (p : Row). counter_in (counters_of p) cell) (get_or_past (get_or tables s []) r no_row (omega (arith, short, past)))
      ∙ (none_told cell ∙ sym (own_beyond layout s (runs_at ts s) (get_or cut s 0) r cell (omega (arith, below, number)) (histories.legal s below) past))

  told_beyond : (s r : ℕ) (cell : Cell) → length ts ≤ s → counter_in (counters_of (own_in tables s r)) cell ≡ own (cut_account layout ts cut s) r cell
  told_beyond s r cell past =
      let no_rows : get_or tables s [] ≡ [] = get_or_past tables s [] (omega (arith, histories.own_number, past)) in
      let no_runs : runs_at ts s ≡ [] = ap (λ (t : Transcript). t.runs) (get_or_past ts s no_transcript past) in
      ap (λ (rows : List Row). counter_in (counters_of (get_or rows r no_row)) cell) no_rows
      ∙ (ap (λ (p : Row). counter_in (counters_of p) cell) (get_or_past [] r no_row (omega arith))
      ∙ (none_told cell
      ∙ sym (ap (λ (runs : List Run). own (account_at (start_account layout s runs) (get_or cut s 0) runs) r cell) no_runs ∙ start_beyond layout is r s cell (omega (arith, number, past)))))

  -- all tables tell what their sites have done
  pub tells_all : (s r : ℕ) (cell : Cell) → counter_in (counters_of (own_in tables s r)) cell ≡ own (cut_account layout ts cut s) r cell
  tells_all s r cell = at (cases_lt s (length ts))
    where
      at : (s < length ts) ⊎ (length ts ≤ s) → counter_in (counters_of (own_in tables s r)) cell ≡ own (cut_account layout ts cut s) r cell
      at (inl below) = told_there s r cell below (cases_lt r (length layout.records))
      at (inr past) = told_beyond s r cell past

-- an element more
at_push : {X : Type 0} (P : ℕ → X → Type 0) (xs : List X) (x d : X) (n : ℕ) → length xs ≡ n → ((i : ℕ) → i < n → P i (get_or xs i d)) → P n x → (i : ℕ) → i < n + 1 → P i (get_or (xs ++ x ∷ []) i d)
at_push P xs x d n size each here i below = at (cases_lt i n)
  where
    at : (i < n) ⊎ (n ≤ i) → P i (get_or (xs ++ x ∷ []) i d)
    at (inl earlier) = subst (P i) (sym (get_or_append_left xs (x ∷ []) d i (omega (arith, size, earlier)))) (each i earlier)
    at (inr past) =
        let same : n ≡ i = omega (arith, past, below) in
        let value : get_or (xs ++ x ∷ []) i d ≡ x = get_or_push xs x d i (size ∙ same) in
        subst (P i) (sym value) (subst (λ (k : ℕ). P k x) same here)

legal_more : (layout : LayoutState) (ts : List Transcript) (n : ℕ) → AreLegalSites layout ts n → IsLegalSite layout ts n → AreLegalSites layout ts (n + 1)
legal_more layout ts n legal here i below = at (cases_lt i n)
  where
    at : (i < n) ⊎ (n ≤ i) → IsLegalSite layout ts i
    at (inl earlier) = legal i earlier
    at (inr past) = let same : n ≡ i = omega (arith, past, below) in subst (IsLegalSite layout ts) same here

-- one site more
pub histories_more : (layout : LayoutState) (ts : List Transcript) (cut : List ℕ) (n : ℕ) (tables : List (List Row)) (kept : List (List Bool)) (rows : List Row) (flags : List Bool) → AreHistories layout ts cut n tables kept → IsLegalSite layout ts n → TellsOwn (length layout.records) rows (cut_account layout ts cut n) → flags ≡ flags_of (start_account layout n (runs_at ts n)) (runs_at ts n)
    → AreHistories layout ts cut (n + 1) (tables ++ rows ∷ []) (kept ++ flags ∷ [])
histories_more layout ts cut n tables kept rows flags histories legal tells same = record {
  legal = legal_more layout ts n histories.legal legal;
  own_number = omega (arith, length_push_rows, histories.own_number);
  kept_number = omega (arith, length_push_flags, histories.kept_number);
  own_rows = at_push (λ i table. TellsOwn (length layout.records) table (cut_account layout ts cut i)) tables rows [] n histories.own_number histories.own_rows tells;
  flags = at_push (λ i fs. fs ≡ flags_of (start_account layout i (runs_at ts i)) (runs_at ts i)) kept flags [] n histories.kept_number histories.flags same;
}
  where
    length_push_rows : length (tables ++ rows ∷ []) ≡ length tables + 1
    length_push_rows = length_push tables rows

    length_push_flags : length (kept ++ flags ∷ []) ≡ length kept + 1
    length_push_flags = length_push kept flags
