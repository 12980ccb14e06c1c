-- The logs of all sites once all their entries came.
use Rattle.std.proofs.Common.{◌≡◌, ℕ, zero, suc, set, ◌+◌, ◌-◌, ◌<◌, ◌≤◌, ◌⊎◌, inl, inr, Bool, List, [], ◌∷◌, ◌++◌, length, get_or, Option, None, Some, refl, sym, ap, subst, ◌∙◌, append-nil, length-append, arith}
use Rattle.std.specs.Prelude.{min, IsSome, MatchOption, true, false}
use Rattle.std.proofs.lemmas.Bool.{cases_lt, cases_eq}
use Rattle.std.proofs.lemmas.List.{get_or_append_left, get_or_push, get_or-set_same, get_or-set_other, get_or_read, length_push, length-set}
use Rattle.merge_core.specs.declared.delta.Row.{Row}
use Rattle.merge_core.specs.Layout.{LayoutState, IsLayout}
use Rattle.admission_model.specs.Account.{Account}
use Rattle.desk_log.specs.declared.entry.Entry.{Entry}
use Rattle.desk_log.specs.declared.transcript.Run.{Run}
use Rattle.desk_log.specs.declared.transcript.Transcript.{Transcript}
use Rattle.log_replay.specs.Legal.{start_account, was_kept, account_at}
use Rattle.log_replay.specs.Replay.{IsEnd, TellsOwn, flags_of}
use Rattle.log_replay.specs.declared.stream.LogFault.{LogFault}
use Rattle.log_replay.specs.declared.stream.LogFault.TheVariants as fault
use Rattle.log_replay.specs.declared.stream.Stage.{Stage}
use Rattle.log_replay.specs.declared.stream.Stage.TheVariants.{Fresh, Open, Ended}
use Rattle.admission_core.specs.Core.{Core, Stands}
use Rattle.log_replay.specs.Stream.{HasEnded, IsClear, IsFaultOf, IsInRun, IsStage, count_of, left_of, length_by}
use Rattle.log_replay.proofs.StreamLemmas.{clear_stands, legal_last}
use Rattle.log_judge.specs.declared.stream.Taken.{Taken}
use Rattle.log_judge.specs.declared.stream.SiteLog.{SiteLog}
use Rattle.log_judge.specs.declared.stream.Logs.{Logs}
use Rattle.log_judge.specs.declared.keeping.Keeping.{Keeping}
use Rattle.log_judge.specs.declared.keeping.Keeping.TheVariants as way
use Rattle.log_judge.specs.declared.excess.Place.{Place}
use Rattle.log_judge.specs.declared.verdict.Verdict.TheVariants.{BadJoint, BadReply, Exceeds, Consistent}
use Rattle.log_judge.specs.Cut.{IsExcess, cut_account, entries_in, full_cut, lengths_below, no_transcript, runs_at, site_brought}
use Rattle.log_judge.specs.Table.{counts_line, cut_line}
use Rattle.log_judge.proofs.CutLemmas.{length_at}
use Rattle.log_judge.specs.Excess.{IsFirstAhead, IsFoundAt, NoneAhead}
use Rattle.log_judge.specs.Judging.{AreHistories}
use Rattle.log_judge.specs.Verdict.{AreLegalSites, AreOfSites, IsCut, IsVerdict}
use Rattle.log_judge.specs.Stream.{AllDone, AreAhead, AreAllLogs, AreDone, AreKept, AreLogs, AreNotAhead, AreTables, AreTaken, AreTakenTo, FitsKeeping, HasNoFault, IsGuess, IsLog, IsOpen, IsUntold, TellAll, no_entries, settled_in}
use Rattle.log_judge.proofs.BroughtLemmas.{run_brought, doubt_lost}
use Rattle.log_judge.proofs.StreamLemmas.{ahead_done, bound_done, none_done}
use Rattle.log_judge.proofs.TellsLemmas.{tells_all}
use Rattle.log_judge.proofs.VerdictLemmas.{none_exceeds, least_exceeds}

pub count_same : (runs : List Run) → count_of runs ≡ entries_in runs
count_same [] = refl
count_same (run ∷ later) = ap (λ (n : ℕ). length run.entries + n) (count_same later)

-- ---- rows that are kept, against tables

pub done_none : (tables : List (List Row)) (accounts : ℕ → Account) (rows : List Row) → TellAll tables accounts → AreDone accounts rows → NoneAhead tables rows
done_none tables accounts rows told done q there (cell, above) = omega (arith, above, told q.s q.r cell, done q there cell)

module _ (tables lists : List (List Row)) (accounts : ℕ → Account) (to : ℕ) (told : TellAll tables accounts) where
  -- no row of the next ones is ahead
  pub found_next : (from : ℕ) (rest later : List Taken) (t : Taken) → rest ≡ t ∷ later → AreTaken accounts lists from to rest → ((k : ℕ) → k < from → NoneAhead tables (get_or lists k [])) → NoneAhead tables t.delta.rows
      → (next : ℕ) × AreTaken accounts lists next to later × ((k : ℕ) → k < next → NoneAhead tables (get_or lists k []))
  found_next from rest later t split taken none here =
      let it : AreTaken accounts lists from to (t ∷ later) = subst (AreTaken accounts lists from to) split taken in
      (t.at + 1, it.4, passed from t it.2 it.3 none here)
    where
      passed : (from : ℕ) (t : Taken) → get_or lists t.at [] ≡ t.delta.rows → ((k : ℕ) → from ≤ k → k < t.at → AreDone accounts (get_or lists k [])) → ((k : ℕ) → k < from → NoneAhead tables (get_or lists k [])) → NoneAhead tables t.delta.rows → (k : ℕ) → k < t.at + 1 → NoneAhead tables (get_or lists k [])
      passed from t rows between none here k below = at (cases_eq k t.at) (cases_lt k from)
        where
          at : (k ≡ t.at) ⊎ (k ≡ t.at → ⊥) → (k < from) ⊎ (from ≤ k) → NoneAhead tables (get_or lists k [])
          at (inl same) other = subst (λ (rs : List Row). NoneAhead tables rs) (sym (ap (λ (n : ℕ). get_or lists n []) same ∙ rows)) here
          at (inr apart) (inl before) = none k before
          at (inr apart) (inr behind) = done_none tables accounts (get_or lists k []) told (between k behind (omega (arith, below, apart)))

  pub found_one : (from : ℕ) (rest later : List Taken) (t : Taken) (rec origin : ℕ) → rest ≡ t ∷ later → AreTaken accounts lists from to rest → ((k : ℕ) → k < from → NoneAhead tables (get_or lists k [])) → IsFirstAhead tables t.delta.rows rec origin
      → (t.at < to) × IsFirstAhead tables (get_or lists t.at []) rec origin × ((k : ℕ) → k < t.at → NoneAhead tables (get_or lists k []))
  found_one from rest later t rec origin split taken none here =
      let it : AreTaken accounts lists from to (t ∷ later) = subst (AreTaken accounts lists from to) split taken in
      (it.1, subst (λ (rs : List Row). IsFirstAhead tables rs rec origin) (sym it.2) here, λ k below. at it.3 k below (cases_lt k from))
    where
      at : ((k : ℕ) → from ≤ k → k < t.at → AreDone accounts (get_or lists k [])) → (k : ℕ) → k < t.at → (k < from) ⊎ (from ≤ k) → NoneAhead tables (get_or lists k [])
      at between k below (inl before) = none k before
      at between k below (inr behind) = done_none tables accounts (get_or lists k []) told (between k behind below)

  pub found_none : (from : ℕ) (rest : List Taken) → rest ≡ [] → AreTaken accounts lists from to rest → ((k : ℕ) → k < from → NoneAhead tables (get_or lists k [])) → (k : ℕ) → k < to → NoneAhead tables (get_or lists k [])
  found_none from rest empty taken none k below = at (cases_lt k from)
    where
      at : (k < from) ⊎ (from ≤ k) → NoneAhead tables (get_or lists k [])
      at (inl before) = none k before
      at (inr behind) = let it : AreTaken accounts lists from to [] = subst (AreTaken accounts lists from to) empty taken in done_none tables accounts (get_or lists k []) told (it k behind below)

-- ---- all entries came

module _ (layout : LayoutState) (ts : List Transcript) (cut : List ℕ) where
  -- all that a log kept before the cut
  pub log_end : (keeping : Keeping) (i : ℕ) (log : SiteLog) → IsLog layout ts cut i keeping [] [] log → (¬ HasEnded log.replay.stage) → IsGuess keeping (cut_account layout ts cut) → get_or cut i 0 ≤ entries_in (runs_at ts i)
      → AreKept (cut_account layout ts cut) (site_brought layout ts i) (get_or cut i 0) log
  log_end keeping i log it going guess within = at log.replay.stage refl
    where
      A : ℕ → Account
      A = cut_account layout ts cut

      lists : List (List Row)
      lists = site_brought layout ts i

      c : ℕ
      c = get_or cut i 0

      fits : c ≤ log.replay.at
      fits = omega (arith, within, it.replaying.entries, count_same (runs_at ts i))

      whole : AreKept A lists (min log.replay.at c) log → AreKept A lists c log
      whole taken = let bound : min log.replay.at c ≡ c = omega (arith, fits) in subst (λ (n : ℕ). AreKept A lists n log) bound taken

      free : length (left_of log.replay.stage) ≡ 0 → AreKept A lists c log
      free none = let bound : settled_in log ≡ log.replay.at = omega (arith, none) in whole (subst (λ (n : ℕ). AreKept A lists (min n c) log) bound (it.taken going guess))

      doubt : (d : Entry) (core : _) (left : List Entry) → (r : IsInRun layout i (runs_at ts i) [] [] core left log.replay.at) → left ≡ d ∷ [] → length (left_of log.replay.stage) ≡ 1 → AreKept A lists c log
      doubt d core left r is size =
          let one : length left ≡ 1 = ap (λ (xs : List Entry). length xs) is in
          let last : log.replay.at - 1 ≡ (r.before + r.n) + 0 = omega (arith, r.number, one) in
          let back_on : (log.replay.at - 1) + 1 ≡ log.replay.at = omega (arith, r.number, one) in
          let bound : settled_in log ≡ log.replay.at - 1 = omega (arith, size) in
          let way = subst (λ (xs : List Entry). Rattle.log_replay.specs.Replay.IsWay (Rattle.log_replay.specs.Legal.started r.account r.run) r.run.entries r.n r.reached xs) (append-nil left ∙ is) r.way in
          let rows = run_brought layout i (runs_at ts i) r.flags r.before r.n (log.replay.at - 1) r.account r.reached r.run [] [] d [] r.path way last in
          let end : IsEnd r.reached (d ∷ []) = subst (IsEnd r.reached) is r.ends in
          let done = none_done A lists (get_or lists (log.replay.at - 1) []) (rows ∙ doubt_lost d end.0.fault) in
          whole (subst (λ (n : ℕ). AreKept A lists (min n c) log) back_on
          (bound_done A lists (log.replay.at - 1) c log done (subst (λ (n : ℕ). AreKept A lists (min n c) log) bound (it.taken going guess))))

      at : (s : Stage) → log.replay.stage ≡ s → AreKept A lists c log
      at Fresh is = free (ap (λ (s : Stage). length (left_of s)) is)
      at (Ended f) is = absurd (going (subst HasEnded (sym is) tt))
      at (Open core left) is = go left.items refl
        where
          r : IsInRun layout i (runs_at ts i) [] [] core left.items log.replay.at
          r = subst (IsStage layout i (runs_at ts i) [] [] log.replay.at) is it.replaying.stage

          go : (xs : List Entry) → left.items ≡ xs → AreKept A lists c log
          go [] same = free (ap (λ (s : Stage). length (left_of s)) is ∙ ap (λ (xs : List Entry). length xs) same)
          go (d ∷ ds) same =
              let end : IsEnd r.reached (d ∷ ds) = subst (IsEnd r.reached) same r.ends in
              let one : left.items ≡ d ∷ [] = same ∙ ap (λ (ys : List Entry). d ∷ ys) end.1 in
              doubt d core left.items r one (ap (λ (s : Stage). length (left_of s)) is ∙ ap (λ (xs : List Entry). length xs) one)

  -- how many entries and runs a log has
  pub log_entries : (keeping : Keeping) (i : ℕ) (log : SiteLog) → IsLog layout ts cut i keeping [] [] log → log.replay.at ≡ entries_in (runs_at ts i)
  log_entries keeping i log it = omega (arith, it.replaying.entries, count_same (runs_at ts i))

  pub log_runs : (keeping : Keeping) (i : ℕ) (log : SiteLog) → IsLog layout ts cut i keeping [] [] log → log.replay.runs ≡ length (runs_at ts i)
  log_runs keeping i log it = omega (arith, it.replaying.run_number)

  -- the log at a place of the list
  pub log_here : (logs : Logs) (i : ℕ) (log : SiteLog) → AreAllLogs layout ts cut logs → i < length logs.sites.items → log ≡ get_or logs.sites.items i log → IsLog layout ts cut i logs.keeping [] [] log
  log_here logs i log all below is = subst (IsLog layout ts cut i logs.keeping [] []) (sym is) (all.each i below log)

  pub legal_below : (logs : Logs) (n : ℕ) → AreAllLogs layout ts cut logs → n ≤ length logs.sites.items → ((k : ℕ) → k < n → (none : SiteLog) → ¬ HasEnded (get_or logs.sites.items k none).replay.stage) → (none : SiteLog) → AreLegalSites layout ts n
  legal_below logs n all fits going none i below =
      let it = all.each i (omega (arith, below, fits)) none in
      legal_last layout i (runs_at ts i) (get_or logs.sites.items i none).replay.at (get_or logs.sites.items i none).replay.stage it.replaying.stage (going i below none)

  -- the first fault is the verdict
  pub fault_here : (logs : Logs) (i : ℕ) (log : SiteLog) (f : LogFault) → AreAllLogs layout ts cut logs → i < length logs.sites.items → log ≡ get_or logs.sites.items i log → log.replay.stage ≡ Ended f → IsFaultOf layout i (runs_at ts i) f
  fault_here logs i log f all below is ended = subst (IsStage layout i (runs_at ts i) [] [] log.replay.at) ended (log_here logs i log all below is).replaying.stage

  pub fault_verdict : (logs : Logs) (i : ℕ) (log : SiteLog) → AreAllLogs layout ts cut logs → IsCut ts cut → i < length logs.sites.items → log ≡ get_or logs.sites.items i log → ((k : ℕ) → k < i → (none : SiteLog) → ¬ HasEnded (get_or logs.sites.items k none).replay.stage)
      → log.replay.stage ≡ Ended fault.BadJoint → IsVerdict layout ts cut (BadJoint i)
  fault_verdict logs i log all is_cut below is going ended =
      (is_cut, legal_below logs i all (omega (arith, below)) going log, omega (arith, below, all.sites, all.number), fault_here logs i log fault.BadJoint all below is ended)

  pub reply_verdict : (logs : Logs) (i at : ℕ) (log : SiteLog) → AreAllLogs layout ts cut logs → IsCut ts cut → i < length logs.sites.items → log ≡ get_or logs.sites.items i log → ((k : ℕ) → k < i → (none : SiteLog) → ¬ HasEnded (get_or logs.sites.items k none).replay.stage)
      → log.replay.stage ≡ Ended (fault.BadReply at) → IsVerdict layout ts cut (BadReply i at)
  reply_verdict logs i at log all is_cut below is going ended =
      (is_cut, legal_below logs i all (omega (arith, below)) going log, omega (arith, below, all.sites, all.number), fault_here logs i log (fault.BadReply at) all below is ended)

  -- ---- tables

  pub tables_more : (n : ℕ) (tables : List (List Row)) (rows : List Row) → AreTables layout ts cut n tables → TellsOwn (length layout.records) rows (cut_account layout ts cut n) → AreTables layout ts cut (n + 1) (tables ++ rows ∷ [])
  tables_more n tables rows it tells = record {
    number = omega (arith, it.number, length_push tables rows);
    own_rows = λ i below. at i below (cases_eq i n);
  }
    where
      at : (i : ℕ) → i < n + 1 → (i ≡ n) ⊎ (i ≡ n → ⊥) → TellsOwn (length layout.records) (get_or (tables ++ rows ∷ []) i []) (cut_account layout ts cut i)
      at i below (inl same) =
          subst (λ (x : List Row). TellsOwn (length layout.records) x (cut_account layout ts cut i)) (sym (get_or_push tables rows [] i (it.number ∙ sym same)))
          (subst (λ (k : ℕ). TellsOwn (length layout.records) rows (cut_account layout ts cut k)) (sym same) tells)
      at i below (inr apart) =
          subst (λ (x : List Row). TellsOwn (length layout.records) x (cut_account layout ts cut i)) (sym (get_or_append_left tables (rows ∷ []) [] i (omega (arith, below, apart, it.number))))
          (it.own_rows i (omega (arith, below, apart)))

  -- the own rows of one log
  pub rows_told : (keeping : Keeping) (i : ℕ) (log : SiteLog) (rows : List Row) → IsLog layout ts cut i keeping [] [] log → get_or cut i 0 ≤ entries_in (runs_at ts i)
      → (length_by log.replay.cut log.replay.at ≤ log.replay.at → TellsOwn (length layout.records) rows (account_at (start_account layout i (runs_at ts i)) (length_by log.replay.cut log.replay.at) (runs_at ts i)))
      → TellsOwn (length layout.records) rows (cut_account layout ts cut i)
  rows_told keeping i log rows it within tells =
      let entries : log.replay.at ≡ count_of (runs_at ts i) = omega (arith, it.replaying.entries) in
      let same : length_by log.replay.cut log.replay.at ≡ get_or cut i 0 = ap (λ (n : ℕ). length_by log.replay.cut n) entries ∙ sym it.length_is in
      subst (λ (n : ℕ). TellsOwn (length layout.records) rows (account_at (start_account layout i (runs_at ts i)) n (runs_at ts i))) same
      (tells (omega (arith, same, within, entries, count_same (runs_at ts i))))

  -- flags that only the whole judge keeps
  abbrev flags_below : ℕ → List (List Bool)
  flags_below zero = []
  flags_below (suc n) = flags_below n ++ flags_of (start_account layout n (runs_at ts n)) (runs_at ts n) ∷ []

  flags_length : (n : ℕ) → length (flags_below n) ≡ n
  flags_length zero = refl
  flags_length (suc n) = grind (arith, length-append (flags_below n) (flags_of (start_account layout n (runs_at ts n)) (runs_at ts n) ∷ []), flags_length n)

  flags_at : (n i : ℕ) → i < n → get_or (flags_below n) i [] ≡ flags_of (start_account layout i (runs_at ts i)) (runs_at ts i)
  flags_at zero i below = absurd (omega (arith, below))
  flags_at (suc n) i below = at (cases_eq i n) (λ lower. flags_at n i lower)
    where
      last : List Bool
      last = flags_of (start_account layout n (runs_at ts n)) (runs_at ts n)

      at : (i ≡ n) ⊎ (i ≡ n → ⊥) → (i < n → get_or (flags_below n) i [] ≡ flags_of (start_account layout i (runs_at ts i)) (runs_at ts i)) → get_or (flags_below n ++ last ∷ []) i [] ≡ flags_of (start_account layout i (runs_at ts i)) (runs_at ts i)
      at (inl same) earlier = get_or_push (flags_below n) last [] i (flags_length n ∙ sym same) ∙ ap (λ (k : ℕ). flags_of (start_account layout k (runs_at ts k)) (runs_at ts k)) (sym same)
      at (inr apart) earlier = get_or_append_left (flags_below n) (last ∷ []) [] i (omega (arith, apart, flags_length n, below)) ∙ earlier (omega (arith, apart, below))

  pub tables_tell : (tables : List (List Row)) → IsLayout layout → length ts ≡ layout.sites → AreLegalSites layout ts (length ts) → AreTables layout ts cut layout.sites tables → TellAll tables (cut_account layout ts cut)
  tables_tell tables is number legal it =
      let histories : AreHistories layout ts cut (length ts) tables (flags_below (length ts)) = record {
        legal = legal;
        own_number = it.number ∙ sym number;
        kept_number = flags_length (length ts);
        own_rows = λ i below. it.own_rows i (omega (arith, below, number));
        flags = flags_at (length ts);
      } in
      tells_all layout ts cut tables (flags_below (length ts)) is number histories

  -- ---- the comparison

  pub legal_all : (logs : Logs) → AreAllLogs layout ts cut logs → HasNoFault logs.sites.items → (none : SiteLog) → AreLegalSites layout ts (length ts)
  legal_all logs all going none =
      let same : length logs.sites.items ≡ length ts = omega (arith, all.sites, all.number) in
      subst (AreLegalSites layout ts) same (legal_below logs (length logs.sites.items) all (omega arith) going none)

  pub legal_any : (logs : Logs) → AreAllLogs layout ts cut logs → HasNoFault logs.sites.items → AreLegalSites layout ts (length ts)
  legal_any logs all going = at logs.sites.items refl
    where
      at : (items : List SiteLog) → logs.sites.items ≡ items → AreLegalSites layout ts (length ts)
      at [] is = λ i below. absurd (let none : length logs.sites.items ≡ 0 = ap (λ (ls : List SiteLog). length ls) is in omega (arith, below, none, all.sites, all.number))
      at (x ∷ xs) is = legal_all logs all going x

  -- the own rows of all logs tell the counters at the cut
  pub tables_all : (logs : Logs) (tables : List (List Row)) → IsLayout layout → AreAllLogs layout ts cut logs → HasNoFault logs.sites.items → AreTables layout ts cut layout.sites tables → TellAll tables (cut_account layout ts cut)
  tables_all logs tables is all going it = tables_tell tables is all.number (legal_any logs all going) it

  pub consistent_verdict : (logs : Logs) → AreAllLogs layout ts cut logs → IsCut ts cut → HasNoFault logs.sites.items → ((k : ℕ) → k < length ts → (at r s : ℕ) → ¬ IsExcess layout ts cut k at r s) → IsVerdict layout ts cut Consistent
  consistent_verdict logs all is_cut going each = (is_cut, legal_any logs all going, λ i at r s excess. each i excess.site_there at r s excess)

  module _ (logs : Logs) (tables : List (List Row)) (all : AreAllLogs layout ts cut logs) (is_cut : IsCut ts cut) (going : HasNoFault logs.sites.items) (told : TellAll tables (cut_account layout ts cut)) (guess : IsGuess logs.keeping (cut_account layout ts cut)) where
    kept_log : (i : ℕ) (log : SiteLog) → i < length logs.sites.items → log ≡ get_or logs.sites.items i log → AreKept (cut_account layout ts cut) (site_brought layout ts i) (get_or cut i 0) log
    kept_log i log below same =
        log_end logs.keeping i log (log_here logs i log all below same) (λ over. going i below log (subst (λ (l : SiteLog). HasEnded l.replay.stage) same over)) guess
        (is_cut.within i (omega (arith, below, all.sites, all.number)))

    -- the answer to one log, whatever was not kept
    found_one_kept : (i : ℕ) (taken : List Taken) (p : Place) (dropped : Option ℕ) → AreTakenTo (cut_account layout ts cut) (site_brought layout ts i) (get_or cut i 0) dropped taken
        → ((accounts : ℕ → Account) (lists : List (List Row)) (to : ℕ) → AreTaken accounts lists 0 to taken → TellAll tables accounts → IsFoundAt tables lists to (Some p)) → IsFoundAt tables (site_brought layout ts i) (get_or cut i 0) (Some p)
    found_one_kept i taken p None kept found = found (cut_account layout ts cut) (site_brought layout ts i) (get_or cut i 0) kept told
    found_one_kept i taken p (Some d) kept found =
        let it = found (cut_account layout ts cut) (site_brought layout ts i) d kept.1 told in
        (omega (arith, it.0, kept.0), it.1, it.2)

    pub log_exceeds : (i : ℕ) (log : SiteLog) (p : Place) → i < length logs.sites.items → log ≡ get_or logs.sites.items i log
        → ((accounts : ℕ → Account) (lists : List (List Row)) (to : ℕ) → AreTaken accounts lists 0 to log.taken.items → TellAll tables accounts → IsFoundAt tables lists to (Some p))
        → ((k : ℕ) → k < i → (at r s : ℕ) → ¬ IsExcess layout ts cut k at r s) → IsVerdict layout ts cut (Exceeds i p.at p.rec p.origin)
    log_exceeds i log p below same found earlier = (
      is_cut,
      legal_all logs all going log,
      least_exceeds layout ts cut tables told i p (omega (arith, below, all.sites, all.number)) earlier (found_one_kept i log.taken.items p log.dropped (kept_log i log below same) found),
    )

    pub log_within : (i : ℕ) (log : SiteLog) → i < length logs.sites.items → log ≡ get_or logs.sites.items i log → log.dropped ≡ None
        → ((accounts : ℕ → Account) (lists : List (List Row)) (to : ℕ) → AreTaken accounts lists 0 to log.taken.items → TellAll tables accounts → IsFoundAt tables lists to None) → (at r s : ℕ) → ¬ IsExcess layout ts cut i at r s
    log_within i log below same none found =
        none_exceeds layout ts cut tables told i
        (found (cut_account layout ts cut) (site_brought layout ts i) (get_or cut i 0)
        (subst (λ (o : Option ℕ). AreTakenTo (cut_account layout ts cut) (site_brought layout ts i) (get_or cut i 0) o log.taken.items) none (kept_log i log below same)) told)

-- ---- where the verdict is not known

some_none : (o : Option ℕ) → o ≡ None → IsSome o → ⊥
some_none None is some = let wrong : false ≡ true = some in absurd cc
some_none (Some d) is some = let wrong : None ≡ Some d = sym is in absurd cc

-- the tables that merges were kept by are not those at the cut
pub wrong_guess : (keeping : Keeping) (logs : List SiteLog) (accounts : ℕ → Account) → (¬ IsGuess keeping accounts) → IsUntold keeping logs accounts
wrong_guess way.All logs accounts wrong = wrong tt
wrong_guess (way.First most) logs accounts wrong = absurd (wrong tt)
wrong_guess (way.Above tables) logs accounts wrong = wrong

not_ahead_done : (tables : List (List Row)) (accounts : ℕ → Account) (taken : List Taken) → TellAll tables accounts → AreNotAhead tables taken → AllDone accounts taken
not_ahead_done tables accounts [] told none = tt
not_ahead_done tables accounts (t ∷ ts) told none = (ahead_done tables accounts t.delta.rows told none.0, not_ahead_done tables accounts ts told none.1)

-- a merge that is kept is above one of two tables that tell the same accounts, and not above the other
ahead_once : (guess tables : List (List Row)) (accounts : ℕ → Account) (taken : List Taken) → TellAll guess accounts → TellAll tables accounts → length taken ≡ 1 → AreAhead guess taken → AreNotAhead tables taken → ⊥
ahead_once guess tables accounts [] by told size ahead none = omega (arith, size)
ahead_once guess tables accounts (t ∷ ts) by told size ahead none = ahead.0 (done_none guess accounts t.delta.rows by (ahead_done tables accounts t.delta.rows told none.0))

open_fits : (keeping : Keeping) (tables : List (List Row)) (logs : List SiteLog) (accounts : ℕ → Account) → TellAll tables accounts → (gap : IsOpen tables logs) → ((none : SiteLog) → FitsKeeping keeping (get_or logs gap.site none).dropped (get_or logs gap.site none).taken.items) → (none : SiteLog) → IsUntold keeping logs accounts
open_fits way.All tables logs accounts told gap fits none = some_none (get_or logs gap.site none).dropped (fits none) (gap.dropped none)
open_fits (way.First most) tables logs accounts told gap fits none = record {
  site = gap.site;
  there = gap.there;
  dropped = gap.dropped;
  all_done = λ j before other. not_ahead_done tables accounts (get_or logs j other).taken.items told (gap.none_ahead j before other);
}
open_fits (way.Above guess) tables logs accounts told gap fits none = λ by.
    ahead_once guess.items tables accounts (get_or logs gap.site none).taken.items by told ((fits none).0.1 (gap.dropped none)) (fits none).1 (gap.none_ahead gap.site (omega arith) none)

some_log : (logs : List SiteLog) (i : ℕ) → i < length logs → SiteLog
some_log [] i below = absurd (omega (arith, below))
some_log (x ∷ xs) i below = x

pub open_untold : (layout : LayoutState) (ts : List Transcript) (cut : List ℕ) (logs : Logs) (tables : List (List Row)) (accounts : ℕ → Account) → AreAllLogs layout ts cut logs → TellAll tables accounts → IsOpen tables logs.sites.items → IsUntold logs.keeping logs.sites.items accounts
open_untold layout ts cut logs tables accounts all told gap =
    open_fits logs.keeping tables logs.sites.items accounts told gap (λ none. (all.each gap.site gap.there none).fits) (some_log logs.sites.items gap.site gap.there)

-- where all is kept, no merge is lacking
pub never_open : (layout : LayoutState) (ts : List Transcript) (cut : List ℕ) (logs : Logs) (tables : List (List Row)) → AreAllLogs layout ts cut logs → logs.keeping ≡ way.All → IsOpen tables logs.sites.items → ⊥
never_open layout ts cut logs tables all is gap =
    let none = some_log logs.sites.items gap.site gap.there in
    let log = get_or logs.sites.items gap.site none in
    let fits = (all.each gap.site gap.there none).fits in
    some_none log.dropped (subst (λ (k : Keeping). FitsKeeping k log.dropped log.taken.items) is fits) (gap.dropped none)

-- a merge of this log is lacking
pub open_here : (tables : List (List Row)) (logs : List SiteLog) (i : ℕ) (log : SiteLog) → i < length logs → log ≡ get_or logs i log → IsSome log.dropped → AreNotAhead tables log.taken.items
    → ((k : ℕ) → k < i → (none : SiteLog) → AreNotAhead tables (get_or logs k none).taken.items) → IsOpen tables logs
open_here tables logs i log below same some here earlier = record {
  site = i;
  there = below;
  dropped = λ none. subst (λ (l : SiteLog). IsSome l.dropped) (get_or_read logs i log below same none) some;
  none_ahead = λ j before none. at j none before (cases_lt j i);
}
  where
    at : (j : ℕ) (none : SiteLog) → j ≤ i → (j < i) ⊎ (i ≤ j) → AreNotAhead tables (get_or logs j none).taken.items
    at j none before (inl less) = earlier j less none
    at j none before (inr more) =
        let place : i ≡ j = omega (arith, before, more) in
        subst (λ (k : ℕ). AreNotAhead tables (get_or logs k none).taken.items) place (subst (λ (l : SiteLog). AreNotAhead tables l.taken.items) (get_or_read logs i log below same none) here)

-- what is known of an answer, weaker
pub matched : {A : Type 0} (o : Option A) (P P2 : Type 0) (Q Q2 : A → Type 0) → (P → P2) → ((x : A) → Q x → Q2 x) → MatchOption o P Q → MatchOption o P2 Q2
matched None P P2 Q Q2 f g m = f m
matched (Some x) P P2 Q Q2 f g m = g x m

-- ---- the log of one site changes

pub logs_set : (layout : LayoutState) (ts : List Transcript) (cut : List ℕ) (more more2 : ℕ → List Entry) (later later2 : ℕ → List Run) (logs logs2 : Logs) (i : ℕ) (new : SiteLog) → i < length logs.sites.items
    → logs2.keeping ≡ logs.keeping → logs2.sites.items ≡ set logs.sites.items i new
    → IsLog layout ts cut i logs.keeping (more2 i) (later2 i) new → ((j : ℕ) → (j ≡ i → ⊥) → (more2 j ≡ more j) × (later2 j ≡ later j)) → AreLogs layout ts cut more later logs → AreLogs layout ts cut more2 later2 logs2
logs_set layout ts cut more more2 later later2 logs logs2 i new below keeping items is others all = record {
  sites = ap (λ (ls : List SiteLog). length ls) items ∙ (length-set logs.sites.items i new ∙ all.sites);
  number = all.number;
  each = λ j there none.
      subst (λ (k : Keeping). IsLog layout ts cut j k (more2 j) (later2 j) (get_or logs2.sites.items j none)) (sym keeping)
      (subst (λ (ls : List SiteLog). IsLog layout ts cut j logs.keeping (more2 j) (later2 j) (get_or ls j none)) (sym items)
      (at j none (let size : length logs2.sites.items ≡ length (set logs.sites.items i new) = ap (λ (ls : List SiteLog). length ls) items in omega (arith, there, size, length-set logs.sites.items i new)) (cases_eq j i)));
}
  where
    at : (j : ℕ) (none : SiteLog) → j < length logs.sites.items → (j ≡ i) ⊎ (j ≡ i → ⊥) → IsLog layout ts cut j logs.keeping (more2 j) (later2 j) (get_or (set logs.sites.items i new) j none)
    at j none there (inl same) =
        subst (λ (k : ℕ). IsLog layout ts cut k logs.keeping (more2 k) (later2 k) (get_or (set logs.sites.items i new) k none)) (sym same)
        (subst (IsLog layout ts cut i logs.keeping (more2 i) (later2 i)) (sym (get_or-set_same logs.sites.items i new none below)) is)
    at j none there (inr apart) =
        let same = others j apart in
        subst (λ (m : List Entry). IsLog layout ts cut j logs.keeping m (later2 j) (get_or (set logs.sites.items i new) j none)) (sym same.0)
        (subst (λ (l : List Run). IsLog layout ts cut j logs.keeping (more j) l (get_or (set logs.sites.items i new) j none)) (sym same.1)
        (subst (IsLog layout ts cut j logs.keeping (more j) (later j)) (sym (get_or-set_other logs.sites.items i j new none apart)) (all.each j there none)))

-- the log that is to change
pub log_of : (layout : LayoutState) (ts : List Transcript) (cut : List ℕ) (more : ℕ → List Entry) (later : ℕ → List Run) (logs : Logs) (i : ℕ) (log : SiteLog) → AreLogs layout ts cut more later logs → i < length logs.sites.items → log ≡ get_or logs.sites.items i log → IsLog layout ts cut i logs.keeping (more i) (later i) log
log_of layout ts cut more later logs i log all below is = subst (IsLog layout ts cut i logs.keeping (more i) (later i)) (sym is) (all.each i below log)

-- a core at which the next entry is replayed stands for some account
pub logs_stand : (layout : LayoutState) (ts : List Transcript) (cut : List ℕ) (more : ℕ → List Entry) (later : ℕ → List Run) (logs : Logs) (i : ℕ) (log : SiteLog) (core : Core) → AreLogs layout ts cut more later logs → i < length logs.sites.items
    → log ≡ get_or logs.sites.items i log → IsClear core log.replay.stage → (a : Account) × Stands a core
logs_stand layout ts cut more later logs i log core all below is clear =
    clear_stands layout i (runs_at ts i) (more i) (later i) log.replay core (log_of layout ts cut more later logs i log all below is).replaying clear

-- ---- what the loops over the logs know

-- before the first line, one site more
pub fresh_more : (keeping : Keeping) (layout : LayoutState) (ts : List Transcript) (lengths : List ℕ) (logs : List SiteLog) (n : ℕ) (log : SiteLog) → length logs ≡ n → ((k : ℕ) → k < n → k < length ts → (none : SiteLog) → IsLog layout ts lengths k keeping [] (runs_at ts k) (get_or logs k none))
    → (n < length ts → IsLog layout ts lengths n keeping [] (runs_at ts n) log) → (k : ℕ) → k < n + 1 → k < length ts → (none : SiteLog) → IsLog layout ts lengths k keeping [] (runs_at ts k) (get_or (logs ++ log ∷ []) k none)
fresh_more keeping layout ts lengths logs n log size each is k below there none = at (cases_eq k n)
  where
    at : (k ≡ n) ⊎ (k ≡ n → ⊥) → IsLog layout ts lengths k keeping [] (runs_at ts k) (get_or (logs ++ log ∷ []) k none)
    at (inl same) =
        subst (IsLog layout ts lengths k keeping [] (runs_at ts k)) (sym (get_or_push logs log none k (size ∙ sym same)))
        (subst (λ (j : ℕ). IsLog layout ts lengths j keeping [] (runs_at ts j) log) (sym same) (is (omega (arith, same, there))))
    at (inr apart) =
        subst (IsLog layout ts lengths k keeping [] (runs_at ts k)) (sym (get_or_append_left logs (log ∷ []) none k (omega (arith, below, apart, size))))
        (each k (omega (arith, below, apart)) there none)

pub fresh_all : (layout : LayoutState) (ts : List Transcript) (lengths : List ℕ) (logs : Logs) → length logs.sites.items ≡ layout.sites → length ts ≡ layout.sites → ((k : ℕ) → k < layout.sites → k < length ts → (none : SiteLog) → IsLog layout ts lengths k logs.keeping [] (runs_at ts k) (get_or logs.sites.items k none))
    → AreLogs layout ts lengths no_entries (runs_at ts) logs
fresh_all layout ts lengths logs sites number each = record { sites = sites; number = number; each = λ i below none. each i (omega (arith, below, sites)) (omega (arith, below, sites, number)) none }

-- the cut at the end of one log more
pub full_more : (layout : LayoutState) (ts : List Transcript) (cut : List ℕ) (logs : Logs) (i : ℕ) (log : SiteLog) (lengths : List ℕ) → AreAllLogs layout ts cut logs → i < length logs.sites.items → log ≡ get_or logs.sites.items i log → lengths ≡ lengths_below ts i → lengths ++ log.replay.at ∷ [] ≡ lengths_below ts (i + 1)
full_more layout ts cut logs i log lengths all below is so =
    let next : suc i ≡ i + 1 = omega arith in
    (λ k. so k ++ log_entries layout ts cut logs.keeping i log (log_here layout ts cut logs i log all below is) k ∷ []) ∙ ap (lengths_below ts) next

pub full_at : (layout : LayoutState) (ts : List Transcript) (lengths : List ℕ) (n : ℕ) → length ts ≡ layout.sites → n < layout.sites → lengths ≡ full_cut ts → get_or lengths n 0 ≡ count_of (runs_at ts n)
full_at layout ts lengths n number below is = ap (λ (ls : List ℕ). get_or ls n 0) is ∙ (length_at ts (length ts) n (omega (arith, number, below)) ∙ sym (count_same (runs_at ts n)))

-- the line of one log
pub line_here : (layout : LayoutState) (ts : List Transcript) (cut : List ℕ) (logs : Logs) (i n : ℕ) (log : SiteLog) → AreOfSites layout ts → AreAllLogs layout ts cut logs → i < length logs.sites.items → log ≡ get_or logs.sites.items i log
    → counts_line i n log.replay.at log.replay.runs ≡ cut_line (get_or ts i no_transcript) n
line_here layout ts cut logs i n log of all below is =
    let here = log_here layout ts cut logs i log all below is in
    let site : i ≡ (get_or ts i no_transcript).site = sym (of.in_order i (omega (arith, below, all.sites, all.number))) in
    λ k. counts_line (site k) n (log_entries layout ts cut logs.keeping i log here k) (log_runs layout ts cut logs.keeping i log here k)
