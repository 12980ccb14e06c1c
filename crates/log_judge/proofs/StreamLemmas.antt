-- The logs of all sites as their entries come: which rows of them are kept.
use Rattle.std.proofs.Common.{◌≡◌, ℕ, ◌+◌, ◌-◌, ◌<◌, ◌≤◌, ◌⊎◌, inl, inr, Bool, true, false, cond, List, [], ◌∷◌, ◌++◌, length, get_or, Option, None, Some, refl, sym, ap, subst, ◌∙◌, arith}
use Rattle.std.specs.Prelude.{min, MatchOption, IsSome, Vec}
use Rattle.std.specs.Global.{Global}
use Rattle.std.proofs.lemmas.Bool.{cases_lt, cases_eq, false≢true}
use Rattle.std.proofs.lemmas.List.{length_push}
use Rattle.merge_core.specs.declared.cell.Cell.{Cell}
use Rattle.merge_core.specs.declared.delta.Row.{Row}
use Rattle.merge_core.specs.Layout.{LayoutState}
use Rattle.merge_core.specs.Rows.{counter_in, counters_of}
use Rattle.admission_model.specs.declared.ask.Call.{Call}
use Rattle.admission_model.specs.declared.ask.Call.TheVariants.{Snapshot}
use Rattle.admission_model.specs.Account.{Account, own}
use Rattle.admission_core.specs.Core.{Core}
use Rattle.desk_log.specs.declared.entry.Entry.{Entry}
use Rattle.desk_log.specs.declared.transcript.Run.{Run}
use Rattle.desk_log.specs.declared.transcript.Transcript.{Transcript}
use Rattle.desk_log.specs.Log.{is_fault}
use Rattle.multi_site_world.specs.Laws.{StandsIn}
use Rattle.log_replay.specs.Legal.{was_kept}
use Rattle.log_replay.specs.Replay.{IsEnd}
use Rattle.log_replay.specs.declared.stream.Stage.{Stage}
use Rattle.log_replay.specs.declared.stream.Stage.TheVariants.{Fresh, Open, Ended}
use Rattle.log_replay.specs.declared.stream.SiteReplay.{SiteReplay}
use Rattle.log_replay.specs.Stream.{HasEnded, IsClear, IsHandedBack, IsInRun, IsReplaying, IsSettled, IsShownBy, IsStage, count_of, left_of, length_by}
use Rattle.log_replay.proofs.StreamLemmas.{clear_left, shown_on}
use Rattle.log_judge.specs.declared.stream.Taken.{Taken}
use Rattle.log_judge.specs.declared.stream.SiteLog.{SiteLog}
use Rattle.log_judge.specs.declared.keeping.Keeping.{Keeping}
use Rattle.log_judge.specs.declared.keeping.Keeping.TheVariants as way
use Rattle.log_judge.specs.Cut.{brought, cut_account, is_accepted, merge_rows, rows_brought, runs_at, site_brought}
use Rattle.log_judge.specs.Excess.{NoneAhead}
use Rattle.log_judge.specs.Stream.{AreAhead, AreDone, AreKept, AreTaken, AreTakenTo, FitsKeeping, IsFitting, IsGuess, IsLog, Keeps, KeepsWithin, Pushes, Takes, TakesBack, TakesKept, TellAll, settled_in}
use Rattle.log_judge.proofs.BroughtLemmas.{run_brought, plain_reply, doubt_kept, doubt_lost, merge_kept}

-- ---- which rows are kept

module _ (accounts : ℕ → Account) (lists : List (List Row)) where
  pub none_done : (rows : List Row) → rows ≡ [] → AreDone accounts rows
  none_done rows none q there = absurd (subst (StandsIn q) none there)

  -- one list more that tells no more than was done
  pub taken_on : (from to : ℕ) (ts : List Taken) → AreDone accounts (get_or lists to []) → AreTaken accounts lists from to ts → AreTaken accounts lists from (to + 1) ts
  taken_on from to [] done taken = λ k more below. at k more below (cases_eq k to)
    where
      at : (k : ℕ) → from ≤ k → k < to + 1 → (k ≡ to) ⊎ (k ≡ to → ⊥) → AreDone accounts (get_or lists k [])
      at k more below (inl same) = subst (λ (n : ℕ). AreDone accounts (get_or lists n [])) (sym same) done
      at k more below (inr apart) = taken k more (omega (arith, below, apart))
  taken_on from to (t ∷ ts) done taken = (taken.0, omega (arith, taken.1), taken.2, taken.3, taken_on (t.at + 1) to ts done taken.4)

  -- one that is kept
  pub taken_push : (from to : ℕ) (ts : List Taken) (t : Taken) → from ≤ to → t.at ≡ to → get_or lists to [] ≡ t.delta.rows → AreTaken accounts lists from to ts → AreTaken accounts lists from (to + 1) (ts ++ t ∷ [])
  taken_push from to [] t fits at rows taken = (
    omega (arith, at, fits),
    omega (arith, at),
    ap (λ (n : ℕ). get_or lists n []) at ∙ rows,
    λ k more below. taken k more (omega (arith, below, at)),
    λ k more below. absurd (omega (arith, more, below, at)),
  )
  taken_push from to (u ∷ ts) t fits at rows taken = (taken.0, omega (arith, taken.1), taken.2, taken.3, taken_push (u.at + 1) to ts t (omega (arith, taken.1)) at rows taken.4)

-- one list more that tells no more than was done, whatever was not kept
pub kept_on : (accounts : ℕ → Account) (lists : List (List Row)) (to : ℕ) (o : Option ℕ) (ts : List Taken) → AreDone accounts (get_or lists to []) → AreTakenTo accounts lists to o ts → AreTakenTo accounts lists (to + 1) o ts
kept_on accounts lists to None ts done kept = taken_on accounts lists 0 to ts done kept
kept_on accounts lists to (Some d) ts done kept = (omega (arith, kept.0), kept.1)

-- one list more behind one that was not kept
kept_behind : (accounts : ℕ → Account) (lists : List (List Row)) (to : ℕ) (o : Option ℕ) (ts : List Taken) → IsSome o → AreTakenTo accounts lists to o ts → AreTakenTo accounts lists (to + 1) o ts
kept_behind accounts lists to None ts some kept = let wrong : false ≡ true = some in absurd cc
kept_behind accounts lists to (Some d) ts some kept = (omega (arith, kept.0), kept.1)

-- a merge more that is kept, where all were
kept_push : (accounts : ℕ → Account) (lists : List (List Row)) (to : ℕ) (old new : SiteLog) (rows : List Row) → Pushes old new to rows → old.dropped ≡ None → get_or lists to [] ≡ rows → AreKept accounts lists to old → AreKept accounts lists (to + 1) new
kept_push accounts lists to old new rows p none is kept =
    subst (λ (o : Option ℕ). AreTakenTo accounts lists (to + 1) o new.taken.items) (sym (p.dropped ∙ none))
    (subst (λ (ts : List Taken). AreTaken accounts lists 0 (to + 1) ts) (sym p.items)
    (taken_push accounts lists 0 to old.taken.items p.it (omega arith) p.at_is (is ∙ sym p.rows_are) (subst (λ (o : Option ℕ). AreTakenTo accounts lists to o old.taken.items) none kept)))

-- ---- which merges are kept

pub keeps_all : (old new : SiteLog) (at : ℕ) (rows : List Row) → Pushes old new at rows → Keeps way.All old new at rows
keeps_all old new at rows p = record {
  same = p.same;
  kept = λ none accounts lists guess is kept. kept_push accounts lists at old new rows p none is kept;
  fits = λ none. p.dropped ∙ none;
}

-- one was not kept before
pub within_dropped : (most : ℕ) (old : SiteLog) (at : ℕ) (rows : List Row) → IsSome old.dropped → KeepsWithin most old old at rows
within_dropped most old at rows some = record {
  same = refl;
  kept = λ accounts lists is kept. kept_behind accounts lists at old.dropped old.taken.items some kept;
  room = λ room. room;
  ahead = λ tables above all. all;
}

-- there is no room
pub within_full : (most : ℕ) (old : SiteLog) (at : ℕ) (rows : List Row) → old.dropped ≡ None → most ≤ length old.taken.items → KeepsWithin most old (record old { dropped = Some at }) at rows
within_full most old at rows none full = record {
  same = refl;
  kept = λ accounts lists is kept. (omega arith, subst (λ (o : Option ℕ). AreTakenTo accounts lists at o old.taken.items) none kept);
  room = λ room. (room.0, λ some. omega (arith, room.0, full));
  ahead = λ tables above all. all;
}

ahead_push : (tables : List (List Row)) (ts : List Taken) (t : Taken) → (¬ NoneAhead tables t.delta.rows) → AreAhead tables ts → AreAhead tables (ts ++ t ∷ [])
ahead_push tables [] t above all = (above, tt)
ahead_push tables (u ∷ ts) t above all = (all.0, ahead_push tables ts t above all.1)

-- there is
pub within_push : (most : ℕ) (old new : SiteLog) (at : ℕ) (rows : List Row) → Pushes old new at rows → old.dropped ≡ None → length old.taken.items < most → KeepsWithin most old new at rows
within_push most old new at rows p none few = record {
  same = p.same;
  kept = λ accounts lists is kept. kept_push accounts lists at old new rows p none is kept;
  room = λ room. (fits, λ some. absurd (lost new.dropped (p.dropped ∙ none) some));
  ahead = λ tables above all. subst (AreAhead tables) (sym p.items) (ahead_push tables old.taken.items p.it (subst (λ (rs : List Row). ¬ NoneAhead tables rs) (sym p.rows_are) above) all);
}
  where
    size : length new.taken.items ≡ length old.taken.items + 1
    size = ap (λ (ts : List Taken). length ts) p.items ∙ length_push old.taken.items p.it

    fits : length new.taken.items ≤ most
    fits = omega (arith, size, few)

    lost : (o : Option ℕ) → o ≡ None → IsSome o → ⊥
    lost None is some = let wrong : false ≡ true = some in absurd cc
    lost (Some d) is some = let wrong : None ≡ Some d = sym is in absurd cc

pub keeps_first : (most : ℕ) (old new : SiteLog) (at : ℕ) (rows : List Row) → KeepsWithin most old new at rows → Keeps (way.First most) old new at rows
keeps_first most old new at rows it = record {
  same = it.same;
  kept = λ fits accounts lists guess is kept. it.kept accounts lists is kept;
  fits = it.room;
}

-- a row above the tables
pub keeps_above : (tables : Vec (List Row) Global) (old new : SiteLog) (at : ℕ) (rows : List Row) → (¬ NoneAhead tables.items rows) → KeepsWithin 1 old new at rows → Keeps (way.Above tables) old new at rows
keeps_above tables old new at rows above it = record {
  same = it.same;
  kept = λ fits accounts lists guess is kept. it.kept accounts lists is kept;
  fits = λ fits. (it.room fits.0, it.ahead tables.items above fits.1);
}

-- rows that are not above tables that tell all accounts tell no more than was done
pub ahead_done : (tables : List (List Row)) (accounts : ℕ → Account) (rows : List Row) → TellAll tables accounts → NoneAhead tables rows → AreDone accounts rows
ahead_done tables accounts rows told none q there cell = at (cases_lt (own (accounts q.s) q.r cell) (counter_in (counters_of q) cell))
  where
    at : (own (accounts q.s) q.r cell < counter_in (counters_of q) cell) ⊎ (counter_in (counters_of q) cell ≤ own (accounts q.s) q.r cell) → counter_in (counters_of q) cell ≤ own (accounts q.s) q.r cell
    at (inl above) = absurd (none q there (cell, omega (arith, above, told q.s q.r cell)))
    at (inr fits) = fits

pub keeps_none : (tables : Vec (List Row) Global) (old : SiteLog) (at : ℕ) (rows : List Row) → NoneAhead tables.items rows → Keeps (way.Above tables) old old at rows
keeps_none tables old at rows none = record {
  same = refl;
  kept = λ fits accounts lists guess is kept.
      kept_on accounts lists at old.dropped old.taken.items (subst (AreDone accounts) (sym is) (ahead_done tables.items accounts rows guess none)) kept;
  fits = λ fits. fits;
}

-- ---- by the cut

-- the bound of what is kept
bound_before : (at c : ℕ) → at < c → (min at c ≡ at) × (min (at + 1) c ≡ at + 1)
bound_before at c before = (omega (arith, before), omega (arith, before))

bound_behind : (at c : ℕ) → c ≤ at → (min at c ≡ c) × (min (at + 1) c ≡ c)
bound_behind at c behind = (omega (arith, behind), omega (arith, behind))

pub bound_done : (accounts : ℕ → Account) (lists : List (List Row)) (at c : ℕ) (log : SiteLog) → AreDone accounts (get_or lists at []) → AreKept accounts lists (min at c) log → AreKept accounts lists (min (at + 1) c) log
bound_done accounts lists at c log done kept = go (cases_lt at c)
  where
    go : (at < c) ⊎ (c ≤ at) → AreKept accounts lists (min (at + 1) c) log
    go (inl before) =
        let b = bound_before at c before in
        subst (λ (n : ℕ). AreKept accounts lists n log) (sym b.1) (kept_on accounts lists at log.dropped log.taken.items done (subst (λ (n : ℕ). AreKept accounts lists n log) b.0 kept))
    go (inr behind) =
        let b = bound_behind at c behind in
        subst (λ (n : ℕ). AreKept accounts lists n log) (sym b.1) (subst (λ (n : ℕ). AreKept accounts lists n log) b.0 kept)

-- an entry behind the cut is not kept
pub takes_behind : (keeping : Keeping) (old : SiteLog) (at : ℕ) (rows : List Row) → ((all : ℕ) → at < all → length_by old.replay.cut all ≤ at) → Takes keeping old old at rows
takes_behind keeping old at rows behind = record {
  same = refl;
  kept = λ fits accounts lists all guess below is kept.
      let b = bound_behind at (length_by old.replay.cut all) (behind all below) in
      subst (λ (n : ℕ). AreKept accounts lists n old) (sym b.1) (subst (λ (n : ℕ). AreKept accounts lists n old) b.0 kept);
  fits = λ fits. fits;
}

-- one that brought nothing
pub takes_none : (keeping : Keeping) (old : SiteLog) (at : ℕ) (rows : List Row) → rows ≡ [] → Takes keeping old old at rows
takes_none keeping old at rows none = record {
  same = refl;
  kept = λ fits accounts lists all guess below is kept. bound_done accounts lists at (length_by old.replay.cut all) old (λ q there. absurd (subst (StandsIn q) (is ∙ none) there)) kept;
  fits = λ fits. fits;
}

-- a merge before it
pub takes_one : (keeping : Keeping) (old new : SiteLog) (at : ℕ) (rows merged : List Row) → Keeps keeping old new at merged → merged ≡ rows → ((all : ℕ) → at < all → at < length_by old.replay.cut all) → Takes keeping old new at rows
takes_one keeping old new at rows merged it same before = record {
  same = it.same;
  kept = λ fits accounts lists all guess below is kept.
      let b = bound_before at (length_by old.replay.cut all) (before all below) in
      subst (λ (n : ℕ). AreKept accounts lists n new) (sym b.1)
      (it.kept fits accounts lists guess (is ∙ sym same) (subst (λ (n : ℕ). AreKept accounts lists n old) b.0 kept));
  fits = it.fits;
}

-- the replay alone changed
kept_same : (accounts : ℕ → Account) (lists : List (List Row)) (n : ℕ) (old mid : SiteLog) → mid.taken ≡ old.taken → mid.dropped ≡ old.dropped → AreKept accounts lists n old → AreKept accounts lists n mid
kept_same accounts lists n old mid taken dropped kept =
    subst (λ (o : Option ℕ). AreTakenTo accounts lists n o mid.taken.items) (sym dropped) (subst (λ (x : _). AreTakenTo accounts lists n old.dropped x.items) (sym taken) kept)

fits_same : (keeping : Keeping) (old mid : SiteLog) → mid.taken ≡ old.taken → mid.dropped ≡ old.dropped → IsFitting keeping old → IsFitting keeping mid
fits_same keeping old mid taken dropped fits =
    subst (λ (o : Option ℕ). FitsKeeping keeping o mid.taken.items) (sym dropped) (subst (λ (x : _). FitsKeeping keeping old.dropped x.items) (sym taken) fits)

-- the cut, by the code's test
pub cut_before : (cut : Option ℕ) (at : ℕ) → MatchOption cut (Unit {0}) (λ n. at < n) → (all : ℕ) → at < all → at < length_by cut all
cut_before None at before all below = below
cut_before (Some n) at before all below = before

pub cut_behind : (cut : Option ℕ) (at : ℕ) → (¬ MatchOption cut (Unit {0}) (λ n. at < n)) → (all : ℕ) → at < all → length_by cut all ≤ at
cut_behind None at behind all below = absurd (behind tt)
cut_behind (Some n) at behind all below = by (cases_lt at n)
  where
    by : (at < n) ⊎ (n ≤ at) → n ≤ at
    by (inl before) = absurd (behind before)
    by (inr fits) = fits

-- before the first line nothing is kept
fresh_fits : (keeping : Keeping) (o : Option ℕ) (ts : List Taken) → o ≡ None → ts ≡ [] → FitsKeeping keeping o ts
fresh_fits keeping o ts none nil = subst (λ (x : Option ℕ). FitsKeeping keeping x ts) (sym none) (subst (FitsKeeping keeping None) (sym nil) (at keeping))
  where
    lost : (n : ℕ) → IsSome {T = ℕ} None → ◌≡◌ {A = ℕ} 0 n
    lost n some = let wrong : false ≡ true = some in absurd cc

    at : (k : Keeping) → FitsKeeping k None []
    at way.All = refl
    at (way.First most) = (omega arith, lost most)
    at (way.Above tables) = ((omega arith, lost 1), tt)

pub fresh_is : (keeping : Keeping) (layout : LayoutState) (ts : List Transcript) (lengths : List ℕ) (i : ℕ) (log : SiteLog) → IsReplaying layout i (runs_at ts i) [] (runs_at ts i) log.replay → log.replay.at ≡ 0 → log.taken.items ≡ [] → log.dropped ≡ None
    → get_or lengths i 0 ≡ length_by log.replay.cut (count_of (runs_at ts i)) → IsLog layout ts lengths i keeping [] (runs_at ts i) log
fresh_is keeping layout ts lengths i log replaying start nil none same = record {
  replaying = replaying;
  length_is = same;
  fits = fresh_fits keeping log.dropped log.taken.items none nil;
  taken = λ going guess. subst (λ (o : Option ℕ). AreTakenTo (cut_account layout ts lengths) (site_brought layout ts i) (min (settled_in log) (get_or lengths i 0)) o log.taken.items) (sym none)
      (subst (AreTaken (cut_account layout ts lengths) (site_brought layout ts i) 0 (min (settled_in log) (get_or lengths i 0))) (sym nil) (λ k more below. absurd (omega (arith, below, start))));
}

-- rows of which the first tells no more than was done
pub done_cons : (accounts : ℕ → Account) (rest later : List Row) (p : Row) → rest ≡ p ∷ later → ((cell : Cell) → counter_in (counters_of p) cell ≤ own (accounts p.s) p.r cell) → AreDone accounts later → AreDone accounts rest
done_cons accounts rest later p split few done q there = at (subst (StandsIn q) split there)
  where
    at : (q ≡ p) ⊎ StandsIn q later → (cell : Cell) → counter_in (counters_of q) cell ≤ own (accounts q.s) q.r cell
    at (inl same) = subst (λ (x : Row). (cell : Cell) → counter_in (counters_of x) cell ≤ own (accounts x.s) x.r cell) (sym same) few
    at (inr h) = done q h

-- ---- one entry more

module _ (layout : LayoutState) (ts : List Transcript) (cut : List ℕ) (i : ℕ) where
  accounts_at : ℕ → Account
  accounts_at = cut_account layout ts cut

  -- what the entry brought, where the replay has no fault
  entry_brought : (e : Entry) (more : List Entry) (later : List Run) (it : SiteReplay) → IsReplaying layout i (runs_at ts i) (e ∷ more) later it → (¬ HasEnded it.stage) → (kept : Bool) × (get_or (site_brought layout ts i) it.at [] ≡ rows_brought kept e)
  entry_brought e more later it replaying going = at it.stage refl
    where
      at : (s : Stage) → it.stage ≡ s → (kept : Bool) × (get_or (site_brought layout ts i) it.at [] ≡ rows_brought kept e)
      at Fresh is = let none : e ∷ more ≡ [] = (subst (IsStage layout i (runs_at ts i) (e ∷ more) later it.at) is replaying.stage).0 in absurd (let size : length (e ∷ more) ≡ 0 = ap (λ (xs : List Entry). length xs) none in omega (arith, size))
      at (Ended fault) is = absurd (going (subst HasEnded (sym is) tt))
      at (Open core left) is =
          let r : IsInRun layout i (runs_at ts i) (e ∷ more) later core left.items it.at = subst (IsStage layout i (runs_at ts i) (e ∷ more) later it.at) is replaying.stage in
          (was_kept r.account r.run later, run_brought layout i (runs_at ts i) r.flags r.before r.n it.at r.account r.reached r.run later left.items e more r.path r.way r.number)

  -- the entry is handed back, or stays in doubt
  pub log_on : (keeping : Keeping) (e : Entry) (more : List Entry) (later : List Run) (old mid new : SiteLog) (wanted : Bool) (back : Option Entry) → IsLog layout ts cut i keeping (e ∷ more) later old
      → (wanted ≡ false → AreDone (cut_account layout ts cut) (rows_brought false e)) → (wanted ≡ true → is_accepted false e.reply ≡ true)
      → IsReplaying layout i (runs_at ts i) more later mid.replay → mid.taken ≡ old.taken → mid.dropped ≡ old.dropped → IsHandedBack e mid.replay.stage back → ((¬ HasEnded mid.replay.stage) → left_of old.replay.stage ≡ []) → (HasEnded old.replay.stage → HasEnded mid.replay.stage)
      → mid.replay.cut ≡ old.replay.cut → mid.replay.at ≡ old.replay.at + 1 → TakesBack keeping mid new old.replay.at wanted back → IsLog layout ts cut i keeping more later new
  log_on keeping e more later old mid new wanted back log done merged replaying taken dropped handed free ended cut_same at_next takes = record {
    replaying = subst (λ (r : SiteReplay). IsReplaying layout i (runs_at ts i) more later r) (sym same) replaying;
    length_is = log.length_is ∙ (ap (λ (o : Option ℕ). length_by o all) (sym cut_same) ∙ ap (λ (r : SiteReplay). length_by r.cut all) (sym same));
    fits = back_fits wanted back takes;
    taken = λ going guess. kept_at (λ over. going (subst (λ (r : SiteReplay). HasEnded r.stage) (sym same) over)) guess;
  }
    where
      all : ℕ
      all = count_of (runs_at ts i)

      c : ℕ
      c = get_or cut i 0

      lists : List (List Row)
      lists = site_brought layout ts i

      A : ℕ → Account
      A = cut_account layout ts cut

      back_same : (w : Bool) (b : Option Entry) → TakesBack keeping mid new old.replay.at w b → new.replay ≡ mid.replay
      back_same true (Some x) t = t.same
      back_same true None t = ap (λ (l : SiteLog). l.replay) t
      back_same false b t = ap (λ (l : SiteLog). l.replay) t

      same : new.replay ≡ mid.replay
      same = back_same wanted back takes

      mid_fits : IsFitting keeping mid
      mid_fits = fits_same keeping old mid taken dropped log.fits

      back_fits : (w : Bool) (b : Option Entry) → TakesBack keeping mid new old.replay.at w b → IsFitting keeping new
      back_fits true (Some x) t = t.fits mid_fits
      back_fits true None t = subst (IsFitting keeping) (sym t) mid_fits
      back_fits false b t = subst (IsFitting keeping) (sym t) mid_fits

      c_is : length_by mid.replay.cut all ≡ c
      c_is = ap (λ (o : Option ℕ). length_by o all) cut_same ∙ sym log.length_is

      below : old.replay.at < all
      below = omega (arith, replaying.entries, at_next)

      settled_new : settled_in new ≡ settled_in mid
      settled_new = ap (λ (r : SiteReplay). r.at - length (left_of r.stage)) same

      -- all up to the entry
      before : (¬ HasEnded mid.replay.stage) → IsGuess keeping A → AreKept A lists (min old.replay.at c) mid
      before going guess =
          let none : length (left_of old.replay.stage) ≡ 0 = ap (λ (xs : List Entry). length xs) (free going) in
          let bound : settled_in old ≡ old.replay.at = omega (arith, none) in
          subst (λ (n : ℕ). AreKept A lists (min n c) mid) bound
          (kept_same A lists (min (settled_in old) c) old mid taken dropped (log.taken (λ over. going (ended over)) guess))

      further : (¬ HasEnded mid.replay.stage) → IsGuess keeping A → (w : Bool) → wanted ≡ w → (x : Entry) → x ≡ e → is_fault e.reply ≡ false → TakesBack keeping mid new old.replay.at w (Some x) → AreKept A lists (min (old.replay.at + 1) c) new
      further going guess true is x same_entry plain t =
          let b = entry_brought e more later old.replay log.replaying (λ over. going (ended over)) in
          let rows : get_or lists old.replay.at [] ≡ merge_rows x.call = b.1 ∙ (plain_reply b.0 e plain ∙ (merge_kept e (merged is) ∙ ap (λ (y : Entry). merge_rows y.call) (sym same_entry))) in
          subst (λ (n : ℕ). AreKept A lists (min (old.replay.at + 1) n) new) c_is
          (t.kept mid_fits A lists all guess below rows (subst (λ (n : ℕ). AreKept A lists (min old.replay.at n) mid) (sym c_is) (before going guess)))
      further going guess false is x same_entry plain t =
          let b = entry_brought e more later old.replay log.replaying (λ over. going (ended over)) in
          let rows : get_or lists old.replay.at [] ≡ rows_brought false e = b.1 ∙ plain_reply b.0 e plain in
          subst (AreKept A lists (min (old.replay.at + 1) c)) (sym t)
          (bound_done A lists old.replay.at c mid (subst (AreDone A) (sym rows) (done is)) (before going guess))

      unchanged : (w : Bool) → TakesBack keeping mid new old.replay.at w None → new ≡ mid
      unchanged true t = t
      unchanged false t = t

      kept_at : (¬ HasEnded mid.replay.stage) → IsGuess keeping A → AreKept A lists (min (settled_in new) c) new
      kept_at going guess = subst (λ (n : ℕ). AreKept A lists (min n c) new) (sym settled_new) (go mid.replay.stage refl back refl)
        where
          go : (s : Stage) → mid.replay.stage ≡ s → (b : Option Entry) → back ≡ b → AreKept A lists (min (settled_in mid) c) new
          go Fresh is b is_back = let none = (subst (IsStage layout i (runs_at ts i) more later mid.replay.at) is replaying.stage).1.1 in absurd (omega (arith, none, at_next))
          go (Ended fault) is b is_back = absurd (going (subst HasEnded (sym is) tt))
          go (Open core left) is (Some x) is_back =
              let h : IsHandedBack e (Open core left) (Some x) = subst (λ (o : Option Entry). IsHandedBack e (Open core left) o) is_back (subst (λ (s : Stage). IsHandedBack e s back) is handed) in
              let none : length (left_of mid.replay.stage) ≡ 0 = ap (λ (s : Stage). length (left_of s)) is ∙ ap (λ (xs : List Entry). length xs) h.1.0 in
              let bound : settled_in mid ≡ old.replay.at + 1 = omega (arith, none, at_next) in
              subst (λ (n : ℕ). AreKept A lists (min n c) new) (sym bound)
              (further going guess wanted refl x h.0 h.1.1 (subst (TakesBack keeping mid new old.replay.at wanted) is_back takes))
          go (Open core left) is None is_back =
              let h : IsHandedBack e (Open core left) None = subst (λ (o : Option Entry). IsHandedBack e (Open core left) o) is_back (subst (λ (s : Stage). IsHandedBack e s back) is handed) in
              let one : length (left_of mid.replay.stage) ≡ 1 = ap (λ (s : Stage). length (left_of s)) is ∙ ap (λ (xs : List Entry). length xs) h in
              let bound : settled_in mid ≡ old.replay.at = omega (arith, one, at_next) in
              subst (λ (n : ℕ). AreKept A lists (min n c) new) (sym bound)
              (subst (AreKept A lists (min old.replay.at c)) (sym (unchanged wanted (subst (TakesBack keeping mid new old.replay.at wanted) is_back takes))) (before going guess))

  -- An entry that is answered by the core's own snapshot brought no rows.
  pub log_shown : (keeping : Keeping) (e : Entry) (more : List Entry) (later : List Run) (old new : SiteLog) (core : Core) → IsLog layout ts cut i keeping (e ∷ more) later old → IsClear core old.replay.stage → IsShownBy core e
      → IsReplaying layout i (runs_at ts i) more later new.replay → new.taken ≡ old.taken → new.dropped ≡ old.dropped → new.replay.stage ≡ old.replay.stage
      → new.replay.cut ≡ old.replay.cut → new.replay.at ≡ old.replay.at + 1 → IsLog layout ts cut i keeping more later new
  log_shown keeping e more later old new core log clear shown replaying taken dropped stage cut_same at_next =
      log_on keeping e more later old new new false (Some e) log (λ off. none_done (cut_account layout ts cut) (site_brought layout ts i) (rows_brought false e) none) (λ wrong. absurd (false≢true wrong)) replaying taken dropped handed
      (λ going. clear_left core old.replay.stage clear) (λ over. subst HasEnded (sym stage) over) cut_same at_next refl
    where
      either : (accepted : Bool) → cond accepted (merge_rows Snapshot) [] ≡ []
      either true = refl
      either false = refl

      none : rows_brought false e ≡ []
      none = ap (λ (call : Call). cond (is_accepted false e.reply) (merge_rows call) []) shown.0 ∙ either (is_accepted false e.reply)

      handed : IsHandedBack e new.replay.stage (Some e)
      handed = subst (λ (s : Stage). IsHandedBack e s (Some e)) (sym stage) (shown_on layout i (runs_at ts i) e more later old.replay.at core old.replay.stage log.replaying.stage clear shown).1

  -- ---- a run begins

  left_cases : (more : List Entry) (later : List Run) (at : ℕ) (s : Stage) → IsStage layout i (runs_at ts i) more later at s → (left_of s ≡ []) ⊎ ((d : Entry) × (left_of s ≡ d ∷ []))
  left_cases more later at Fresh is = inl refl
  left_cases more later at (Ended fault) is = inl refl
  left_cases more later at (Open core left) r = go left.items r.ends
    where
      go : (xs : List Entry) → IsEnd r.reached xs → (xs ≡ []) ⊎ ((d : Entry) × (xs ≡ d ∷ []))
      go [] end = inl refl
      go (d ∷ ds) end = inr (d, ap (λ (ys : List Entry). d ∷ ys) end.1)

  pub log_begun : (keeping : Keeping) (next : Run) (later : List Run) (old mid new : SiteLog) (kept : List Entry) → IsLog layout ts cut i keeping [] (next ∷ later) old → IsReplaying layout i (runs_at ts i) next.entries later mid.replay → mid.taken ≡ old.taken → mid.dropped ≡ old.dropped
      → left_of mid.replay.stage ≡ [] → (left_of old.replay.stage ≡ [] → kept ≡ []) → ((d : Entry) → left_of old.replay.stage ≡ d ∷ [] → (¬ HasEnded mid.replay.stage) → IsSettled layout i (runs_at ts i) (next ∷ later) old.replay.at d kept)
      → (HasEnded old.replay.stage → HasEnded mid.replay.stage) → mid.replay.cut ≡ old.replay.cut → mid.replay.at ≡ old.replay.at → TakesKept keeping mid new old.replay.at kept → IsLog layout ts cut i keeping next.entries later new
  log_begun keeping next later old mid new kept log replaying taken dropped none idle settles ended cut_same at_same takes = record {
    replaying = subst (λ (r : SiteReplay). IsReplaying layout i (runs_at ts i) next.entries later r) (sym same) replaying;
    length_is = log.length_is ∙ (ap (λ (o : Option ℕ). length_by o all) (sym cut_same) ∙ ap (λ (r : SiteReplay). length_by r.cut all) (sym same));
    fits = kept_fits kept takes;
    taken = λ going guess. kept_at (λ over. going (subst (λ (r : SiteReplay). HasEnded r.stage) (sym same) over)) guess;
  }
    where
      all : ℕ
      all = count_of (runs_at ts i)

      c : ℕ
      c = get_or cut i 0

      lists : List (List Row)
      lists = site_brought layout ts i

      A : ℕ → Account
      A = cut_account layout ts cut

      replay_same : (xs : List Entry) → TakesKept keeping mid new old.replay.at xs → new.replay ≡ mid.replay
      replay_same [] t = ap (λ (l : SiteLog). l.replay) t
      replay_same (x ∷ []) t = t.same
      replay_same (x ∷ (y ∷ ys)) t = t.0

      same : new.replay ≡ mid.replay
      same = replay_same kept takes

      mid_fits : IsFitting keeping mid
      mid_fits = fits_same keeping old mid taken dropped log.fits

      kept_fits : (xs : List Entry) → TakesKept keeping mid new old.replay.at xs → IsFitting keeping new
      kept_fits [] t = subst (IsFitting keeping) (sym t) mid_fits
      kept_fits (x ∷ []) t = t.fits mid_fits
      kept_fits (x ∷ (y ∷ ys)) t = t.1 mid_fits

      c_is : length_by mid.replay.cut all ≡ c
      c_is = ap (λ (o : Option ℕ). length_by o all) cut_same ∙ sym log.length_is

      settled_new : settled_in new ≡ old.replay.at
      settled_new =
          let size : length (left_of mid.replay.stage) ≡ 0 = ap (λ (xs : List Entry). length xs) none in
          let there : settled_in new ≡ settled_in mid = ap (λ (r : SiteReplay). r.at - length (left_of r.stage)) same in
          omega (arith, there, size, at_same)

      old_kept : (¬ HasEnded mid.replay.stage) → IsGuess keeping A → AreKept A lists (min (settled_in old) c) mid
      old_kept going guess = kept_same A lists (min (settled_in old) c) old mid taken dropped (log.taken (λ over. going (ended over)) guess)

      kept_at : (¬ HasEnded mid.replay.stage) → IsGuess keeping A → AreKept A lists (min (settled_in new) c) new
      kept_at going guess = subst (λ (n : ℕ). AreKept A lists (min n c) new) (sym settled_new) (go (left_cases [] (next ∷ later) old.replay.at old.replay.stage log.replaying.stage))
        where
          nothing_kept : (xs : List Entry) → xs ≡ [] → TakesKept keeping mid new old.replay.at xs → new ≡ mid
          nothing_kept [] is t = t
          nothing_kept (x ∷ xs) is t = absurd (let size : length (x ∷ xs) ≡ 0 = ap (λ (ys : List Entry). length ys) is in omega (arith, size))

          doubt : (d : Entry) → left_of old.replay.stage ≡ d ∷ [] → (s : IsSettled layout i (runs_at ts i) (next ∷ later) old.replay.at d kept) → (flag : Bool) → was_kept s.account s.run (next ∷ later) ≡ flag → AreKept A lists (min old.replay.at c) new
          doubt d is s flag is_flag =
              let size : length (left_of old.replay.stage) ≡ 1 = ap (λ (xs : List Entry). length xs) is in
              let last : old.replay.at - 1 ≡ (s.before + s.n) + 0 = omega (arith, s.number) in
              let back_on : (old.replay.at - 1) + 1 ≡ old.replay.at = omega (arith, s.number) in
              let bound : settled_in old ≡ old.replay.at - 1 = omega (arith, size) in
              let brought_here = run_brought layout i (runs_at ts i) s.flags s.before s.n (old.replay.at - 1) s.account s.reached s.run (next ∷ later) [] d [] s.path s.way last in
              let kept_so = subst (λ (n : ℕ). AreKept A lists (min n c) mid) bound (old_kept going guess) in
              let below : old.replay.at - 1 < all = omega (arith, replaying.entries, at_same, s.number) in
              subst (λ (n : ℕ). AreKept A lists (min n c) new) back_on (by flag is_flag brought_here kept_so below)
            where
              by : (f : Bool) → was_kept s.account s.run (next ∷ later) ≡ f → get_or lists (old.replay.at - 1) [] ≡ rows_brought (was_kept s.account s.run (next ∷ later)) d → AreKept A lists (min (old.replay.at - 1) c) mid → old.replay.at - 1 < all → AreKept A lists (min ((old.replay.at - 1) + 1) c) new
              by true f_is rows so below =
                  let one : kept ≡ d ∷ [] = s.is_kept ∙ ap (λ (b : Bool). cond b (d ∷ []) []) f_is in
                  let t : Takes keeping mid new (old.replay.at - 1) (merge_rows d.call) = subst (TakesKept keeping mid new old.replay.at) one takes in
                  let here = rows ∙ (ap (λ (b : Bool). rows_brought b d) f_is ∙ doubt_kept d s.fault) in
                  subst (λ (n : ℕ). AreKept A lists (min ((old.replay.at - 1) + 1) n) new) c_is
                  (t.kept mid_fits A lists all guess below here (subst (λ (n : ℕ). AreKept A lists (min (old.replay.at - 1) n) mid) (sym c_is) so))
              by false f_is rows so below =
                  let nil : kept ≡ [] = s.is_kept ∙ ap (λ (b : Bool). cond b (d ∷ []) []) f_is in
                  let here = rows ∙ (ap (λ (b : Bool). rows_brought b d) f_is ∙ doubt_lost d s.fault) in
                  subst (AreKept A lists (min ((old.replay.at - 1) + 1) c)) (sym (nothing_kept kept nil takes))
                  (bound_done A lists (old.replay.at - 1) c mid (none_done A lists (get_or lists (old.replay.at - 1) []) here) so)

          go : (left_of old.replay.stage ≡ []) ⊎ ((d : Entry) × (left_of old.replay.stage ≡ d ∷ [])) → AreKept A lists (min old.replay.at c) new
          go (inl nil) =
              let size : length (left_of old.replay.stage) ≡ 0 = ap (λ (xs : List Entry). length xs) nil in
              let bound : settled_in old ≡ old.replay.at = omega (arith, size) in
              subst (AreKept A lists (min old.replay.at c)) (sym (nothing_kept kept (idle nil) takes))
              (subst (λ (n : ℕ). AreKept A lists (min n c) mid) bound (old_kept going guess))
          go (inr (d, is)) = let s = settles d is going in doubt d is s (was_kept s.account s.run (next ∷ later)) refl
