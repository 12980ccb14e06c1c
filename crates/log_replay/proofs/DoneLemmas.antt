-- A site goes on: what it has done once it has done for good.
use Rattle.std.proofs.Common.{◌≡◌, ℕ, zero, suc, ◌+◌, ◌-◌, ◌<◌, ◌≤◌, ltb, List, [], ◌∷◌, ◌++◌, length, take, None, Some, sym, ap, subst, ◌∙◌, arith}
use Rattle.std.specs.Prelude.{slice_index_or}
use Rattle.std.proofs.lemmas.Bool.{cond_both}
use Rattle.merge_core.specs.declared.cell.Cell.{Cell}
use Rattle.merge_core.specs.declared.delta.Row.{Row}
use Rattle.merge_core.specs.Layout.{LayoutState}
use Rattle.merge_core.specs.Book.{BookState, counter_of}
use Rattle.merge_core.specs.Rows.{RowCounters, counter_in, counters_of}
use Rattle.admission_model.specs.declared.ask.Call.{Call}
use Rattle.admission_model.specs.declared.ask.Call.TheVariants.{Ask as AskCall, Merge, Snapshot as SnapshotCall}
use Rattle.admission_model.specs.Account.{Account, own}
use Rattle.admission_model.specs.Knowledge.{hears}
use Rattle.admission_model.specs.View.{view_of}
use Rattle.admission_model.specs.Replies.{ask_lines, merge_lines}
use Rattle.admission_model.specs.Serving.{after, advanced, unless_refused}
use Rattle.admission_model.proofs.ServingLemmas.{first_both}
use Rattle.admission_model.proofs.CounterLemmas.{known_own}
use Rattle.admission_core.specs.Core.{Core, Stands}
use Rattle.desk_log.specs.declared.entry.Entry.{Entry}
use Rattle.desk_log.specs.declared.transcript.Run.{Run}
use Rattle.desk_log.specs.Log.{is_fault, after_entry, account_after, account_tried}
use Rattle.desk_log.proofs.LogLemmas.{after_answered}
use Rattle.log_replay.specs.Legal.{started, was_kept, answered_in, tried_in, after_run, start_account, account_at}
use Rattle.log_replay.specs.Replay.{IsWay}
use Rattle.log_replay.specs.declared.stream.SiteReplay.{SiteReplay}
use Rattle.log_replay.specs.Stream.{HasEnded, IsInRun, IsMarkedAt, IsReplaying, IsStage, count_of, length_by}
use Rattle.log_replay.proofs.StreamLemmas.{path_account, cut_ahead, cut_behind}

-- the own counters of a core's book
pub stands_own : (a : Account) (c : Core) → Stands a c → (r : ℕ) (cell : Cell) → counter_of c.book r c.site cell ≡ own a r cell
stands_own a c stands r cell =
    ap (λ (s : ℕ). counter_of c.book r s cell) stands.shows.site ∙ (stands.shows.counters r a.origin.site cell ∙ known_own a r cell)

pub done_by : (a : Account) (c : Core) (book : BookState) (s r : ℕ) (p : RowCounters) → Stands a c → book ≡ c.book → s ≡ c.site → ((cell : Cell) → counter_in p cell ≤ counter_of book r s cell) → (cell : Cell) → counter_in p cell ≤ own a r cell
done_by a c book s r p stands is site few cell =
    let here : counter_of book r s cell ≡ own a r cell = ap (λ (b : BookState). counter_of b r s cell) is ∙ (ap (λ (n : ℕ). counter_of c.book r n cell) site ∙ stands_own a c stands r cell) in
    omega (arith, few cell, here)

-- ---- what a site has done only grows

module _ (r : ℕ) (cell : Cell) where
  own_call : (a : Account) (call : Call) → own a r cell ≤ own (after a call) r cell
  own_call a (AskCall ask) =
      first_both (λ o. own a r cell ≤ own (unless_refused o a (advanced a (AskCall ask))) r cell) (ask_lines (view_of a) ask) (λ x. omega arith) (λ clear. omega arith)
  own_call a (Merge delta) =
      first_both (λ o. own a r cell ≤ own (unless_refused o a (hears a delta.rows)) r cell) (merge_lines (view_of a) delta) (λ x. omega arith) (λ clear. omega arith)
  own_call a SnapshotCall = omega arith

  own_entry : (a : Account) (e : Entry) → own a r cell ≤ own (after_entry a e) r cell
  own_entry a e = cond_both (is_fault e.reply) a (after a e.call) (λ (x : Account). own a r cell ≤ own x r cell) (λ is. omega arith) (λ is. own_call a e.call)

  own_entries : (a : Account) (es : List Entry) → own a r cell ≤ own (account_after a es) r cell
  own_entries a [] = omega arith
  own_entries a (e ∷ es) = omega (arith, own_entry a e, own_entries (after_entry a e) es)

  own_tried : (a : Account) (es : List Entry) → own a r cell ≤ own (account_tried a es) r cell
  own_tried a [] = omega arith
  own_tried a (e ∷ es) = omega (arith, own_call a e.call, own_tried (after a e.call) es)

  own_run : (a : Account) (run : Run) (later : List Run) → own a r cell ≤ own (after_run a run later) r cell
  unfolding after_run
  own_run a run later =
      cond_both (was_kept a run later) (tried_in a run) (answered_in a run) (λ (x : Account). own a r cell ≤ own x r cell)
      (λ is. own_tried (started a run) run.entries) (λ is. own_entries (started a run) run.entries)

  own_runs : (a : Account) (n : ℕ) (runs : List Run) → own a r cell ≤ own (account_at a n runs) r cell
  own_runs a n [] = omega arith
  own_runs a n (run ∷ later) =
      cond_both (ltb n (length run.entries)) (account_after (started a run) (take n run.entries)) (account_at (after_run a run later) (n - length run.entries) later) (λ (x : Account). own a r cell ≤ own x r cell)
      (λ is. own_entries (started a run) (take n run.entries))
      (λ is. omega (arith, own_run a run later, own_runs (after_run a run later) (n - length run.entries) later))

  -- from the account that entries lead to
  way_grows : (a : Account) (es : List Entry) (n : ℕ) (b : Account) (rest : List Entry) (k : ℕ) → n ≤ k → IsWay a es n b rest → own b r cell ≤ own (account_after a (take k es)) r cell
  way_grows a es zero b rest k more way = subst (λ (x : Account). own x r cell ≤ own (account_after a (take k es)) r cell) (sym way.0) (own_entries a (take k es))
  way_grows a [] (suc n) b rest k more way = absurd way
  way_grows a (e ∷ es) (suc n) b rest zero more way = absurd (omega (arith, more))
  way_grows a (e ∷ es) (suc n) b rest (suc k) more way =
      subst (λ (x : Account). own b r cell ≤ own (account_after x (take k es)) r cell) (sym (after_answered a e way.0)) (way_grows (after a e.call) es n b rest k (omega (arith, more)) way.1)

  all_grows : (a : Account) (es : List Entry) (n : ℕ) (b : Account) (rest : List Entry) → IsWay a es n b rest → own b r cell ≤ own (account_after a es) r cell
  all_grows a es zero b rest way = subst (λ (x : Account). own x r cell ≤ own (account_after a es) r cell) (sym way.0) (own_entries a es)
  all_grows a [] (suc n) b rest way = absurd way
  all_grows a (e ∷ es) (suc n) b rest way =
      subst (λ (x : Account). own b r cell ≤ own (account_after x es) r cell) (sym (after_answered a e way.0)) (all_grows (after a e.call) es n b rest way.1)

  tried_grows : (a : Account) (es : List Entry) (n : ℕ) (b : Account) (rest : List Entry) → IsWay a es n b rest → own b r cell ≤ own (account_tried a es) r cell
  tried_grows a es zero b rest way = subst (λ (x : Account). own x r cell ≤ own (account_tried a es) r cell) (sym way.0) (own_tried a es)
  tried_grows a [] (suc n) b rest way = absurd way
  tried_grows a (e ∷ es) (suc n) b rest way = tried_grows (after a e.call) es n b rest way.1

  run_grows : (a : Account) (run : Run) (later : List Run) (n : ℕ) (b : Account) (rest : List Entry) → IsWay (started a run) run.entries n b rest → own b r cell ≤ own (after_run a run later) r cell
  unfolding after_run
  run_grows a run later n b rest way =
      cond_both (was_kept a run later) (tried_in a run) (answered_in a run) (λ (x : Account). own b r cell ≤ own x r cell)
      (λ is. tried_grows (started a run) run.entries n b rest way) (λ is. all_grows (started a run) run.entries n b rest way)

  -- to the account at a cut behind it
  cut_grows : (a : Account) (run : Run) (later : List Run) (n k : ℕ) (b : Account) (rest : List Entry) → n ≤ k → IsWay (started a run) run.entries n b rest → own b r cell ≤ own (account_at a k (run ∷ later)) r cell
  cut_grows a run later n k b rest more way =
      cond_both (ltb k (length run.entries)) (account_after (started a run) (take k run.entries)) (account_at (after_run a run later) (k - length run.entries) later) (λ (x : Account). own b r cell ≤ own x r cell)
      (λ is. way_grows (started a run) run.entries n b rest k more way)
      (λ is. omega (arith, run_grows a run later n b rest way, own_runs (after_run a run later) (k - length run.entries) later))

  pub here_grows : (layout : LayoutState) (i : ℕ) (runs : List Run) (more : List Entry) (later : List Run) (core : Core) (left : List Entry) (at cut : ℕ) → (it : IsInRun layout i runs more later core left at) → at ≤ cut
      → own it.reached r cell ≤ own (account_at (start_account layout i runs) cut runs) r cell
  here_grows layout i runs more later core left at cut it before =
      let sum : cut ≡ it.before + (cut - it.before) = omega (arith, before, it.number) in
      subst (λ (x : Account). own it.reached r cell ≤ own x r cell) (sym (path_account layout i (start_account layout i runs) runs it.flags it.before it.account (it.run ∷ later) (cut - it.before) cut sum it.path))
      (cut_grows it.account it.run later it.n (cut - it.before) it.reached (left ++ more) (omega (arith, before, it.number)) it.way)

-- what a row tells was done at the cut
pub done_ahead : (layout : LayoutState) (i : ℕ) (runs : List Run) (more : List Entry) (later : List Run) (it : SiteReplay) (core : Core) (left : List Entry) (r : ℕ) (p : RowCounters) → IsReplaying layout i runs more later it
    → (¬ HasEnded it.stage) → (IsStage layout i runs more later it.at it.stage → IsInRun layout i runs more later core left it.at) → it.own ≡ None → ((a : Account) → Stands a core → (cell : Cell) → counter_in p cell ≤ own a r cell)
    → (cell : Cell) → counter_in p cell ≤ own (account_at (start_account layout i runs) (length_by it.cut (count_of runs)) runs) r cell
done_ahead layout i runs more later it core left r p replaying going opens none few cell =
    let run = opens replaying.stage in
    let ahead : it.at ≤ length_by it.cut (count_of runs) = cut_ahead layout i runs it.cut it.at (count_of runs) (subst (IsMarkedAt layout i runs it.cut it.at) none (replaying.mark going)) (omega (arith, replaying.entries)) in
    omega (arith, few run.reached run.stands cell, here_grows r cell layout i runs more later core left it.at (length_by it.cut (count_of runs)) run ahead)

pub done_behind : (layout : LayoutState) (i : ℕ) (runs : List Run) (more : List Entry) (later : List Run) (it : SiteReplay) (rows : List Row) (row : Row) → IsReplaying layout i runs more later it
    → (¬ HasEnded it.stage) → it.own ≡ Some rows → row.r < length rows → ((none : Row) (cell : Cell) → counter_in (counters_of row) cell ≤ counter_in (counters_of (slice_index_or rows row.r none)) cell)
    → (cell : Cell) → counter_in (counters_of row) cell ≤ own (account_at (start_account layout i runs) (length_by it.cut (count_of runs)) runs) row.r cell
done_behind layout i runs more later it rows row replaying going some there few cell =
    let tells = cut_behind layout i runs it.cut it.at (count_of runs) rows (subst (IsMarkedAt layout i runs it.cut it.at) some (replaying.mark going)) in
    let below : row.r < length layout.records = omega (arith, there, tells.number) in
    omega (arith, few row cell, tells.tells row.r below row cell)
