-- What an account at a cut has heard are rows that merges before the cut brought.
use Rattle.std.proofs.Common.{◌≡◌, ℕ, zero, suc, ◌+◌, ◌-◌, ◌<◌, ◌≤◌, ◌⊎◌, inl, inr, Bool, true, false, ltb, List, [], ◌∷◌, length, map, take, get_or, Option, Some, None, refl, sym, ap, subst, ◌∙◌, arith}
use Rattle.std.specs.Prelude.{◌&&◌, ◌||◌}
use Rattle.std.specs.List.{AllByRecursion}
use Rattle.std.proofs.lemmas.Bool.{cond-true, cond_both, ltb-true, ltb-false}
use Rattle.std.proofs.lemmas.List.{get_or_append_left, get_or-append-add, length-map, take_all}
use Rattle.merge_core.specs.declared.cell.Cell.{Cell}
use Rattle.merge_core.specs.declared.delta.Row.{Row}
use Rattle.merge_core.specs.Layout.{LayoutState}
use Rattle.merge_core.specs.Rows.{counter_in, counters_of}
use Rattle.admission_model.specs.declared.ask.Call.{Call}
use Rattle.admission_model.specs.declared.ask.Call.TheVariants.{Ask as AskCall, Merge, Snapshot as SnapshotCall}
use Rattle.admission_model.specs.declared.reply.Refusal.{Refusal}
use Rattle.admission_model.specs.declared.reply.Reply.{Reply}
use Rattle.admission_model.specs.Account.{Account, own}
use Rattle.admission_model.specs.View.{view_of}
use Rattle.admission_model.specs.Serving.{reason, answer, replied, reply_of, advanced, unless_refused, after}
use Rattle.desk_log.specs.declared.entry.Entry.{Entry}
use Rattle.desk_log.specs.declared.transcript.Run.{Run}
use Rattle.desk_log.specs.Log.{is_fault, account_after, account_tried, IsLegal}
use Rattle.desk_log.proofs.LogLemmas.{after_answered, after_doubted}
use Rattle.multi_site_world.specs.Laws.{HeardNoMore, StandsIn}
use Rattle.log_replay.specs.Legal.{started, was_kept, answered_in, tried_in, after_run, AreLegal, account_at}
use Rattle.log_judge.specs.Cut.{is_merged, is_accepted, merge_rows, rows_brought, brought}

-- no row tells more than its site has done
abbrev pub AreDone : (ℕ → Account) → List Row → Type 0
AreDone accounts rows = AllByRecursion (λ p. (cell : Cell) → counter_in (counters_of p) cell ≤ own (accounts p.s) p.r cell) rows

-- so it is where each row is looked at
pub all_done : (accounts : ℕ → Account) (rows : List Row) → ((q : Row) → StandsIn q rows → (cell : Cell) → counter_in (counters_of q) cell ≤ own (accounts q.s) q.r cell) → AreDone accounts rows
all_done accounts [] each = tt
all_done accounts (p ∷ ps) each = (each p (inl refl), all_done accounts ps (λ q there. each q (inr there)))

-- a call is heard where it is a merge that nothing refuses
heard_unless : (accounts : ℕ → Account) (a : Account) (call : Call) (o : Option Refusal) → HeardNoMore accounts a.heard → (o ≡ None → AreDone accounts (merge_rows call)) → HeardNoMore accounts (unless_refused o a (advanced a call)).heard
heard_unless accounts a call (Some refusal) heard done = heard
heard_unless accounts a (AskCall ask) None heard done = heard
heard_unless accounts a (Merge delta) None heard done = (done refl, heard)
heard_unless accounts a SnapshotCall None heard done = heard

heard_call : (accounts : ℕ → Account) (a : Account) (call : Call) → HeardNoMore accounts a.heard → (reason (view_of a) call ≡ None → AreDone accounts (merge_rows call)) → HeardNoMore accounts (after a call).heard
heard_call accounts a call heard done = heard_unless accounts a call (reason (view_of a) call) heard done

-- a merge that was carried out brought its rows
accepted_merge : (kept : Bool) (e : Entry) → is_accepted kept e.reply ≡ true → rows_brought kept e ≡ merge_rows e.call
accepted_merge kept e accepted = cond-true (is_accepted kept e.reply) (merge_rows e.call) [] accepted

merged_brought : (kept : Bool) (reply : Reply) → is_merged reply ≡ true → is_accepted kept reply ≡ true
merged_brought kept reply merged = ap (λ (b : Bool). b || (kept && is_fault reply)) merged

-- where nothing refuses a merge, its reply tells that it was carried out
answers_merged : (a : Account) (reply : Reply) (call : Call) → reply ≡ reply_of (view_of a) call → reason (view_of a) call ≡ None → (merge_rows call ≡ []) ⊎ (is_merged reply ≡ true)
answers_merged a reply (AskCall ask) is free = inl refl
answers_merged a reply (Merge delta) is free =
    inr (ap is_merged is ∙ ap (λ (o : Option Refusal). is_merged (replied o (answer (view_of a) (Merge delta)))) free)
answers_merged a reply SnapshotCall is free = inl refl

done_answered : (accounts : ℕ → Account) (kept : Bool) (a : Account) (e : Entry) → e.reply ≡ reply_of (view_of a) e.call → AreDone accounts (rows_brought kept e) → reason (view_of a) e.call ≡ None → AreDone accounts (merge_rows e.call)
done_answered accounts kept a e is done free = at (answers_merged a e.reply e.call is free)
  where
    at : (merge_rows e.call ≡ []) ⊎ (is_merged e.reply ≡ true) → AreDone accounts (merge_rows e.call)
    at (inl none) = subst (AreDone accounts) (sym none) tt
    at (inr merged) = subst (AreDone accounts) (accepted_merge kept e (merged_brought kept e.reply merged)) done

-- the first entries of a run
heard_first : (accounts : ℕ → Account) (kept : Bool) (a : Account) (es : List Entry) (n : ℕ) → IsLegal a es → HeardNoMore accounts a.heard → ((k : ℕ) → k < n → AreDone accounts (get_or (map (rows_brought kept) es) k [])) → HeardNoMore accounts (account_after a (take n es)).heard
heard_first accounts kept a [] zero legal heard done = heard
heard_first accounts kept a (e ∷ es) zero legal heard done = heard
heard_first accounts kept a [] (suc n) legal heard done = heard
heard_first accounts kept a (e ∷ es) (suc n) (inl (is, rest)) heard done =
    let next : HeardNoMore accounts (after a e.call).heard = heard_call accounts a e.call heard (done_answered accounts kept a e is (done 0 (omega arith))) in
    subst (λ (x : Account). HeardNoMore accounts (account_after x (take n es)).heard) (sym (after_answered a e is))
    (heard_first accounts kept (after a e.call) es n rest next (λ k below. done (suc k) (omega (arith, below))))
heard_first accounts kept a (e ∷ es) (suc n) (inr (doubt, none)) heard done =
    subst (λ (x : Account). HeardNoMore accounts (account_after x (take n es)).heard) (sym (after_doubted a e doubt.fault))
    (subst (λ (xs : List Entry). HeardNoMore accounts (account_after a (take n xs)).heard) (sym none) (nothing n))
  where
    nothing : (m : ℕ) → HeardNoMore accounts (account_after a (take m [])).heard
    nothing zero = heard
    nothing (suc m) = heard

heard_answered : (accounts : ℕ → Account) (kept : Bool) (a : Account) (es : List Entry) → IsLegal a es → HeardNoMore accounts a.heard → ((k : ℕ) → k < length es → AreDone accounts (get_or (map (rows_brought kept) es) k [])) → HeardNoMore accounts (account_after a es).heard
heard_answered accounts kept a es legal heard done =
    subst (λ (xs : List Entry). HeardNoMore accounts (account_after a xs).heard) (take_all (length es) es (omega arith))
    (heard_first accounts kept a es (length es) legal heard done)

-- all entries of a run whose call in doubt was carried out
heard_tried : (accounts : ℕ → Account) (a : Account) (es : List Entry) → IsLegal a es → HeardNoMore accounts a.heard → ((k : ℕ) → k < length es → AreDone accounts (get_or (map (rows_brought true) es) k [])) → HeardNoMore accounts (account_tried a es).heard
heard_tried accounts a [] legal heard done = heard
heard_tried accounts a (e ∷ es) (inl (is, rest)) heard done =
    heard_tried accounts (after a e.call) es rest (heard_call accounts a e.call heard (done_answered accounts true a e is (done 0 (omega arith)))) (λ k below. done (suc k) (omega (arith, below)))
heard_tried accounts a (e ∷ es) (inr (doubt, none)) heard done =
    let accepted : is_accepted true e.reply ≡ true = either (is_merged e.reply) (is_fault e.reply) doubt.fault in
    let rows : AreDone accounts (merge_rows e.call) = subst (AreDone accounts) (accepted_merge true e accepted) (done 0 (omega arith)) in
    subst (λ (xs : List Entry). HeardNoMore accounts (account_tried (after a e.call) xs).heard) (sym none) (heard_call accounts a e.call heard (λ free. rows))
  where
    either : (b c : Bool) → c ≡ true → (b || (true && c)) ≡ true
    either true c is = refl
    either false c is = is

heard_run : (accounts : ℕ → Account) (a : Account) (run : Run) (later : List Run) → IsLegal (started a run) run.entries → HeardNoMore accounts a.heard → ((k : ℕ) → k < length run.entries → AreDone accounts (get_or (map (rows_brought (was_kept a run later)) run.entries) k [])) → HeardNoMore accounts (after_run a run later).heard
unfolding after_run
heard_run accounts a run later legal heard done =
    cond_both (was_kept a run later) (tried_in a run) (answered_in a run) (λ (x : Account). HeardNoMore accounts x.heard)
    (λ is. heard_tried accounts (started a run) run.entries legal heard
    (λ k below. subst (λ (kept : Bool). AreDone accounts (get_or (map (rows_brought kept) run.entries) k [])) is (done k below)))
    (λ is. heard_answered accounts (was_kept a run later) (started a run) run.entries legal heard done)

-- the account at a cut
pub heard_at : (accounts : ℕ → Account) (layout : LayoutState) (i : ℕ) (a : Account) (n : ℕ) (runs : List Run) → AreLegal layout i a runs → HeardNoMore accounts a.heard → ((k : ℕ) → k < n → AreDone accounts (get_or (brought a runs) k [])) → HeardNoMore accounts (account_at a n runs).heard
heard_at accounts layout i a n [] legal heard done = heard
heard_at accounts layout i a n (run ∷ later) legal heard done =
    cond_both (ltb n (length run.entries)) (account_after (started a run) (take n run.entries)) (account_at (after_run a run later) (n - length run.entries) later) (λ (x : Account). HeardNoMore accounts x.heard)
    (λ is. let within : n < length run.entries = ltb-true n (length run.entries) is in
    heard_first accounts (was_kept a run later) (started a run) run.entries n legal.1.0 heard (λ k below. here k (omega (arith, within, below)) below))
    (λ is. let past : length run.entries ≤ n = ltb-false n (length run.entries) is in
    heard_at accounts layout i (after_run a run later) (n - length run.entries) later legal.1.1
    (heard_run accounts a run later legal.1.0 heard (λ k below. here k below (omega (arith, past, below))))
    (λ k below. behind k (omega (arith, past, below, size))))
  where
    rows : List (List Row)
    rows = map (rows_brought (was_kept a run later)) run.entries

    size : length rows ≡ length run.entries
    size = length-map run.entries (rows_brought (was_kept a run later))

    here : (k : ℕ) → k < length run.entries → k < n → AreDone accounts (get_or rows k [])
    here k within below =
        subst (AreDone accounts) (get_or_append_left rows (brought (after_run a run later) later) [] k (omega (arith, size, within))) (done k below)

    behind : (k : ℕ) → length rows + k < n → AreDone accounts (get_or (brought (after_run a run later) later) k [])
    behind k below =
        subst (AreDone accounts) (get_or-append-add rows (brought (after_run a run later) later) k []) (done (length rows + k) below)
