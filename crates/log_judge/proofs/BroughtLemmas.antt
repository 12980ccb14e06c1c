-- What an entry of a log brought.
use Rattle.std.proofs.Common.{◌≡◌, ℕ, zero, suc, ◌+◌, ◌-◌, ◌≤◌, Bool, true, false, cond, List, [], ◌∷◌, ◌++◌, length, map, drop, get_or, refl, sym, ap, ◌∙◌, arith}
use Rattle.std.specs.Prelude.{◌||◌, ◌&&◌}
use Rattle.std.proofs.lemmas.Bool.{cond-true, cond-false}
use Rattle.std.proofs.lemmas.List.{get_or_append_left, get_or-append-add, length-map}
use Rattle.merge_core.specs.declared.delta.Row.{Row}
use Rattle.merge_core.specs.Layout.{LayoutState}
use Rattle.admission_model.specs.declared.ask.Call.TheVariants.{Snapshot}
use Rattle.admission_model.specs.declared.reply.Reply.{Reply}
use Rattle.admission_model.specs.declared.reply.Reply.TheVariants as reply
use Rattle.admission_model.specs.Account.{Account}
use Rattle.desk_log.specs.declared.entry.Entry.{Entry}
use Rattle.desk_log.specs.declared.transcript.Run.{Run}
use Rattle.desk_log.specs.Log.{is_fault}
use Rattle.log_replay.specs.Legal.{started, was_kept, after_run, start_account}
use Rattle.log_replay.specs.Replay.{IsPath, IsWay}
use Rattle.log_replay.proofs.WayLemmas.{way_drop, way_length}
use Rattle.log_judge.specs.Cut.{brought, is_accepted, is_merged, merge_rows, rows_brought}

pub path_brought : (layout : LayoutState) (i : ℕ) (a : Account) (runs : List Run) (flags : List Bool) (at : ℕ) (b : Account) (rest : List Run) (m k : ℕ) → k ≡ at + m → IsPath layout i a runs flags at b rest → get_or (brought a runs) k [] ≡ get_or (brought b rest) m []
path_brought layout i a runs [] at b rest m k sum path =
    let none : at ≡ 0 = path.0 in
    let same : k ≡ m = omega (arith, none, sum) in
    ap (λ (n : ℕ). get_or (brought a runs) n []) same ∙ (ap (λ (x : Account). get_or (brought x runs) m []) (sym path.1) ∙ ap (λ (rs : List Run). get_or (brought b rs) m []) (sym path.2))
path_brought layout i a [] (f ∷ fs) at b rest m k sum path = absurd path
path_brought layout i a (r ∷ rs) (f ∷ fs) at b rest m k sum path =
    let n = path.1.1.1.0 in
    let parts : at ≡ length r.entries + n = path.1.1.1.1.0 in
    let rows = map (rows_brought (was_kept a r rs)) r.entries in
    let size : length rows ≡ length r.entries = length-map r.entries (rows_brought (was_kept a r rs)) in
    let place : k ≡ length rows + (n + m) = omega (arith, sum, parts, size) in
    ap (λ (x : ℕ). get_or (brought a (r ∷ rs)) x []) place
    ∙ (get_or-append-add rows (brought (after_run a r rs) rs) (n + m) []
    ∙ path_brought layout i (after_run a r rs) rs fs n b rest m (n + m) refl path.1.1.1.1.1)

some_there : (xs : List Entry) (e : Entry) (more : List Entry) → xs ++ e ∷ more ≡ [] → ⊥
some_there xs e more none = longer xs (ap (λ (ys : List Entry). length ys) none)
  where
    longer : (ys : List Entry) → length (ys ++ e ∷ more) ≡ 0 → ⊥
    longer [] size = omega (arith, size)
    longer (y ∷ ys) size = omega (arith, size)

-- the entry at a place of a run
drop_at : (f : Entry → List Row) (n k : ℕ) (es more : List Entry) (e : Entry) (front : List Entry) → front ++ e ∷ more ≡ drop n es → k ≡ n + length front → get_or (map f es) k [] ≡ f e
drop_at f zero k es more e [] split sum =
    let at : k ≡ 0 = sum in
    ap (λ (n : ℕ). get_or (map f es) n []) at ∙ ap (λ (xs : List Entry). get_or (map f xs) 0 []) (sym split)
drop_at f zero k [] more e (d ∷ front) split sum = absurd (some_there (d ∷ front) e more split)
drop_at f zero k (x ∷ es) more e (d ∷ front) split sum =
    let below : k ≡ suc (k - 1) = omega (arith, sum) in
    ap (λ (n : ℕ). get_or (map f (x ∷ es)) n []) below ∙ drop_at f zero (k - 1) es more e front (ap (λ (xs : List Entry). drop 1 xs) split) (omega (arith, sum))
drop_at f (suc n) k [] more e front split sum = absurd (longer front (ap (λ (xs : List Entry). length xs) split))
  where
    longer : (xs : List Entry) → length (xs ++ e ∷ more) ≡ 0 → ⊥
    longer [] size = omega (arith, size)
    longer (x ∷ xs) size = omega (arith, size)
drop_at f (suc n) k (x ∷ es) more e front split sum =
    let below : k ≡ suc (k - 1) = omega (arith, sum) in
    ap (λ (m : ℕ). get_or (map f (x ∷ es)) m []) below ∙ drop_at f n (k - 1) es more e front split (omega (arith, sum))

pub run_brought : (layout : LayoutState) (i : ℕ) (runs : List Run) (flags : List Bool) (before n at : ℕ) (a b : Account) (run : Run) (later : List Run) (front : List Entry) (e : Entry) (more : List Entry) → IsPath layout i (start_account layout i runs) runs flags before a (run ∷ later)
    → IsWay (started a run) run.entries n b (front ++ e ∷ more) → at ≡ (before + n) + length front → get_or (brought (start_account layout i runs) runs) at [] ≡ rows_brought (was_kept a run later) e
run_brought layout i runs flags before n at a b run later front e more path way number =
    let f = rows_brought (was_kept a run later) in
    let rows = map f run.entries in
    let size : length rows ≡ length run.entries = length-map run.entries f in
    let whole = way_length (started a run) run.entries n b (front ++ e ∷ more) way in
    let some = longer front in
    path_brought layout i (start_account layout i runs) runs flags before a (run ∷ later) (n + length front) at (omega (arith, number)) path
    ∙ (get_or_append_left rows (brought (after_run a run later) later) [] (n + length front) (omega (arith, size, whole, some))
    ∙ drop_at f n (n + length front) run.entries more e front (way_drop (started a run) run.entries n b (front ++ e ∷ more) way) refl)
  where
    longer : (xs : List Entry) → length xs + 1 ≤ length (xs ++ e ∷ more)
    longer [] = omega arith
    longer (x ∷ xs) = omega (arith, longer xs)

-- an entry that is not the store's fault brought what it says, and one that is what it says if it was kept
pub plain_reply : (kept : Bool) (e : Entry) → is_fault e.reply ≡ false → rows_brought kept e ≡ rows_brought false e
plain_reply false e plain = refl
plain_reply true e plain =
    ap (λ (b : Bool). cond b (merge_rows e.call) []) (either (is_merged e.reply) (is_fault e.reply) plain)
  where
    either : (b c : Bool) → c ≡ false → (b || (true && c)) ≡ (b || (false && c))
    either true c is = refl
    either false c is = is

fault_merged : (r : Reply) → is_fault r ≡ true → is_merged r ≡ false
fault_merged r fault = at r fault
  where
    at : (x : Reply) → is_fault x ≡ true → is_merged x ≡ false
    at (reply.Merged n) is = let wrong : false ≡ true = is in absurd cc
    at reply.Admitted is = refl
    at (reply.Announced n) is = refl
    at (reply.Left p) is = refl
    at reply.Given is = refl
    at (reply.Gave t n) is = refl
    at (reply.Snapshot d) is = refl
    at (reply.Refused r) is = refl

pub doubt_kept : (e : Entry) → is_fault e.reply ≡ true → rows_brought true e ≡ merge_rows e.call
doubt_kept e fault = cond-true (is_accepted true e.reply) (merge_rows e.call) [] (either (is_merged e.reply) (is_fault e.reply) fault)
  where
    either : (b c : Bool) → c ≡ true → (b || (true && c)) ≡ true
    either true c is = refl
    either false c is = is

pub doubt_lost : (e : Entry) → is_fault e.reply ≡ true → rows_brought false e ≡ []
doubt_lost e fault = cond-false (is_accepted false e.reply) (merge_rows e.call) [] (either (is_merged e.reply) (is_fault e.reply) (fault_merged e.reply fault))
  where
    either : (b c : Bool) → b ≡ false → (b || (false && c)) ≡ false
    either true c is = is
    either false c is = refl

pub merge_kept : (e : Entry) → is_accepted false e.reply ≡ true → rows_brought false e ≡ merge_rows e.call
merge_kept e accepted = cond-true (is_accepted false e.reply) (merge_rows e.call) [] accepted

pub merge_lost : (e : Entry) → is_accepted false e.reply ≡ false → rows_brought false e ≡ []
merge_lost e other = cond-false (is_accepted false e.reply) (merge_rows e.call) [] other
