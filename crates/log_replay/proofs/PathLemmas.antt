-- Legal runs that lead from one account to another.
use Rattle.std.proofs.Common.{◌≡◌, ℕ, ◌+◌, inl, inr, Bool, List, [], ◌∷◌, ◌++◌, length, refl, subst, arith}
use Rattle.merge_core.specs.Layout.{LayoutState}
use Rattle.admission_model.specs.Account.{Account}
use Rattle.desk_log.specs.declared.transcript.Run.{Run}
use Rattle.desk_log.specs.Log.{IsLegal}
use Rattle.log_replay.specs.Legal.{started, was_kept, after_run, Begins, AreLegal, IsBadJoint, IsBadReply}
use Rattle.log_replay.specs.Replay.{IsPath, IsNoBegin, flags_of}

-- one run more
pub path_more : (layout : LayoutState) (i : ℕ) (a : Account) (runs : List Run) (flags : List Bool) (at : ℕ) (b : Account) (run : Run) (later : List Run) (flag : Bool) → IsPath layout i a runs flags at b (run ∷ later) → Begins layout i b run → IsLegal (started b run) run.entries → flag ≡ was_kept b run later → IsPath layout i a runs (flags ++ flag ∷ []) (at + length run.entries) (after_run b run later) later
path_more layout i a runs [] at b run later flag path begins legal kept =
    let none : at ≡ 0 = path.0 in
    let here : IsPath layout i b (run ∷ later) (flag ∷ []) (at + length run.entries) (after_run b run later) later = (begins, (legal, (kept, (0, (omega (arith, none), (refl, refl, refl)))))) in
    let there : IsPath layout i b runs (flag ∷ []) (at + length run.entries) (after_run b run later) later = subst (λ (rs : List Run). IsPath layout i b rs (flag ∷ []) (at + length run.entries) (after_run b run later) later) path.2 here in
    subst (λ (x : Account). IsPath layout i x runs (flag ∷ []) (at + length run.entries) (after_run b run later) later) path.1 there
path_more layout i a [] (f ∷ fs) at b run later flag path begins legal kept = absurd path
path_more layout i a (r ∷ rs) (f ∷ fs) at b run later flag path begins legal kept =
    let n = path.1.1.1.0 in
    let sum : at ≡ length r.entries + n = path.1.1.1.1.0 in
    (path.0, (path.1.0, (path.1.1.0, (n + length run.entries, (omega (arith, sum), path_more layout i (after_run a r rs) rs fs n b run later flag path.1.1.1.1.1 begins legal kept)))))

-- where no run is left, all are legal
pub path_legal : (layout : LayoutState) (i : ℕ) (a : Account) (runs : List Run) (flags : List Bool) (at : ℕ) (b : Account) → IsPath layout i a runs flags at b [] → AreLegal layout i a runs × (flags ≡ flags_of a runs)
path_legal layout i a [] [] at b path = (tt, refl)
path_legal layout i a (r ∷ rs) [] at b path = absurd (let wrong = path.2 in cc)
path_legal layout i a [] (f ∷ fs) at b path = absurd path
path_legal layout i a (r ∷ rs) (f ∷ fs) at b path =
    let rest = path_legal layout i (after_run a r rs) rs fs path.1.1.1.0 b path.1.1.1.1.1 in
    ((path.0, (path.1.0, rest.0)), λ k. path.1.1.0 k ∷ rest.1 k)

-- where the runs that are left have a fault, all have it
pub path_joint : (layout : LayoutState) (i : ℕ) (a : Account) (runs : List Run) (flags : List Bool) (at : ℕ) (b : Account) (rest : List Run) → IsPath layout i a runs flags at b rest → IsBadJoint layout i b rest → IsBadJoint layout i a runs
path_joint layout i a runs [] at b rest path bad =
    let there : IsBadJoint layout i b runs = subst (λ (rs : List Run). IsBadJoint layout i b rs) path.2 bad in
    subst (λ (x : Account). IsBadJoint layout i x runs) path.1 there
path_joint layout i a [] (f ∷ fs) at b rest path bad = absurd path
path_joint layout i a (r ∷ rs) (f ∷ fs) at b rest path bad =
    inr (path.0, (path.1.0, path_joint layout i (after_run a r rs) rs fs path.1.1.1.0 b rest path.1.1.1.1.1 bad))

pub path_reply : (layout : LayoutState) (i : ℕ) (a : Account) (runs : List Run) (flags : List Bool) (at : ℕ) (b : Account) (rest : List Run) (m k : ℕ) → k ≡ at + m → IsPath layout i a runs flags at b rest → IsBadReply layout i b rest m → IsBadReply layout i a runs k
path_reply layout i a runs [] at b rest m k sum path bad =
    let none : at ≡ 0 = path.0 in
    let same : m ≡ k = omega (arith, none, sum) in
    let there : IsBadReply layout i b runs m = subst (λ (rs : List Run). IsBadReply layout i b rs m) path.2 bad in
    let here : IsBadReply layout i a runs m = subst (λ (x : Account). IsBadReply layout i x runs m) path.1 there in
    subst (IsBadReply layout i a runs) same here
path_reply layout i a [] (f ∷ fs) at b rest m k sum path bad = absurd path
path_reply layout i a (r ∷ rs) (f ∷ fs) at b rest m k sum path bad =
    let n = path.1.1.1.0 in
    let parts : at ≡ length r.entries + n = path.1.1.1.1.0 in
    (path.0, inr (path.1.0, (n + m, (omega (arith, sum, parts), path_reply layout i (after_run a r rs) rs fs n b rest m (n + m) refl path.1.1.1.1.1 bad))))

-- the fault of the first run that is left
pub next_joint : (layout : LayoutState) (i : ℕ) (b : Account) (later : List Run) → IsNoBegin layout i b later → IsBadJoint layout i b later
next_joint layout i b [] unfit = absurd unfit
next_joint layout i b (run ∷ later) unfit = inl unfit

pub joint_behind : (layout : LayoutState) (i : ℕ) (b : Account) (run : Run) (later : List Run) → Begins layout i b run → IsLegal (started b run) run.entries → IsNoBegin layout i (after_run b run later) later → IsBadJoint layout i b (run ∷ later)
joint_behind layout i b run later begins legal unfit = inr (begins, (legal, next_joint layout i (after_run b run later) later unfit))
