-- Which replies the model gives to a call, and a desk.
use Rattle.std.proofs.Common.{◌≡◌, ℕ, ◌+◌, ◌*◌, ◌<◌, ◌≤◌, ◌⊎◌, inl, inr, Bool, true, false, ltb, List, length, zero, suc, Option, Some, None, refl, sym, subst, arith}
use Rattle.std.proofs.lemmas.Bool.{cases_Bool, cases_lt}
use Rattle.std.proofs.lemmas.List.{length-map}
use Rattle.std.proofs.Math.Nat.{suc-mul}
use Rattle.merge_core.specs.declared.cell.Cell.{Cell}
use Rattle.merge_core.specs.declared.cell.Cell.TheVariants.{Out, Taken, Ann, Fin}
use Rattle.merge_core.specs.declared.delta.Row.{Row}
use Rattle.merge_core.specs.Layout.{LayoutState, IsLayout, shape_of, record_shape}
use Rattle.merge_core.specs.Sums.{total, one_if, number_of_cells}
use Rattle.merge_core.specs.Moved.{raised_by}
use Rattle.merge_core.specs.Naming.{shown_by}
use Rattle.session_list.specs.declared.session.Phase.{Phase}
use Rattle.admission_model.specs.declared.ask.Ask.TheVariants.{Read, Announce, Quill, Leave, Give, Help}
use Rattle.admission_model.specs.declared.ask.Call.{Call}
use Rattle.admission_model.specs.declared.ask.Call.TheVariants.{Ask as AskCall, Merge, Snapshot as SnapshotCall}
use Rattle.admission_model.specs.declared.reply.Refusal.{Refusal}
use Rattle.admission_model.specs.declared.reply.Refusal.TheVariants.{NotHere, Memory, Frozen, LogFull, StoreFault}
use Rattle.admission_model.specs.declared.reply.Reply.{Reply}
use Rattle.admission_model.specs.declared.reply.Reply.TheVariants.{Refused}
use Rattle.admission_model.specs.Account.{Account, layout_of}
use Rattle.admission_model.specs.View.{View, view_of, plan_of}
use Rattle.admission_model.specs.Merging.{snapshot_of}
use Rattle.admission_model.specs.Durable.{change_between, IsEmpty}
use Rattle.admission_model.specs.Replies.{merge_lines, planned}
use Rattle.admission_model.specs.Serving.{after, answer, reason, replied, reply_of, left_reply}
use Rattle.admission_model.proofs.AskedLemmas.{changed_nothing}
use Rattle.durable_keeper.specs.declared.keeper.Keeper.{Ghosts}
use Rattle.desk_log.specs.Log.{IsInDoubt}
use Rattle.desk_log.specs.Desk.{DeskState, IsDesk, IsReply, IsServing, account_of, is_frozen}
use Rattle.desk_log.specs.Following.{most_raised, RefusesMerge, MayRefuse, CanFollow}
use Rattle.desk_log.proofs.ReplyLemmas.{of_lines, fault_is}

-- ---- how many counters a merge raises

one_at_most : (b : Bool) → one_if b ≤ 1
one_at_most true = omega arith
one_at_most false = omega arith

-- a sum of n numbers up to k
total_at_most : (k n : ℕ) (f : ℕ → ℕ) → ((i : ℕ) → i < n → f i ≤ k) → total n f ≤ n * k
total_at_most k zero f each = omega arith
total_at_most k (suc n) f each =
    omega (arith, total_at_most k n f (λ i below. each i (omega arith)), each n (omega arith), suc-mul n k)

cells_at_most : (n : ℕ) (test : Cell → Bool) → n ≤ 16 → number_of_cells n test ≤ 19
cells_at_most n test few =
    omega (
      arith,
      total_at_most 1 n (λ j. one_if (test (Out j))) (λ j below. one_at_most (test (Out j))),
      one_at_most (test Taken),
      one_at_most (test Ann),
      one_at_most (test Fin),
    )

raised_at_most : (layout : LayoutState) → IsLayout layout → (counter : ℕ → ℕ → Cell → ℕ) (rows : List Row)
    → raised_by (shape_of layout) counter rows ≤ most_raised
raised_at_most layout is counter rows =
    omega (arith, total_at_most 304 (length (shape_of layout).records) of_record each, length-map layout.records record_shape, is.few_records)
  where
    raises : ℕ → ℕ → Cell → Bool
    raises r s cell = ltb (counter r s cell) (shown_by (shape_of layout) rows r s cell)

    of_record : ℕ → ℕ
    of_record r = total layout.sites (λ s. number_of_cells layout.sites (raises r s))

    each : (r : ℕ) → r < length (shape_of layout).records → of_record r ≤ 304
    each r below =
        omega (
          arith,
          total_at_most 19 layout.sites (λ s. number_of_cells layout.sites (raises r s)) (λ s inside. cells_at_most layout.sites (raises r s) is.few_sites),
          is.few_sites,
        )

-- ---- what the model answers

follows_answer : (v : View) → IsLayout v.layout → (call : Call) → CanFollow call (answer v call)
follows_answer v is (AskCall (Read r h)) = inl refl
follows_answer v is (AskCall (Announce r h)) = inl (v.counter r v.site Ann + 1, refl)
follows_answer v is (AskCall (Quill r h)) = inl refl
follows_answer v is (AskCall (Leave r h)) = left (v.phase r h)
  where
    left : (o : Option Phase) → CanFollow (AskCall (Leave r h)) (left_reply o)
    left (Some p) = inl (p, refl)
    left None = inr (NotHere, (refl, tt))
follows_answer v is (AskCall (Give r to seats)) = inl refl
follows_answer v is (AskCall (Help r)) = let plan = planned (plan_of v r) in inl (plan.to, (plan.seats, refl))
follows_answer v is (Merge delta) =
    inl (raised_by (shape_of v.layout) v.counter delta.rows, (refl, raised_at_most v.layout is v.counter delta.rows))
follows_answer v is SnapshotCall = inl (snapshot_of v, refl)

model_refuses : (v : View) (call : Call) (x : Refusal) → reason v call ≡ Some x → MayRefuse call x
model_refuses v (AskCall ask) x e = tt
model_refuses v (Merge delta) x e = of_lines RefusesMerge (merge_lines v delta) (tt, (tt, (tt, tt))) x e
model_refuses v SnapshotCall x e = absurd (cc)

follows_model : (v : View) → IsLayout v.layout → (call : Call) → CanFollow call (reply_of v call)
follows_model v is call = at (reason v call) (model_refuses v call)
  where
    at : (o : Option Refusal) → ((x : Refusal) → o ≡ Some x → MayRefuse call x) → CanFollow call (replied o (answer v call))
    at None may = follows_answer v is call
    at (Some x) may = inr (x, (refl, may x refl))

-- ---- what a desk answers

pub refuses_memory : (call : Call) → MayRefuse call Memory
refuses_memory (AskCall ask) = tt
refuses_memory (Merge delta) = tt
refuses_memory SnapshotCall = tt

refuses_frozen : (call : Call) → MayRefuse call Frozen
refuses_frozen (AskCall ask) = tt
refuses_frozen (Merge delta) = tt
refuses_frozen SnapshotCall = tt

refuses_full : (call : Call) → MayRefuse call LogFull
refuses_full (AskCall ask) = tt
refuses_full (Merge delta) = tt
refuses_full SnapshotCall = tt

refuses_fault : (a : Account) (call : Call) → IsEmpty (change_between a a) → ¬ IsEmpty (change_between a (after a call)) → MayRefuse call StoreFault
refuses_fault a (AskCall ask) nothing changes = tt
refuses_fault a (Merge delta) nothing changes = tt
refuses_fault a SnapshotCall nothing changes = absurd (changes nothing)

-- the reply of a desk may follow the call
pub follows : {K : Type 0} (g : Ghosts K) (old new : DeskState K) (pass : ℕ) (call : Call) (reply : Reply)
    → IsDesk g old → IsServing g old new pass call reply → CanFollow call reply
follows {K} g old new pass call reply desk it = at (cases_Bool (is_frozen old)) (cases_lt (length old.log.entries) old.log.limit)
  where
    a : Account
    a = account_of old

    layout : IsLayout (layout_of a)
    layout = subst IsLayout desk.stands.shows.layout desk.layout

    refused : (x : Refusal) → MayRefuse call x → reply ≡ Refused x → CanFollow call reply
    refused x may e = inr (x, (e, may))

    doubted : IsInDoubt a call reply → CanFollow call reply
    doubted doubt =
        refused StoreFault (refuses_fault a call (changed_nothing a desk.stands.reached) doubt.changes) (fault_is reply doubt.fault)

    served : IsReply a call reply → CanFollow call reply
    served (inl e) = subst (CanFollow call) (sym e) (follows_model (view_of a) layout call)
    served (inr (inl e)) = refused Memory (refuses_memory call) e
    served (inr (inr doubt)) = doubted doubt

    at : (is_frozen old ≡ true) ⊎ (is_frozen old ≡ false)
        → (length old.log.entries < old.log.limit) ⊎ (old.log.limit ≤ length old.log.entries) → CanFollow call reply
    at (inl frozen) place = refused Frozen (refuses_frozen call) (it.frozen frozen).0
    at (inr running) (inl place) = served (it.answered (record { running = running; place = place }))
    at (inr running) (inr full) = refused LogFull (refuses_full call) (it.full running full).0
