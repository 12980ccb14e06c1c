-- The change that is prepared is the one that the durable parts differ in.
use Rattle.std.proofs.Common.{◌≡◌, ℕ, ◌⊎◌, inl, inr, max, true, false, List, [], Option, Some, None, refl, sym, ap, subst, ◌∙◌, arith}
use Rattle.std.proofs.lemmas.Bool.{cases_Bool, cond-true, cond-false}
use Rattle.merge_core.specs.declared.cell.Cell.{Cell}
use Rattle.merge_core.specs.declared.delta.Row.{Row}
use Rattle.merge_core.specs.Delta.{DeltaState}
use Rattle.merge_core.specs.Layout.{LayoutState, IsLayout, shape_of}
use Rattle.admission_model.specs.declared.ask.Ask.{Ask}
use Rattle.admission_model.specs.declared.ask.Call.{Call}
use Rattle.admission_model.specs.declared.ask.Call.TheVariants.{Ask as AskCall, Merge, Snapshot as SnapshotCall}
use Rattle.admission_model.specs.declared.durable.DurableCell.{DurableCell}
use Rattle.admission_model.specs.declared.reply.Refusal.{Refusal}
use Rattle.admission_model.specs.declared.reply.Refusal.TheVariants.{Memory}
use Rattle.admission_model.specs.declared.reply.Reply.TheVariants.{Refused}
use Rattle.admission_model.specs.Account.{Account, layout_of}
use Rattle.admission_model.specs.Knowledge.{known, hears}
use Rattle.admission_model.specs.View.{View, view_of}
use Rattle.admission_model.specs.Serving.{reason, reply_of, answer, advanced, unless_refused, operation_of, after}
use Rattle.admission_model.specs.Reached.{IsReached}
use Rattle.admission_model.specs.Asked.{operation_change}
use Rattle.admission_model.specs.Durable.{Change, AreRising, change_between, at_slot, places, risen_cells, slots_of}
use Rattle.admission_model.proofs.ChangeLemmas.{change_rises}
use Rattle.admission_model.proofs.AskedLemmas.{changed_asked, changed_nothing, changed_merged}
use Rattle.admission_model.proofs.RowLemmas.{shown_same}
use Rattle.admission_core.specs.Core.{Core, IsCore, core_view, Stands, SameContent, is_memory, served}
use Rattle.admission_core.specs.Kept.{change_of, put_by, removed_by}
use Rattle.admission_core.specs.Joining.{joined_counter}
use Rattle.admission_core.specs.Prepared.{Prepared, refused_with, IsReadyFor, IsChangeFor}
use Rattle.admission_core.proofs.CoreLemmas.{shows_account}
use Rattle.admission_core.proofs.ReadyLemmas.{served_after, stands_along, view_along, answered_from_memory}
use Rattle.admission_core.proofs.StandsLemmas.{known_joined, after_merge}

-- no change
abbrev nothing : Change
nothing = record { cells = []; put = []; removed = [] }

-- an account does not differ from itself
no_change : (a b : Account) → IsReached a → b ≡ a → nothing ≡ change_between a b
no_change a b is same =
    let none = changed_nothing a is in
    let empty : nothing ≡ change_between a a = λ i. record { cells = sym none.no_cells i; put = sym none.no_put i; removed = sym none.none_removed i } in
    empty ∙ ap (change_between a) (sym same)

-- after a refusal the account is as it was
served_refused : (a : Account) (call : Call) (refusal : Refusal) → reason (view_of a) call ≡ Some refusal → served a call (Refused refusal) ≡ a
served_refused a call refusal is = at (cases_Bool (is_memory (Refused refusal)))
  where
    at : (is_memory (Refused refusal) ≡ true) ⊎ (is_memory (Refused refusal) ≡ false) → served a call (Refused refusal) ≡ a
    at (inl e) = cond-true (is_memory (Refused refusal)) a (after a call) e
    at (inr e) = cond-false (is_memory (Refused refusal)) a (after a call) e ∙ ap (λ (o : Option Refusal). unless_refused o a (advanced a call)) is

-- a refusal has no change
pub refused_change : (c : Core) (call : Call) (refusal : Refusal) → reason (core_view c) call ≡ Some refusal → IsChangeFor c call (refused_with refusal)
refused_change c call refusal is = λ a stands.
    let told : reason (view_of a) call ≡ Some refusal = ap (λ (v : View). reason v call) (sym (shows_account a c stands)) ∙ is in
    no_change a (served a call (Refused refusal)) stands.reached (served_refused a call refusal told)

-- nor has want of memory
pub memory_change : (c : Core) (call : Call) → IsChangeFor c call (refused_with Memory)
memory_change c call = λ a stands. no_change a a stands.reached refl

-- the account after a call that was answered
answered_after : (a : Account) (c : Core) → Stands a c → (call : Call) (p : Prepared) → p.reply ≡ answer (core_view c) call → served a call p.reply ≡ after a call
answered_after a c stands call p is =
    served_after a call p.reply (ap is_memory is ∙ answered_from_memory (core_view c) call)

-- an ask that nothing refuses has the change of its operation
pub asked_change : (c : Core) (ask : Ask) (p : Prepared) → IsLayout c.layout → reason (core_view c) (AskCall ask) ≡ None → p.reply ≡ answer (core_view c) (AskCall ask) → change_of p.change ≡ operation_change (core_view c) (operation_of (core_view c) ask) → IsChangeFor c (AskCall ask) p
asked_change c ask p layout free reply change = λ a stands.
    let same : core_view c ≡ view_of a = shows_account a c stands in
    let accepted : reason (view_of a) (AskCall ask) ≡ None = ap (λ (v : View). reason v (AskCall ask)) (sym same) ∙ free in
    let sites : c.layout.sites ≡ a.sites = ap (λ (l : LayoutState). l.sites) stands.shows.layout in
    change
    ∙ (ap (λ (v : View). operation_change v (operation_of v ask)) same
    ∙ (sym (changed_asked a stands.reached (omega (arith, sites, layout.few_sites)) ask accepted)
    ∙ ap (change_between a) (sym (answered_after a c stands (AskCall ask) p reply))))

-- a snapshot has none
pub snapshot_change : (c : Core) (p : Prepared) → p.reply ≡ answer (core_view c) SnapshotCall → change_of p.change ≡ nothing → IsChangeFor c SnapshotCall p
snapshot_change c p reply change = λ a stands.
    change ∙ no_change a (served a SnapshotCall p.reply) stands.reached (answered_after a c stands SnapshotCall p reply)

-- the cells that rows raise, by a view
abbrev raised_cells : View → List Row → List DurableCell
raised_cells v rows = risen_cells (at_slot v.layout.sites v.site v.counter) (at_slot v.layout.sites v.site (joined_counter v rows)) (places v.layout)

-- a merge that nothing refuses has the cells that rise, and no session
pub merged_change : (c : Core) (delta : DeltaState) (p : Prepared) → reason (core_view c) (Merge delta) ≡ None → p.reply ≡ answer (core_view c) (Merge delta) → p.change.cells ≡ raised_cells (core_view c) delta.rows → p.change.session ≡ None → IsChangeFor c (Merge delta) p
merged_change c delta p free reply cells session = λ a stands.
    let same : core_view c ≡ view_of a = shows_account a c stands in
    let accepted : reason (view_of a) (Merge delta) ≡ None = ap (λ (v : View). reason v (Merge delta)) (sym same) ∙ free in
    let keeps = changed_merged a stands.reached delta.rows in
    let joins : joined_counter (view_of a) delta.rows ≡ known (hears a delta.rows) = λ i r s cell.
    (ap (max (known a r s cell)) (shown_same (shape_of (layout_of a)) (shape_of a.origin.layout) refl delta.rows r s cell) ∙ known_joined a stands.reached delta accepted r s cell) i in
    let told : p.change.cells ≡ (change_between a (hears a delta.rows)).cells =
    cells
    ∙ (ap (λ (v : View). raised_cells v delta.rows) same
    ∙ ap (λ (f : ℕ → ℕ → Cell → ℕ). risen_cells (slots_of a) (at_slot a.sites a.origin.site f) (places a.origin.layout)) joins) in
    let heard : change_of p.change ≡ change_between a (hears a delta.rows) = λ i. record {
      cells = told i;
      put = (ap put_by session ∙ sym keeps.no_put) i;
      removed = (ap removed_by session ∙ sym keeps.none_removed) i;
    } in
    heard ∙ ap (change_between a) (sym (answered_after a c stands (Merge delta) p reply ∙ after_merge a delta accepted))

-- what is prepared for a core is prepared for the one that differs in its room alone
pub change_along : (old new : Core) → SameContent old new → (call : Call) (p : Prepared) → IsChangeFor new call p → IsChangeFor old call p
change_along old new same call p it = λ a stands. it a (stands_along a old new same stands)

-- the answer is the model's
pub replies : (old mid : Core) (call : Call) (p : Prepared) → SameContent old mid → IsReadyFor mid call p → is_memory p.reply ≡ false → (a : Account) → Stands a old → p.reply ≡ reply_of (view_of a) call
replies old mid call p same ready there a stands =
    ready.reply there ∙ ap (λ (v : View). reply_of v call) (view_along old mid same ∙ shows_account a old stands)

-- the cells of a change rise
pub change_rising : (c : Core) → IsCore c → (call : Call) (p : Prepared) → IsChangeFor c call p → AreRising p.change.cells
change_rising c is call p it =
    let a : Account = is.account in
    subst AreRising (sym (ap (λ (x : Change). x.cells) (it a is.stands))) (change_rises a (served a call p.reply))
