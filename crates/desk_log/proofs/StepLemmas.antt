-- What one call leaves at a core and its keeper, exit by exit.
use Rattle.std.proofs.Common.{◌≡◌, ℕ, ◌≤◌, inr, Bool, true, false, [], Option, Some, None, refl, sym, ap, subst, ◌∙◌, arith}
use Rattle.std.specs.Prelude.{Err, IfSome, IsSome}
use Rattle.merge_core.specs.Layout.{LayoutState, IsLayout}
use Rattle.admission_model.specs.declared.ask.Call.{Call}
use Rattle.admission_model.specs.declared.reply.Refusal.{Refusal}
use Rattle.admission_model.specs.declared.reply.Refusal.TheVariants.{Memory as NoMemory, StoreFault as NoStore}
use Rattle.admission_model.specs.declared.reply.Reply.{Reply}
use Rattle.admission_model.specs.declared.reply.Reply.TheVariants.{Refused}
use Rattle.admission_model.specs.Account.{Account, layout_of}
use Rattle.admission_model.specs.View.{View, view_of}
use Rattle.admission_model.specs.Serving.{after, reason}
use Rattle.admission_model.specs.Durable.{AreRising, change_between, IsEmpty}
use Rattle.admission_model.proofs.AskedLemmas.{changed_refused}
use Rattle.admission_core.specs.Core.{Core, IsCore, Stands, SameContent, IsServed, core_view, is_memory, served}
use Rattle.admission_core.specs.Kept.{DurableState, durable_of, change_of}
use Rattle.admission_core.specs.Prepared.{Prepared, IsReadyFor, IsChangeFor}
use Rattle.admission_core.proofs.CoreLemmas.{shows_account}
use Rattle.admission_core.proofs.ReadyLemmas.{view_along, served_after, served_by}
use Rattle.durable_keeper.specs.declared.keeper.Keeper.{Ghosts}
use Rattle.durable_keeper.specs.declared.error.KeeperError.{KeeperError}
use Rattle.durable_keeper.specs.declared.error.KeeperError.TheVariants.{Memory as NoSpace, StoreFault as Failed}
use Rattle.durable_keeper.specs.Keeping.{IsChange, changed}
use Rattle.desk_log.specs.declared.step.Served.{Served}
use Rattle.desk_log.specs.Desk.{HasKept, HasNotKept, MayHaveKept, KeepsChange, IsUnserved, IsDoubted, IsAnswered, IsStep, IsCopied}
use Rattle.desk_log.proofs.ReplyLemmas.{memory_is, never_memory}
use Rattle.desk_log.proofs.ChangeLemmas.{changed_durable, nothing_changes, is_change}

-- a core's account is of its layout
pub layout_shown : (a : Account) (c : Core) → Stands a c → c.layout ≡ layout_of a
layout_shown a c stands = stands.shows.layout

few_sites : (a : Account) (c : Core) → IsLayout c.layout → Stands a c → a.sites ≤ 16
few_sites a c layout stands = omega (arith, layout.few_sites, ap (λ (l : LayoutState). l.sites) stands.shows.layout)

-- no reason, where each would contradict
no_reason : (o : Option Refusal) → ((x : Refusal) → o ≡ Some x → ⊥) → o ≡ None
no_reason None contra = refl
no_reason (Some x) contra = absurd (contra x refl)

-- a call that was prepared at a core
module _ (c mid : Core) (call : Call) (p : Prepared) (core : IsCore c) (same : SameContent c mid) (ready : IsReadyFor mid call p) (of : IsChangeFor c call p) where
  view : (a : Account) → Stands a c → core_view mid ≡ view_of a
  view a stands = view_along c mid same ∙ shows_account a c stands

  told : (a : Account) → Stands a c → (x : Refusal) → reason (view_of a) call ≡ Some x → p.reply ≡ Refused x
  told a stands x e = ready.refused x (ap (λ (v : View). reason v call) (view a stands) ∙ e)

  pub unserved : {K : Type 0} (g : Ghosts K) (k l : K) → ((x : Refusal) → (v : View) → reason v call ≡ Some x → p.reply ≡ Refused x → ⊥) → ((d : DurableState) → g.keeps k d → g.keeps l d) → g.faults_of l ≡ 0 → (a : Account) → Stands a c → IsUnserved g a c mid k l call
  unserved g k l contra keeps no_fault a stands = record {
    free = no_reason (reason (view_of a) call) (λ x e. contra x (view_of a) e (told a stands x e));
    core = same;
    kept = keeps (durable_of a);
    no_fault = no_fault;
  }

  -- a reply that is want of memory stands in place of no refusal
  pub not_memory : is_memory p.reply ≡ true → (x : Refusal) → (v : View) → reason v call ≡ Some x → p.reply ≡ Refused x → ⊥
  not_memory memory x v e is =
      let both : ◌≡◌ {A = Reply} (Refused x) (Refused NoMemory) = sym is ∙ memory_is p.reply memory in
      let named : x ≡ NoMemory = cc in
      never_memory v call (e ∙ ap Some named)

  -- the change, where there was memory
  change_told : is_memory p.reply ≡ false → (a : Account) → Stands a c → change_of p.change ≡ change_between a (after a call)
  change_told memory a stands = of a stands ∙ ap (change_between a) (served_after a call p.reply memory)

  -- a keeper may be told the change
  pub may_be_told : is_memory p.reply ≡ false → AreRising p.change.cells → IsChange c.layout c.site p.change
  may_be_told memory rising =
      let a : Account = core.account in
      let stands : Stands a c = core.stands in
      let layout : IsLayout (layout_of a) = subst IsLayout stands.shows.layout core.layout in
      subst (λ (l : LayoutState). IsChange l c.site p.change) (sym stands.shows.layout)
      (subst (λ (i : ℕ). IsChange (layout_of a) i p.change) (sym stands.shows.site)
      (is_change a stands.reached layout call p.change (change_told memory a stands) rising))

  -- the durable part with the change is the one after the call
  with_change : is_memory p.reply ≡ false → (a : Account) → Stands a c → changed p.change (durable_of a) ≡ durable_of (after a call)
  with_change memory a stands = changed_durable a stands.reached (few_sites a c core.layout stands) call p.change (change_told memory a stands)

  -- where the durable part does not change, nothing was to be kept
  pub nothing_due : is_memory p.reply ≡ false → (a : Account) → Stands a c → IsEmpty (change_between a (after a call)) → (p.change.cells ≡ []) × (p.change.session ≡ None)
  nothing_due memory a stands = nothing_changes a call p.change (change_told memory a stands)

  -- where something changes, the durable part does
  changes_so : is_memory p.reply ≡ false → ¬ ((p.change.cells ≡ []) × (p.change.session ≡ None)) → (a : Account) → Stands a c → ¬ IsEmpty (change_between a (after a call))
  changes_so memory some a stands = λ empty. some (nothing_due memory a stands empty)

  -- a keeper that is left alone where it is told nothing is left alone where the durable part does not change
  pub left_alone : {K : Type 0} (k l : K) → is_memory p.reply ≡ false → (p.change.cells ≡ [] → p.change.session ≡ None → l ≡ k) → (a : Account) → Stands a c → IsEmpty (change_between a (after a call)) → l ≡ k
  left_alone k l memory idle a stands empty = let none = nothing_due memory a stands empty in idle none.0 none.1

  -- the store has no memory
  pub store_memory : {K : Type 0} (g : Ghosts K) (k l : K) → is_memory p.reply ≡ false → HasNotKept g k l p.change → (a : Account) → Stands a c → IsUnserved g a c mid k l call
  store_memory g k l memory not_kept a stands = record {
    free = no_reason (reason (view_of a) call) (λ x e. changes_so memory not_kept.changes a stands (changed_refused a stands.reached call x e));
    core = same;
    kept = not_kept.keeps (durable_of a);
    no_fault = not_kept.no_fault;
  }

  -- the store's device fails
  pub store_fault : {K : Type 0} (g : Ghosts K) (k l : K) → is_memory p.reply ≡ false → MayHaveKept g k l p.change → (a : Account) → Stands a c → IsDoubted g a c mid k l call (Refused NoStore)
  store_fault g k l memory may a stands = record {
    fault = refl;
    changes = changes_so memory may.changes a stands;
    core = same;
    kept = λ kept. subst (λ (d : DurableState). g.keeps_either l (durable_of a) d) (with_change memory a stands) (may.keeps (durable_of a) kept);
    told = may.told;
  }

  -- the change is kept, and the call carried out
  pub carried_out : {K : Type 0} (g : Ghosts K) (k l : K) (new : Core) (reply : Reply) → is_memory p.reply ≡ false → HasKept g k l p.change → reply ≡ p.reply
      → ((x : Call) → IsReadyFor mid x p → (a : Account) → Stands a mid → Stands (served a x p.reply) new) → (p.operation ≡ None → p.heard ≡ None → new ≡ mid)
      → (a : Account) → Stands a c → IsAnswered g a c new k l call reply
  carried_out g k l new reply memory has is account unchanged a stands =
      let done : IsServed c new call reply = served_by c mid new call p reply same ready is account unchanged in
      let there : is_memory reply ≡ false = ap is_memory is ∙ memory in
      record {
        model = done.answered there a stands;
        stands = subst (λ (b : Account). Stands b new) (served_after a call reply there) (done.account a stands);
        refused = done.unchanged;
        kept = λ kept. subst (g.keeps l) (with_change memory a stands) (has.keeps (durable_of a) kept);
        no_fault = has.no_fault;
      }

  -- the change is not kept
  pub not_kept : {K : Type 0} (g : Ghosts K) (k l : K) (wanted : Bool) → is_memory p.reply ≡ false → (error : KeeperError) → KeepsChange g k l p.change (Err error) → (result : Option Served)
      → (error ≡ NoSpace → result ≡ None) → (error ≡ Failed → IfSome result (λ s. IsCopied wanted s × (s.reply ≡ Refused NoStore))) → (error ≡ Failed → IsSome result)
      → (a : Account) → Stands a c → IsStep g a c mid k l call result
  not_kept g k l wanted memory NoSpace kept result none fault told a stands =
      subst (λ (x : Option Served). IsStep g a c mid k l call x) (sym (none refl)) (store_memory g k l memory kept a stands)
  not_kept g k l wanted memory Failed kept (Some s) none fault told a stands =
      inr (subst (λ (r : Reply). IsDoubted g a c mid k l call r) (sym (fault refl).1) (store_fault g k l memory kept a stands))
  not_kept g k l wanted memory Failed kept None none fault told a stands = let some = told refl in absurd (cc)
