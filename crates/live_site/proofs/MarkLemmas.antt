-- What is kept of a call whose reply shows that the store is outdated.
use Rattle.std.proofs.Common.{◌≡◌, Bool, true, false, [], None, Ok, refl, sym, ap, subst, ◌∙◌}
use Rattle.admission_model.specs.declared.ask.Call.{Call}
use Rattle.admission_model.specs.declared.reply.Refusal.{Refusal}
use Rattle.admission_model.specs.declared.reply.Refusal.TheVariants.{OwnRowAhead}
use Rattle.admission_model.specs.declared.reply.Reply.{Reply}
use Rattle.admission_model.specs.declared.reply.Reply.TheVariants.{Refused}
use Rattle.admission_model.specs.Account.{Account}
use Rattle.admission_model.specs.View.{view_of}
use Rattle.admission_model.specs.Serving.{reply_of}
use Rattle.admission_model.specs.Durable.{change_between, put_cells}
use Rattle.admission_model.proofs.AskedLemmas.{changed_refused}
use Rattle.admission_model.proofs.ReasonLemmas.{reason_told}
use Rattle.admission_core.specs.Core.{Core, Stands, is_memory}
use Rattle.admission_core.specs.Kept.{DurableState, ChangeState, durable_of}
use Rattle.admission_core.specs.Prepared.{Prepared, IsChangeFor}
use Rattle.admission_core.proofs.ReadyLemmas.{served_after}
use Rattle.durable_keeper.specs.declared.keeper.Keeper.{Ghosts}
use Rattle.durable_keeper.specs.Keeping.{changed, changed_sessions}
use Rattle.desk_log.specs.Desk.{HasKept}
use Rattle.desk_log.proofs.ChangeLemmas.{nothing_changes}
use Rattle.live_site.specs.Live.{is_outdated}
use Rattle.live_site.specs.Steps.{KeepsCall}

-- such a reply is a refusal
outdated_is : (reply : Reply) → is_outdated reply ≡ true → (x : Refusal) × (reply ≡ Refused x)
outdated_is (Refused (OwnRowAhead r)) e = (OwnRowAhead r, refl)
outdated_is other e = absurd (cc)

-- a change of nothing
unchanged : (c : ChangeState) (d : DurableState) → c.cells ≡ [] → c.session ≡ None → changed c d ≡ d
unchanged c d no_cells no_session = λ i. record { cells = put_cells (no_cells i) d.cells; sessions = changed_sessions (no_session i) d.sessions }

module _ (c : Core) (call : Call) (p : Prepared) (of : IsChangeFor c call p) (there : is_memory p.reply ≡ false) (a : Account) (stands : Stands a c) (model : p.reply ≡ reply_of (view_of a) call) where
  -- behind it nothing changes
  no_change : is_outdated p.reply ≡ true → (p.change.cells ≡ []) × (p.change.session ≡ None)
  no_change outdated =
      let is = outdated_is p.reply outdated in
      nothing_changes a call p.change (of a stands ∙ ap (change_between a) (served_after a call p.reply there))
      (changed_refused a stands.reached call is.0 (reason_told (view_of a) call is.0 (sym model ∙ is.1)))

  module _ {K : Type 0} (g : Ghosts K) (m : K → Type 0) (k l : K) where
    pub has_kept : (b : Bool) → is_outdated p.reply ≡ b → KeepsCall g m b k l p.change (Ok tt) → HasKept g k l p.change
    has_kept true outdated marked = record {
      keeps = λ d kept. subst (g.keeps l) (sym (unchanged p.change d (no_change outdated).0 (no_change outdated).1)) (marked.keeps d kept);
      no_fault = marked.no_fault;
    }
    has_kept false current kept = kept

    pub has_marked : (b : Bool) → is_outdated p.reply ≡ b → KeepsCall g m b k l p.change (Ok tt) → is_outdated p.reply ≡ true → g.keeps k (durable_of a) → m l
    has_marked true is marked outdated kept = marked.marked (durable_of a) kept
    has_marked false is kept outdated had = let clash : true ≡ false = sym outdated ∙ is in absurd (cc)
