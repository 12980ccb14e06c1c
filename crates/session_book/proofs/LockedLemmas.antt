-- What a lock guards, after an opening, after a call, and when it is given up.
use mathlib.Core.HLevel.{is_prop→PathP}
use Rattle.std.proofs.Common.{◌≡◌, ℕ, ◌+◌, ◌≤◌, Bool, true, false, List, [], ◌∷◌, ◌++◌, Vec, length, refl, sym, ap, subst, ◌∙◌, arith, length-append}
use Rattle.std.proofs.lemmas.List.{with_items_is}
use Rattle.std.proofs.Props.{props}
use Rattle.std.specs.Vec.{with_items}
use Rattle.std.specs.Prelude.{if◌then◌else◌, Option, Some, None}
use Rattle.std.specs.Option.{is_some}
use Rattle.merge_core.specs.Layout.{LayoutState}
use Rattle.admission_model.specs.declared.ask.Call.{Call}
use Rattle.admission_model.specs.declared.reply.Reply.{Reply}
use Rattle.admission_core.specs.Kept.{DurableState}
use Rattle.durable_keeper.specs.declared.keeper.Keeper.{Ghosts}
use Rattle.desk_log.specs.declared.entry.Entry.{Entry}
use Rattle.desk_log.specs.Log.{LogState, is_logged}
use Rattle.desk_log.specs.Desk.{DeskState, IsFresh, IsServing, Leaves, receipt_of, account_of, account_if_kept, is_frozen}
use Rattle.session_book.specs.Sites.{IsLocked, KeepsOf}

log_first : (b : Bool) (log : LogState) (e : Entry) → (if b then record log { entries = log.entries ++ e ∷ [] } else log).first ≡ log.first
log_first true log e = refl
log_first false log e = refl

log_length : (b : Bool) (log : LogState) (e : Entry) → length (if b then record log { entries = log.entries ++ e ∷ [] } else log).entries ≡ length log.entries + (if b then 1 else 0)
log_length true log e = length-append log.entries (e ∷ [])
log_length false log e = omega arith

logged_some : (b : Bool) (reply : Reply) (receipt : Option Reply) → receipt ≡ (if b then Some reply else None) → is_some receipt ≡ b
logged_some true reply receipt is = ap is_some is
logged_some false reply receipt is = ap is_some is

module _ {K : Type 0} (g : Ghosts K) (was_kept : DurableState → Type 0) where
  -- a desk that was opened goes under the lock
  pub locked_begun : (keeper : K) (layout : LayoutState) (i limit : ℕ) (d : DeskState K) (total parts amount : ℕ) → ((e : DurableState) → was_kept e → g.keeps keeper e) → IsFresh g keeper layout i limit d → total ≡ 0 → parts ≡ 0 → amount ≡ 0 → IsLocked g was_kept d total parts amount
  locked_begun keeper layout i limit d total parts amount kept fresh none no_part no_amount = record {
    all_counted = ap length fresh.none ∙ sym none;
    no_part = no_part;
    no_amount = no_amount;
    held = λ e was. subst (λ (k : K). g.keeps k e) (sym fresh.opened) (fresh.keeps_on.keeps e (kept e was));
    found = λ e was honest. fresh.found e (kept e was) (subst (λ (k : K). g.is_honest k) fresh.opened honest);
  }

  -- a call is served under the lock, and counted where its reply is logged
  pub locked_served : (d e : DeskState K) (pass : ℕ) (call : Call) (reply : Reply) (receipt : Option Reply) (some : Bool) (total after parts amount : ℕ) → IsLocked g was_kept d total parts amount → IsServing g d e pass call reply → receipt ≡ receipt_of reply → some ≡ is_some receipt → after ≡ total + (if some then 1 else 0) → IsLocked g was_kept e after parts amount
  locked_served d e pass call reply receipt some total after parts amount is serves copied is_copied counted = record {
    all_counted = omega (arith, ap (λ (l : LogState). length l.entries) serves.logged, log_length (is_logged reply) d.log (record { pass = pass; call = call; reply = reply }), is.all_counted, counted, ap {B = ℕ} (λ (b : Bool). if b then 1 else 0) (is_copied ∙ logged_some (is_logged reply) reply receipt copied));
    no_part = is.no_part;
    no_amount = is.no_amount;
    held = λ x was. subst (λ (k : K). g.keeps k x) (sym serves.opened) (is.held x was);
    found = λ x was honest.
        ap (λ (l : LogState). l.first) serves.logged
        ∙ (log_first (is_logged reply) d.log (record { pass = pass; call = call; reply = reply })
        ∙ is.found x was (subst (λ (k : K). g.is_honest k) serves.opened honest));
  }

  -- the keeper that a desk under the lock gives back
  pub locked_keeps : (d : DeskState K) (total parts amount : ℕ) (k : K) → IsLocked g was_kept d total parts amount → (g.keeps d.opened d.log.first → Leaves g (is_frozen d) k (account_of d) (account_if_kept d)) → (g.is_honest k → g.is_honest d.opened) → KeepsOf g was_kept d k
  locked_keeps d total parts amount k is kept honest = record {
    kept = λ was. kept (is.held d.log.first was);
    found = λ e was still. is.found e was (honest still);
  }

-- a vector whose elements were written as they were
pub same_vec : {X Z : Type 0} (v : Vec X Z) (ws : List X) → ws ≡ v.items → with_items v ws ≡ v
same_vec v ws e =
    let items : (with_items v ws).items ≡ v.items = with_items_is v ws (ap length e ∙ sym v.ok.0) ∙ e in
    λ i. record {
      ptr = v.ptr;
      len = v.len;
      cap = v.cap;
      alloc = v.alloc;
      items = items i;
      ok = is_prop→PathP (λ j. (v.len ≡ length (items j)) × (v.len ≤ v.cap)) (λ j. Prim.hlevel props) (with_items v ws).ok v.ok i;
      small = v.small;
    }
