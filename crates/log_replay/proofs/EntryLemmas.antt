-- One call at a core: what carrying it out leaves, and whether it changes anything.
use Rattle.std.proofs.Common.{◌≡◌, ℕ, suc, ◌+◌, Bool, true, false, cond, not, List, [], ◌∷◌, length, None, refl, sym, ap, subst, ◌∙◌, arith}
use Rattle.std.proofs.lemmas.Bool.{cond-true, cond-false}
use Rattle.std.specs.Prelude.{◌↔◌, IsTrue}
use Rattle.admission_model.specs.declared.ask.Call.{Call}
use Rattle.admission_model.specs.Account.{Account}
use Rattle.admission_model.specs.declared.reply.Reply.{Reply}
use Rattle.admission_model.specs.View.{View, view_of}
use Rattle.admission_model.specs.Serving.{after, reply_of}
use Rattle.admission_model.specs.Durable.{change_between, IsEmpty}
use Rattle.admission_core.specs.Core.{Core, Stands, SameContent, IsServed, is_memory, served}
use Rattle.admission_core.specs.Prepared.{Prepared, IsReadyFor}
use Rattle.admission_core.specs.Kept.{ChangeState, change_of, put_by, removed_by}
use Rattle.admission_core.proofs.ReadyLemmas.{served_after, stands_along}
use Rattle.desk_log.specs.declared.entry.Entry.{Entry}
use Rattle.desk_log.specs.Log.{is_fault}
use Rattle.desk_log.proofs.ChangeLemmas.{nothing_changes}
use Rattle.desk_log.proofs.ReplyLemmas.{model_fault}
use Rattle.log_replay.specs.Replay.{IsWay, IsStop, IsEnd, IsEndable, IsFollowed}
use Rattle.log_replay.proofs.WayLemmas.{way_more}

nothing_is : (ch : ChangeState) → (ch.cells ≡ []) × (ch.session ≡ None) → IsEmpty (change_of ch)
nothing_is ch none = record { no_cells = none.0; no_put = ap put_by none.1; none_removed = ap removed_by none.1 }

-- a change is empty where its test says so
pub empty_test : (a : Account) (call : Call) (ch : ChangeState) (b : Bool) → change_of ch ≡ change_between a (after a call) → IsTrue b ↔ ((ch.cells ≡ []) × (ch.session ≡ None)) → IsTrue (not b) ↔ (¬ IsEmpty (change_between a (after a call)))
empty_test a call ch true is tells =
    (λ wrong. absurd (cc), λ some. absurd (some (subst IsEmpty is (nothing_is ch (tells.0 refl)))))
empty_test a call ch false is tells =
    (λ _ empty. let wrong : false ≡ true = tells.1 (nothing_changes a call ch is empty) in cc, λ _. refl)

-- carried out, it leaves a core that stands for the account after it
pub applied : (old mid new : Core) (call : Call) (p : Prepared) → SameContent old mid → IsReadyFor mid call p → is_memory p.reply ≡ false → ((x : Call) → IsReadyFor mid x p → (a : Account) → Stands a mid → Stands (served a x p.reply) new) → (a : Account) → Stands a old → Stands (after a call) new
applied old mid new call p same ready memory account a stands =
    subst (λ (x : Account). Stands x new) (served_after a call p.reply memory) (account call ready a (stands_along a old mid same stands))

-- a reply is the model's where it is the one that a core gave
pub served_reply : (old new : Core) (call : Call) (given reply : Reply) (ok : Bool) → IsServed old new call given → is_memory given ≡ false → IsTrue ok ↔ (reply ≡ given) → (a : Account) → Stands a old → IsTrue ok ↔ (reply ≡ reply_of (view_of a) call)
served_reply old new call given reply ok served memory tells a stands =
    let model : given ≡ reply_of (view_of a) call = served.answered memory a stands in
    (λ is. tells.0 is ∙ model, λ same. tells.1 (same ∙ sym model))

-- the account that a core stands for after a call that was served
pub served_stands : (old new : Core) (call : Call) (reply : Reply) → IsServed old new call reply → is_memory reply ≡ false → (a : Account) → Stands a old → Stands (after a call) new
served_stands old new call reply is memory a stands =
    subst (λ (x : Account). Stands x new) (served_after a call reply memory) (is.account a stands)

-- no call of the model is answered by a fault
model_differs : (reply : Reply) (v : View) (call : Call) → is_fault reply ≡ true → reply ≡ reply_of v call → ⊥
model_differs reply v call fault same = let both : true ≡ false = sym fault ∙ (ap is_fault same ∙ model_fault v call) in absurd cc

pub fault_is_other : (reply : Reply) (v : View) (call : Call) → is_fault reply ≡ true → IsTrue false ↔ (reply ≡ reply_of v call)
fault_is_other reply v call fault = ((λ (wrong : false ≡ true). absurd cc), λ same. absurd (model_differs reply v call fault same))

-- a core that has followed the entries in front of one whose reply is not the model's
pub follow_stops : (es rest later : List Entry) (n : ℕ) (e : Entry) (mid new : Core) (ok : Bool) (a : Account) → rest ≡ e ∷ later → ok ≡ false
    → ((b : Account) → Stands b mid → IsTrue ok ↔ (e.reply ≡ reply_of (view_of b) e.call))
    → ((b : Account) → Stands b mid → Stands (cond (is_fault e.reply) b (after b e.call)) new)
    → (b : Account) × IsWay a es n b rest × Stands b mid → IsFollowed a es n new
follow_stops es rest later n e mid new ok a split other same stands there = record {
  reached = there.0;
  left = rest;
  way = there.1;
  stands = λ endable. held (subst IsEndable split endable);
  stop = subst (IsStop there.0) (sym split) (λ is. let wrong : ok ≡ true = (same there.0 there.2).1 is in let both : false ≡ true = sym other ∙ wrong in cc);
}
  where
    held : is_fault e.reply ≡ true → Stands there.0 new
    held fault = subst (λ (x : Account). Stands x new) (cond-true (is_fault e.reply) there.0 (after there.0 e.call) fault) (stands there.0 there.2)

-- an entry with the model's reply was carried out
pub carried : (b : Account) (e : Entry) (new : Core) → e.reply ≡ reply_of (view_of b) e.call → Stands (cond (is_fault e.reply) b (after b e.call)) new → Stands (after b e.call) new
carried b e new same stands =
    subst (λ (x : Account). Stands x new) (cond-false (is_fault e.reply) b (after b e.call) (ap is_fault same ∙ model_fault (view_of b) e.call)) stands

-- a core that has followed one entry more
pub follow_next : (es rest later : List Entry) (n : ℕ) (e : Entry) (old mid new : Core) → rest ≡ e ∷ later → n + length rest ≡ length es → ((a : Account) → Stands a old → (b : Account) × IsWay a es n b rest × Stands b mid) → ((b : Account) → Stands b mid → e.reply ≡ reply_of (view_of b) e.call) → ((b : Account) → Stands b mid → Stands (after b e.call) new)
    → (n + 1 + length later ≡ length es) × ((a : Account) → Stands a old → (b : Account) × IsWay a es (n + 1) b later × Stands b new)
follow_next es rest later n e old mid new split sum way same stands =
    (omega (arith, sum, shorter), λ a begun. next a (way a begun))
  where
    shorter : length rest ≡ length later + 1
    shorter = let size : length rest ≡ length (e ∷ later) = ap (λ (xs : List Entry). length xs) split in omega (arith, size)

    one : suc n ≡ n + 1
    one = omega arith

    next : (a : Account) → (b : Account) × IsWay a es n b rest × Stands b mid → (b : Account) × IsWay a es (n + 1) b later × Stands b new
    next a there =
        let b = there.0 in
        let longer : IsWay a es (suc n) (after b e.call) later = way_more a es n b e later (subst (IsWay a es n b) split there.1) (same b there.2) in
        (after b e.call, subst (λ (m : ℕ). IsWay a es m (after b e.call) later) one longer, stands b there.2)

-- whether one entry that is left may be the last
pub end_test : (a : Account) (left later : List Entry) (e : Entry) (b : Bool) → left ≡ e ∷ later → length later ≡ 0 → is_fault e.reply ≡ true → IsTrue b ↔ (¬ IsEmpty (change_between a (after a e.call))) → IsTrue b ↔ IsEnd a left
end_test a left later e b split none fault tells =
    subst (λ (xs : List Entry). IsTrue b ↔ IsEnd a xs) (sym split)
    (λ is. (record { fault = fault; changes = tells.0 is }, nothing later none), λ end. tells.1 end.0.changes)
  where
    nothing : (xs : List Entry) → length xs ≡ 0 → xs ≡ []
    nothing [] short = refl
    nothing (x ∷ xs) short = absurd (omega (arith, short))
