-- A log with one more entry.
use Rattle.std.proofs.Common.{◌≡◌, inl, inr, Bool, true, false, List, [], ◌∷◌, ◌++◌, refl, sym, ap, subst, ◌∙◌}
use Rattle.std.proofs.lemmas.Bool.{cond-true, cond-false}
use Rattle.admission_model.specs.Account.{Account}
use Rattle.admission_model.specs.View.{view_of}
use Rattle.admission_model.specs.Serving.{after, reply_of}
use Rattle.desk_log.specs.declared.entry.Entry.{Entry}
use Rattle.desk_log.specs.Log.{is_fault, ends_in_fault, after_entry, account_after, account_tried, IsLegal}
use Rattle.desk_log.proofs.ReplyLemmas.{model_fault}

-- the last entry tells whether a log ends in the store's fault
pub ends-push : (b : Bool) (es : List Entry) (e : Entry) → ends_in_fault b (es ++ e ∷ []) ≡ is_fault e.reply
ends-push b [] e = refl
ends-push b (x ∷ es) e = ends-push (is_fault x.reply) es e

pub after-push : (a : Account) (es : List Entry) (e : Entry) → account_after a (es ++ e ∷ []) ≡ after_entry (account_after a es) e
after-push a [] e = refl
after-push a (x ∷ es) e = after-push (after_entry a x) es e

pub tried-push : (a : Account) (es : List Entry) (e : Entry) → account_tried a (es ++ e ∷ []) ≡ after (account_tried a es) e.call
tried-push a [] e = refl
tried-push a (x ∷ es) e = tried-push (after a x.call) es e

-- after the model's reply the account is the one after the call
pub after_answered : (a : Account) (e : Entry) → e.reply ≡ reply_of (view_of a) e.call → after_entry a e ≡ after a e.call
after_answered a e is = cond-false (is_fault e.reply) a (after a e.call) (ap is_fault is ∙ model_fault (view_of a) e.call)

-- after a fault it stays
pub after_doubted : (a : Account) (e : Entry) → is_fault e.reply ≡ true → after_entry a e ≡ a
after_doubted a e is = cond-true (is_fault e.reply) a (after a e.call) is

-- a legal log that does not end in a fault stays legal with a legal entry
pub legal-push : (a : Account) (b : Bool) (es : List Entry) (e : Entry) → IsLegal a es → ends_in_fault b es ≡ false → IsLegal (account_after a es) (e ∷ []) → IsLegal a (es ++ e ∷ [])
legal-push a b [] e legal runs last = last
legal-push a b (x ∷ es) e (inl (is, rest)) runs last =
    let same = after_answered a x is in
    inl (is, legal-push (after a x.call) (is_fault x.reply) es e rest runs (subst (λ (y : Account). IsLegal (account_after y es) (e ∷ [])) same last))
legal-push a b (x ∷ es) e (inr (doubt, none)) runs last =
    let both : true ≡ false = sym doubt.fault ∙ (sym (ap (ends_in_fault (is_fault x.reply)) none) ∙ runs) in
    absurd (cc)

-- where a legal log does not end in a fault, each call was kept
pub same_accounts : (a : Account) (b : Bool) (es : List Entry) → IsLegal a es → ends_in_fault b es ≡ false → account_tried a es ≡ account_after a es
same_accounts a b [] legal runs = refl
same_accounts a b (x ∷ es) (inl (is, rest)) runs =
    same_accounts (after a x.call) (is_fault x.reply) es rest runs ∙ ap (λ (y : Account). account_after y es) (sym (after_answered a x is))
same_accounts a b (x ∷ es) (inr (doubt, none)) runs =
    let both : true ≡ false = sym doubt.fault ∙ (sym (ap (ends_in_fault (is_fault x.reply)) none) ∙ runs) in
    absurd (cc)

-- in a legal log a fault is the last reply
pub fault_last : (a : Account) (earlier later : List Entry) (e : Entry) → IsLegal a (earlier ++ e ∷ later) → is_fault e.reply ≡ true → later ≡ []
fault_last a [] later e (inl (is, rest)) fault =
    let both : true ≡ false = sym fault ∙ (ap is_fault is ∙ model_fault (view_of a) e.call) in
    absurd (cc)
fault_last a [] later e (inr (doubt, none)) fault = none
fault_last a (x ∷ es) later e (inl (is, rest)) fault = fault_last (after a x.call) es later e rest fault
fault_last a (x ∷ es) later e (inr (doubt, none)) fault = absurd (no_entry es none)
  where
    no_entry : (ys : List Entry) → ys ++ e ∷ later ≡ [] → ⊥
    no_entry [] same = cc
    no_entry (y ∷ ys) same = cc
