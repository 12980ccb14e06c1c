-- The receipts that logs have of passes, and how many passes have together.
use Rattle.std.proofs.Common.{◌≡◌, ◌≢◌, ℕ, zero, suc, ◌+◌, ◌<◌, ◌≤◌, Bool, true, false, cond, eqb, List, [], ◌∷◌, ◌++◌, length, get_or, take, drop, refl, sym, ap, ◌∙◌, subst, take-append-drop, arith}
use Rattle.std.proofs.lemmas.Bool.{cond-true, eq-eqb}
use Rattle.std.proofs.lemmas.List.{take_more, at_drop_more}
use Rattle.desk_log.specs.declared.entry.Entry.{Entry}
use Rattle.session_book.specs.declared.pass.Receipt.{Receipt}
use Rattle.session_book.specs.Passes.{PassState, receipts_of, receipts_in, IsFirstOther}

-- the receipts of two parts of a log
pub receipts_of-append : (n : ℕ) (xs ys : List Entry) → receipts_of n (xs ++ ys) ≡ receipts_of n xs ++ receipts_of n ys
receipts_of-append n [] ys = refl
receipts_of-append n (x ∷ xs) ys = at (eqb x.pass n) (receipts_of-append n xs ys)
  where
    r : Receipt
    r = record { call = x.call; reply = x.reply }

    at : (b : Bool) → receipts_of n (xs ++ ys) ≡ receipts_of n xs ++ receipts_of n ys → cond b (r ∷ receipts_of n (xs ++ ys)) (receipts_of n (xs ++ ys)) ≡ cond b (r ∷ receipts_of n xs) (receipts_of n xs) ++ receipts_of n ys
    at true rest = ap (λ (rs : List Receipt). r ∷ rs) rest
    at false rest = rest

-- one more entry is followed
pub receipts_more : (n i next after : ℕ) (es : List Entry) (e : Entry) (rs : List Receipt) → i < length es → e ≡ get_or es i e → receipts_of n (take i es) ≡ take next rs → take after rs ≡ take next rs ++ receipts_of n (e ∷ []) → receipts_of n (take (i + 1) es) ≡ take after rs
receipts_more n i next after es e rs below is so_far more =
    ap (receipts_of n) (take_more es i e below)
    ∙ (receipts_of-append n (take i es) (get_or es i e ∷ [])
    ∙ (ap (λ (x : List Receipt). x ++ receipts_of n (get_or es i e ∷ [])) so_far
    ∙ (ap (λ (x : Entry). take next rs ++ receipts_of n (x ∷ [])) (sym is) ∙ sym more)))

-- the receipts of a whole log, by those before an entry and those from there on
whole_receipts : (n i next : ℕ) (es : List Entry) (e : Entry) (rs : List Receipt) → i < length es → e ≡ get_or es i e → receipts_of n (take i es) ≡ take next rs
    → receipts_of n es ≡ take next rs ++ receipts_of n (e ∷ drop (i + 1) es)
whole_receipts n i next es e rs below is so_far =
    let behind = drop (i + 1) es in
    let whole : es ≡ take i es ++ e ∷ behind =
    sym (take-append-drop i es) ∙ (at_drop_more (λ (ds : List Entry). take i es ++ ds) es i e below ∙ ap (λ (x : Entry). take i es ++ x ∷ behind) (sym is)) in
    ap (receipts_of n) whole ∙ (receipts_of-append n (take i es) (e ∷ behind) ∙ ap (λ (x : List Receipt). x ++ receipts_of n (e ∷ behind)) so_far)

-- a log whose next entry is another has other receipts
pub other_receipts : (n i next : ℕ) (es : List Entry) (e : Entry) (rs : List Receipt) → i < length es → e ≡ get_or es i e → receipts_of n (take i es) ≡ take next rs → ((rest : List Entry) → take next rs ++ receipts_of n (e ∷ rest) ≢ rs) → receipts_of n es ≢ rs
other_receipts n i next es e rs below is so_far other same =
    other (drop (i + 1) es) (sym (whole_receipts n i next es e rs below is so_far) ∙ same)

-- a list of receipts is alike up to its end
alike_to_end : (rs : List Receipt) → IsFirstOther rs rs (length rs)
alike_to_end [] = refl
alike_to_end (r ∷ rs) = (refl, alike_to_end rs)

-- a log that has the receipts of a pass, and no other
pub all_alike : (qs rs ps : List Receipt) → qs ≡ rs → ps ≡ rs → IsFirstOther qs rs (length ps)
all_alike qs rs ps same all =
    subst (λ (xs : List Receipt). IsFirstOther xs rs (length ps)) (sym same)
    (subst (λ (xs : List Receipt). IsFirstOther rs rs (length xs)) (sym all) (alike_to_end rs))

-- the front of a list is alike as far as it goes
pub front_first : (next : ℕ) (rs : List Receipt) → next ≤ length rs → IsFirstOther (take next rs) rs next
front_first zero [] few = refl
front_first zero (r ∷ rs) few = refl
front_first (suc next) [] few = absurd (omega (arith, few))
front_first (suc next) (r ∷ rs) few = (refl, front_first next rs (omega (arith, few)))

-- whatever comes behind all of a list
pub past_first : (next : ℕ) (rs qs : List Receipt) → next ≡ length rs → IsFirstOther (take next rs ++ qs) rs next
past_first zero [] qs all = refl
past_first zero (r ∷ rs) qs all = absurd (omega (arith, all))
past_first (suc next) [] qs all = absurd (omega (arith, all))
past_first (suc next) (r ∷ rs) qs all = (refl, past_first next rs qs (omega (arith, all)))

-- another receipt in the place of one
pub other_first : (next : ℕ) (rs qs : List Receipt) (q r : Receipt) → next < length rs → r ≡ get_or rs next r → q ≢ r → IsFirstOther (take next rs ++ q ∷ qs) rs next
other_first next [] qs q r below there other = absurd (omega (arith, below))
other_first zero (p ∷ rs) qs q r below there other = λ same. other (same ∙ sym there)
other_first (suc next) (p ∷ rs) qs q r below there other = (refl, other_first next rs qs q r (omega (arith, below)) there other)

-- the receipt of an entry of the pass
pub receipts_here : (n : ℕ) (e : Entry) (es : List Entry) → e.pass ≡ n → receipts_of n (e ∷ es) ≡ record { call = e.call; reply = e.reply } ∷ receipts_of n es
receipts_here n e es is =
    cond-true (eqb e.pass n) (record { call = e.call; reply = e.reply } ∷ receipts_of n es) (receipts_of n es) (eq-eqb e.pass n is)

-- a log whose next entry is another differs there
pub log_first : (n i next : ℕ) (es : List Entry) (e : Entry) (rs : List Receipt) → i < length es → e ≡ get_or es i e → receipts_of n (take i es) ≡ take next rs
    → ((rest : List Entry) → IsFirstOther (take next rs ++ receipts_of n (e ∷ rest)) rs next) → IsFirstOther (receipts_of n es) rs next
log_first n i next es e rs below is so_far first =
    subst (λ (qs : List Receipt). IsFirstOther qs rs next) (sym (whole_receipts n i next es e rs below is so_far)) (first (drop (i + 1) es))

-- the last pass counts too
pub receipts_in-push : (ps : List PassState) (p : PassState) → receipts_in (ps ++ p ∷ []) ≡ receipts_in ps + length p.receipts
receipts_in-push [] p = omega arith
receipts_in-push (q ∷ ps) p = omega (arith, receipts_in-push ps p)
