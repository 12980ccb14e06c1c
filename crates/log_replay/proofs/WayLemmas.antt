-- Entries that are answered as in the model, from one account to another.
use Rattle.std.proofs.Common.{◌≡◌, ℕ, zero, suc, ◌+◌, ◌≤◌, inl, inr, List, [], ◌∷◌, ◌++◌, length, take, drop, refl, sym, ap, subst, ◌∙◌, arith}
use Rattle.admission_model.specs.Account.{Account}
use Rattle.admission_model.specs.View.{view_of}
use Rattle.admission_model.specs.Serving.{after, reply_of}
use Rattle.admission_model.proofs.ServingLemmas.{origin_after, sites_after}
use Rattle.desk_log.specs.declared.entry.Entry.{Entry}
use Rattle.desk_log.specs.Log.{after_entry, account_after, account_tried, IsLegal}
use Rattle.desk_log.proofs.LogLemmas.{after_answered, after_doubted}
use Rattle.log_replay.specs.Legal.{IsFirstBad}
use Rattle.log_replay.specs.Replay.{IsWay, IsStop, IsEnd, tried_at}

-- one entry more
pub way_more : (a : Account) (es : List Entry) (n : ℕ) (b : Account) (e : Entry) (later : List Entry) → IsWay a es n b (e ∷ later) → e.reply ≡ reply_of (view_of b) e.call → IsWay a es (suc n) (after b e.call) later
way_more a es zero b e later way is =
    let start : IsWay a (e ∷ later) (suc zero) (after b e.call) later = (subst (λ (x : Account). e.reply ≡ reply_of (view_of x) e.call) way.0 is, (ap (λ (x : Account). after x e.call) way.0, refl)) in
    subst (λ (xs : List Entry). IsWay a xs (suc zero) (after b e.call) later) way.1 start
way_more a [] (suc n) b e later way is = absurd way
way_more a (x ∷ es) (suc n) b e later way is = (way.0, way_more (after a x.call) es n b e later way.1 is)

-- the first entries, and then those behind them
pub way_over : (a : Account) (es : List Entry) (k n m t : ℕ) (b c : Account) (rest : List Entry) → t ≡ k + m → k ≤ length es → IsWay a (take k es) n b [] → IsWay b (drop k es) m c rest → IsWay a es t c rest
way_over a es zero zero m t b c rest sum fits way more =
    let same : m ≡ t = omega (arith, sum) in
    subst (λ (q : ℕ). IsWay a es q c rest) same (subst (λ (x : Account). IsWay x es m c rest) way.0 more)
way_over a es zero (suc n) m t b c rest sum fits way more = absurd way
way_over a [] (suc k) n m t b c rest sum fits way more = absurd (omega (arith, fits))
way_over a (e ∷ es) (suc k) zero m t b c rest sum fits way more = absurd (let wrong = way.1 in cc)
way_over a (e ∷ es) (suc k) (suc n) m zero b c rest sum fits way more = absurd (omega (arith, sum))
way_over a (e ∷ es) (suc k) (suc n) m (suc t) b c rest sum fits way more = (way.0, way_over (after a e.call) es k n m t b c rest (omega (arith, sum)) (omega (arith, fits)) way.1 more)

-- what is left of the first entries stands before those behind them
pub way_less : (a : Account) (es : List Entry) (k n : ℕ) (b : Account) (left : List Entry) → IsWay a (take k es) n b left → IsWay a es n b (left ++ drop k es)
way_less a es k zero b left way = (way.0, ap (λ (xs : List Entry). xs ++ drop k es) way.1 ∙ whole k es)
  where
    whole : (k : ℕ) (xs : List Entry) → take k xs ++ drop k xs ≡ xs
    whole zero xs = refl
    whole (suc k) [] = refl
    whole (suc k) (x ∷ xs) = ap (λ (ys : List Entry). x ∷ ys) (whole k xs)
way_less a es zero (suc n) b left way = absurd way
way_less a [] (suc k) (suc n) b left way = absurd way
way_less a (e ∷ es) (suc k) (suc n) b left way = (way.0, way_less (after a e.call) es k n b left way.1)

-- what is left
pub way_drop : (a : Account) (es : List Entry) (n : ℕ) (b : Account) (rest : List Entry) → IsWay a es n b rest → rest ≡ drop n es
way_drop a es zero b rest way = way.1
way_drop a [] (suc n) b rest way = absurd way
way_drop a (e ∷ es) (suc n) b rest way = way_drop (after a e.call) es n b rest way.1

pub way_length : (a : Account) (es : List Entry) (n : ℕ) (b : Account) (rest : List Entry) → IsWay a es n b rest → n + length rest ≡ length es
way_length a es zero b rest way = let same : length rest ≡ length es = ap (λ (xs : List Entry). length xs) way.1 in omega (arith, same)
way_length a [] (suc n) b rest way = absurd way
way_length a (e ∷ es) (suc n) b rest way = let shorter = way_length (after a e.call) es n b rest way.1 in omega (arith, shorter)

-- the account where it ends
pub way_account : (a : Account) (es : List Entry) (n : ℕ) (b : Account) (rest : List Entry) → IsWay a es n b rest → account_after a (take n es) ≡ b
way_account a es zero b rest way = sym way.0
way_account a [] (suc n) b rest way = absurd way
way_account a (e ∷ es) (suc n) b rest way =
    ap (λ (x : Account). account_after x (take n es)) (after_answered a e way.0) ∙ way_account (after a e.call) es n b rest way.1

-- it leads to the same beginning and number of sites
pub way_origin : (a : Account) (es : List Entry) (n : ℕ) (b : Account) (rest : List Entry) → IsWay a es n b rest → b.origin ≡ a.origin
way_origin a es zero b rest way = ap (λ (x : Account). x.origin) way.0
way_origin a [] (suc n) b rest way = absurd way
way_origin a (e ∷ es) (suc n) b rest way = way_origin (after a e.call) es n b rest way.1 ∙ origin_after a e.call

pub way_sites : (a : Account) (es : List Entry) (n : ℕ) (b : Account) (rest : List Entry) → IsWay a es n b rest → b.sites ≡ a.sites
way_sites a es zero b rest way = ap (λ (x : Account). x.sites) way.0
way_sites a [] (suc n) b rest way = absurd way
way_sites a (e ∷ es) (suc n) b rest way = way_sites (after a e.call) es n b rest way.1 ∙ sites_after a e.call

-- entries that end so are legal
ends_legal : (b : Account) (rest : List Entry) → IsEnd b rest → IsLegal b rest
ends_legal b [] end = tt
ends_legal b (e ∷ later) end = inr (end.0, end.1)

pub way_legal : (a : Account) (es : List Entry) (n : ℕ) (b : Account) (rest : List Entry) → IsWay a es n b rest → IsEnd b rest → IsLegal a es
way_legal a es zero b rest way end =
    let here : IsLegal b es = subst (IsLegal b) way.1 (ends_legal b rest end) in
    subst (λ (x : Account). IsLegal x es) way.0 here
way_legal a [] (suc n) b rest way end = absurd way
way_legal a (e ∷ es) (suc n) b rest way end = inl (way.0, way_legal (after a e.call) es n b rest way.1 end)

-- where they can't end so, the first one that is left can't stand
stops_bad : (b : Account) (rest : List Entry) → IsStop b rest → (¬ IsEnd b rest) → IsFirstBad b rest 0
stops_bad b [] stop no_end = absurd (no_end tt)
stops_bad b (e ∷ later) stop no_end = record { other_reply = stop; no_doubt = no_end }

pub way_bad : (a : Account) (es : List Entry) (n : ℕ) (b : Account) (rest : List Entry) → IsWay a es n b rest → IsStop b rest → (¬ IsEnd b rest) → IsFirstBad a es n
way_bad a es zero b rest way stop no_end =
    let here : IsFirstBad b es 0 = subst (λ (xs : List Entry). IsFirstBad b xs 0) way.1 (stops_bad b rest stop no_end) in
    subst (λ (x : Account). IsFirstBad x es 0) way.0 here
way_bad a [] (suc n) b rest way stop no_end = absurd way
way_bad a (e ∷ es) (suc n) b rest way stop no_end = (way.0, way_bad (after a e.call) es n b rest way.1 stop no_end)

-- the account without and with the call in doubt
ends_answered : (b : Account) (rest : List Entry) → IsEnd b rest → account_after b rest ≡ b
ends_answered b [] end = refl
ends_answered b (e ∷ later) end =
    ap (λ (xs : List Entry). account_after (after_entry b e) xs) end.1 ∙ after_doubted b e end.0.fault

pub way_answered : (a : Account) (es : List Entry) (n : ℕ) (b : Account) (rest : List Entry) → IsWay a es n b rest → IsEnd b rest → account_after a es ≡ b
way_answered a es zero b rest way end =
    ap (λ (x : Account). account_after x es) (sym way.0) ∙ (ap (account_after b) (sym way.1) ∙ ends_answered b rest end)
way_answered a [] (suc n) b rest way end = absurd way
way_answered a (e ∷ es) (suc n) b rest way end =
    ap (λ (x : Account). account_after x es) (after_answered a e way.0) ∙ way_answered (after a e.call) es n b rest way.1 end

ends_tried : (b : Account) (rest : List Entry) → IsEnd b rest → account_tried b rest ≡ tried_at b rest
ends_tried b [] end = refl
ends_tried b (e ∷ later) end = ap (account_tried (after b e.call)) end.1

pub way_tried : (a : Account) (es : List Entry) (n : ℕ) (b : Account) (rest : List Entry) → IsWay a es n b rest → IsEnd b rest → account_tried a es ≡ tried_at b rest
way_tried a es zero b rest way end =
    ap (λ (x : Account). account_tried x es) (sym way.0) ∙ (ap (account_tried b) (sym way.1) ∙ ends_tried b rest end)
way_tried a [] (suc n) b rest way end = absurd way
way_tried a (e ∷ es) (suc n) b rest way end = way_tried (after a e.call) es n b rest way.1 end

-- what stops a shorter list stops a longer one
pub stop_longer : (b : Account) (left later : List Entry) → 1 ≤ length left → IsStop b left → IsStop b (left ++ later)
stop_longer b [] later some stop = absurd (omega (arith, some))
stop_longer b (e ∷ left) later some stop = stop

-- an end has at most one entry
pub end_short : (b : Account) (rest : List Entry) → IsEnd b rest → length rest ≤ 1
end_short b [] end = omega arith
end_short b (e ∷ later) end = let none : length later ≡ 0 = ap (λ (xs : List Entry). length xs) end.1 in omega (arith, none)
