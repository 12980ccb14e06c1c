-- Cells, tables of their values, and sums over sessions, as restoring reads them.
use Rattle.std.proofs.Common.{◌≡◌, ◌≢◌, ℕ, zero, suc, ◌+◌, ◌-◌, ◌*◌, ◌^◌, ◌<◌, ◌≤◌, ◌⊎◌, inl, inr, Bool, true, false, ◌&&◌, cond, eqb, ltb, List, [], ◌∷◌, length, get_or, set, take, drop, Option, Some, None, is_some, unwrap_or, refl, sym, ap, subst, ◌∙◌, arith}
use Rattle.std.specs.Prelude.{IsTrue, IsSome, replicate}
use Rattle.std.specs.List.{AllByRecursion}
use Rattle.std.proofs.lemmas.Bool.{cases_eq, cases_lt, eq-eqb, ne_eqb, le-ltb, and_left, and_from, cond-true, cond-false, false≢true}
use Rattle.std.proofs.lemmas.Bool.Decides.{nat_tests}
use Rattle.std.proofs.lemmas.List.{get_or-set_same, get_or-set_other, get_or_default}
use Rattle.session_list.specs.declared.session.Phase.{Phase}
use Rattle.session_list.specs.declared.session.Session.{Session}
use Rattle.admission_model.specs.declared.durable.DurableCell.{DurableCell}
use Rattle.admission_model.specs.Account.{session_total}
use Rattle.admission_model.specs.Durable.{named, is_before, AreRising}
use Rattle.merge_core.specs.declared.cell.Cell.TheVariants.{Fin}
use Rattle.admission_model.specs.Restoring.{stored_at}
use Rattle.admission_model.proofs.SlotLemmas.{high_slot, of_other-no}
use Rattle.admission_core.specs.Restored.{value_in, TellsCells}

-- ---- cells rise

before_trans : (c d e : DurableCell) → is_before c d ≡ true → is_before d e ≡ true → is_before c e ≡ true
before_trans c d e first second = grind (arith, nat_tests)

before_all : (c d : DurableCell) (ds : List DurableCell) → is_before c d ≡ true → AllByRecursion (λ e. IsTrue (is_before d e)) ds → AllByRecursion (λ e. IsTrue (is_before c e)) (d ∷ ds)
before_all c d ds first all = (first, later ds all)
  where
    later : (es : List DurableCell) → AllByRecursion (λ e. IsTrue (is_before d e)) es → AllByRecursion (λ e. IsTrue (is_before c e)) es
    later [] rest = tt
    later (e ∷ es) rest = (before_trans c d e first rest.0, later es rest.1)

pub AreRising-from_neighbours : (cells : List DurableCell) → ((k : ℕ) (d : DurableCell) → suc k < length cells → IsTrue (is_before (get_or cells k d) (get_or cells (suc k) d))) → AreRising cells
AreRising-from_neighbours [] h = tt
AreRising-from_neighbours (c ∷ []) h = (tt, tt)
AreRising-from_neighbours (c ∷ (d ∷ ds)) h =
    let rest = AreRising-from_neighbours (d ∷ ds) (λ k e below. h (suc k) e (omega arith)) in
    let first : is_before c d ≡ true = h 0 c (omega arith) in
    (before_all c d ds first rest.0, rest)

neighbours : (cells : List DurableCell) (k : ℕ) (d : DurableCell) → AreRising cells → suc k < length cells → is_before (get_or cells k d) (get_or cells (suc k) d) ≡ true
neighbours [] k d rising below = absurd (omega arith)
neighbours (c ∷ []) k d rising below = absurd (omega arith)
neighbours (c ∷ (e ∷ es)) zero d rising below = rising.0.0
neighbours (c ∷ (e ∷ es)) (suc k) d rising below = neighbours (e ∷ es) k d rising.1 (omega arith)

-- two neighbours of rising cells
pub before_at : (cells : List DurableCell) (i : ℕ) (d : DurableCell) → 1 ≤ i → i < length cells → AreRising cells → is_before (get_or cells (i - 1) d) (get_or cells i d) ≡ true
before_at cells i d positive below rising =
    let next : suc (i - 1) ≡ i = omega arith in
    ap (λ k. is_before (get_or cells (i - 1) d) (get_or cells k d)) (sym next) ∙ neighbours cells (i - 1) d rising (omega arith)

-- ---- a table of values

pub slot_low : (sites i slot : ℕ) → sites ≤ 16 → IsSome (named sites i slot) → slot < 416
slot_low sites i slot few some = at (cases_lt slot 416)
  where
    at : (slot < 416) ⊎ (416 ≤ slot) → slot < 416
    at (inl low) = low
    at (inr high) =
        let none : named sites i slot ≡ None =
        high_slot sites i slot (omega arith)
        ∙ (cond-false (ltb slot 400) _ _ (le-ltb slot 400 (omega arith)) ∙ of_other-no sites i (slot - 400) Fin (omega arith)) in
        absurd (false≢true (sym (ap is_some none) ∙ some))

get_or-replicate : {X : Type 0} (n k : ℕ) (x : X) → get_or (replicate n x) k x ≡ x
get_or-replicate zero k x = refl
get_or-replicate (suc n) zero x = refl
get_or-replicate (suc n) (suc k) x = get_or-replicate n k x

pub tells_none : (n : ℕ) → TellsCells [] (replicate {A = Option ℕ} n None)
tells_none n r slot low = get_or-replicate n (r * 416 + slot) None

-- a cell that is put takes its own place alone
pub tells_more : (c : DurableCell) (cells : List DurableCell) (table : List (Option ℕ)) (n : ℕ) → length table ≡ n * 416 → c.r < n → c.slot < 416 → TellsCells cells table → TellsCells (c ∷ cells) (set table (c.r * 416 + c.slot) (Some c.value))
tells_more c cells table n size below low tells r slot low_slot = at (cases_eq c.r r) (cases_eq c.slot slot)
  where
    at : (c.r ≡ r) ⊎ (c.r ≡ r → ⊥) → (c.slot ≡ slot) ⊎ (c.slot ≡ slot → ⊥) → value_in (set table (c.r * 416 + c.slot) (Some c.value)) r slot ≡ stored_at (c ∷ cells) r slot
    at (inl e) (inl f) =
        let same : c.r * 416 + c.slot ≡ r * 416 + slot = omega arith in
        ap (λ k. get_or (set table (c.r * 416 + c.slot) (Some c.value)) k None) (sym same)
        ∙ (get_or-set_same table (c.r * 416 + c.slot) (Some c.value) None (omega arith)
        ∙ sym (cond-true (eqb c.r r && eqb c.slot slot) (Some c.value) (stored_at cells r slot) (and_from (eqb c.r r) (eqb c.slot slot) (eq-eqb c.r r e) (eq-eqb c.slot slot f))))
    at (inl e) (inr f) = elsewhere (λ same. f (omega arith)) (and_false (eqb c.r r) (eqb c.slot slot) (ne_eqb c.slot slot f))
      where
        and_false : (a b : Bool) → b ≡ false → (a && b) ≡ false
        and_false true b x = x
        and_false false b x = refl

        elsewhere : (r * 416 + slot ≢ c.r * 416 + c.slot) → (eqb c.r r && eqb c.slot slot) ≡ false → value_in (set table (c.r * 416 + c.slot) (Some c.value)) r slot ≡ stored_at (c ∷ cells) r slot
        elsewhere apart differs =
            get_or-set_other table (c.r * 416 + c.slot) (r * 416 + slot) (Some c.value) None apart
            ∙ (tells r slot low_slot ∙ sym (cond-false (eqb c.r r && eqb c.slot slot) (Some c.value) (stored_at cells r slot) differs))
    at (inr e) f =
        let apart : r * 416 + slot ≢ c.r * 416 + c.slot = λ same. e (omega arith) in
        get_or-set_other table (c.r * 416 + c.slot) (r * 416 + slot) (Some c.value) None apart
        ∙ (tells r slot low_slot
        ∙ sym (cond-false (eqb c.r r && eqb c.slot slot) (Some c.value) (stored_at cells r slot) (and_left (eqb c.r r) (eqb c.slot slot) (ne_eqb c.r r e))))

drop-here : (cells : List DurableCell) (i : ℕ) (c : DurableCell) → i < length cells → c ≡ get_or cells i c → drop i cells ≡ c ∷ drop (suc i) cells
drop-here [] i c below at_c = absurd (omega arith)
drop-here (d ∷ ds) zero c below at_c = ap (λ x. x ∷ ds) (sym at_c)
drop-here (d ∷ ds) (suc i) c below at_c = drop-here ds i c (omega arith) at_c

-- the cells are put from the last one on
pub tells_step : (cells : List DurableCell) (table : List (Option ℕ)) (n k : ℕ) (c : DurableCell) → k < length cells → c ≡ get_or cells (length cells - 1 - k) c → length table ≡ n * 416 → c.r < n → c.slot < 416 → TellsCells (drop (length cells - k) cells) table → TellsCells (drop (length cells - (k + 1)) cells) (set table (c.r * 416 + c.slot) (Some c.value))
tells_step cells table n k c below at_c size there low tells =
    let next : suc (length cells - 1 - k) ≡ length cells - k = omega arith in
    let first : length cells - (k + 1) ≡ length cells - 1 - k = omega arith in
    let whole : drop (length cells - (k + 1)) cells ≡ c ∷ drop (length cells - k) cells =
    ap (λ i. drop i cells) first ∙ (drop-here cells (length cells - 1 - k) c (omega arith) at_c ∙ ap (λ i. c ∷ drop i cells) next) in
    subst (λ (cs : List DurableCell). TellsCells cs (set table (c.r * 416 + c.slot) (Some c.value))) (sym whole)
    (tells_more c (drop (length cells - k) cells) table n size there low tells)

-- .. as they are read
pub tells_read : (cells : List DurableCell) (table : List (Option ℕ)) (n k : ℕ) (d : DurableCell) (p q v : ℕ) → k < length cells → p ≡ (get_or cells (length cells - 1 - k) d).r → q ≡ (get_or cells (length cells - 1 - k) d).slot → v ≡ (get_or cells (length cells - 1 - k) d).value → length table ≡ n * 416 → (get_or cells (length cells - 1 - k) d).r < n → (get_or cells (length cells - 1 - k) d).slot < 416 → TellsCells (drop (length cells - k) cells) table → TellsCells (drop (length cells - (k + 1)) cells) (set table (p * 416 + q) (Some v))
tells_read cells table n k d p q v below at_p at_q at_v size there low tells =
    let c = get_or cells (length cells - 1 - k) d in
    let same : p * 416 + q ≡ c.r * 416 + c.slot = omega arith in
    subst (λ (i : ℕ). TellsCells (drop (length cells - (k + 1)) cells) (set table i (Some v))) (sym same)
    (subst (λ (x : ℕ). TellsCells (drop (length cells - (k + 1)) cells) (set table (c.r * 416 + c.slot) (Some x))) (sym at_v)
    (tells_step cells table n k c below (get_or_default cells (length cells - 1 - k) d c (omega arith)) size there low tells))

pub fits_step : (table : List (Option ℕ)) (i v : ℕ) → v < 2 ^ 64 → ((k : ℕ) → unwrap_or (get_or table k None) 0 < 2 ^ 64) → (k : ℕ) → unwrap_or (get_or (set table i (Some v)) k None) 0 < 2 ^ 64
fits_step table i v fits all k = at (cases_eq k i) (cases_lt i (length table))
  where
    at : (k ≡ i) ⊎ (k ≡ i → ⊥) → (i < length table) ⊎ (length table ≤ i) → unwrap_or (get_or (set table i (Some v)) k None) 0 < 2 ^ 64
    at (inl e) (inl below) =
        let read : unwrap_or (get_or (set table i (Some v)) k None) 0 ≡ v =
        ap (λ j. unwrap_or (get_or (set table i (Some v)) j None) 0) e ∙ ap (λ o. unwrap_or o 0) (get_or-set_same table i (Some v) None below) in
        omega arith
    at (inl e) (inr past) =
        let read : unwrap_or (get_or (set table i (Some v)) k None) 0 ≡ unwrap_or (get_or table k None) 0 = ap (λ t. unwrap_or (get_or t k None) 0) (set_past table i past) in
        let here = all k in
        omega arith
      where
        set_past : (xs : List (Option ℕ)) (j : ℕ) → length xs ≤ j → set xs j (Some v) ≡ xs
        set_past [] j h = refl
        set_past (x ∷ xs) zero h = absurd (omega arith)
        set_past (x ∷ xs) (suc j) h = ap (λ ys. x ∷ ys) (set_past xs j (omega arith))
    at (inr ne) other =
        let read : unwrap_or (get_or (set table i (Some v)) k None) 0 ≡ unwrap_or (get_or table k None) 0 =
        ap (λ o. unwrap_or o 0) (get_or-set_other table i k (Some v) None ne) in
        let here = all k in
        omega arith

-- ---- sums over sessions

total_more : (value : Phase → ℕ) (r : ℕ) (ss : List Session) (k : ℕ) (s : Session) → k < length ss → s ≡ get_or ss k s → session_total value r (take (suc k) ss) ≡ session_total value r (take k ss) + cond (eqb s.r r) (value s.phase) 0
total_more value r [] k s below at_s = absurd (omega arith)
total_more value r (x ∷ xs) zero s below at_s =
    let same : cond (eqb x.r r) (value x.phase) 0 ≡ cond (eqb s.r r) (value s.phase) 0 = ap (λ (y : Session). cond (eqb y.r r) (value y.phase) 0) (sym at_s) in
    omega arith
total_more value r (x ∷ xs) (suc k) s below at_s = omega (arith, total_more value r xs k s (omega arith) at_s)

pub sums_step : (value : ℕ → Phase → ℕ) (n : ℕ) (sums : List ℕ) (ss : List Session) (k : ℕ) (s : Session) → k < length ss → s ≡ get_or ss k s → length sums ≡ n → s.r < n → ((r : ℕ) → r < n → get_or sums r 0 ≡ session_total (value r) r (take k ss)) → (r : ℕ) → r < n → get_or (set sums s.r (get_or sums s.r 0 + value s.r s.phase)) r 0 ≡ session_total (value r) r (take (k + 1) ss)
sums_step value n sums ss k s below at_s size there all r low = at (cases_eq s.r r) ∙ sym (ap (λ i. session_total (value r) r (take i ss)) one ∙ total_more (value r) r ss k s below at_s)
  where
    one : k + 1 ≡ suc k
    one = omega arith

    at : (s.r ≡ r) ⊎ (s.r ≡ r → ⊥) → get_or (set sums s.r (get_or sums s.r 0 + value s.r s.phase)) r 0 ≡ session_total (value r) r (take k ss) + cond (eqb s.r r) (value r s.phase) 0
    at (inl e) =
        let read : get_or (set sums s.r (get_or sums s.r 0 + value s.r s.phase)) r 0 ≡ get_or sums s.r 0 + value s.r s.phase =
        ap (λ i. get_or (set sums s.r (get_or sums s.r 0 + value s.r s.phase)) i 0) (sym e) ∙ get_or-set_same sums s.r (get_or sums s.r 0 + value s.r s.phase) 0 (omega arith) in
        let here : get_or sums s.r 0 ≡ get_or sums r 0 = ap (λ i. get_or sums i 0) e in
        let weighs : value s.r s.phase ≡ value r s.phase = ap (λ i. value i s.phase) e in
        omega (arith, all r low, cond-true {A = ℕ} (eqb s.r r) (value r s.phase) 0 (eq-eqb s.r r e))
    at (inr ne) =
        omega (
          arith,
          get_or-set_other sums s.r r (get_or sums s.r 0 + value s.r s.phase) 0 (λ e. ne (sym e)),
          all r low,
          cond-false {A = ℕ} (eqb s.r r) (value r s.phase) 0 (ne_eqb s.r r ne),
        )

pub few_step : (sums : List ℕ) (i x k : ℕ) → i < length sums → x ≤ 65535 → ((r : ℕ) → get_or sums r 0 ≤ 65535 * k) → (r : ℕ) → get_or (set sums i (get_or sums i 0 + x)) r 0 ≤ 65535 * (k + 1)
few_step sums i x k below small all r = at (cases_eq r i)
  where
    at : (r ≡ i) ⊎ (r ≡ i → ⊥) → get_or (set sums i (get_or sums i 0 + x)) r 0 ≤ 65535 * (k + 1)
    at (inl e) =
        let read : get_or (set sums i (get_or sums i 0 + x)) r 0 ≡ get_or sums i 0 + x =
        ap (λ j. get_or (set sums i (get_or sums i 0 + x)) j 0) e ∙ get_or-set_same sums i (get_or sums i 0 + x) 0 below in
        omega (arith, all i)
    at (inr ne) = omega (arith, all r, get_or-set_other sums i r (get_or sums i 0 + x) 0 ne)

-- .. as they are read
read_place : (sums : List ℕ) (i m : ℕ) → i < length sums → m ≡ get_or sums i m → m ≡ get_or sums i 0
read_place sums i m below at_m = at_m ∙ get_or_default sums i m 0 below

pub few_read : (sums : List ℕ) (i m w k : ℕ) → i < length sums → m ≡ get_or sums i m → w ≤ 65535 → ((r : ℕ) → get_or sums r 0 ≤ 65535 * k) → (r : ℕ) → get_or (set sums i (m + w)) r 0 ≤ 65535 * (k + 1)
few_read sums i m w k below at_m small all r =
    omega (arith, few_step sums i w k below small all r, ap (λ x. get_or (set sums i (x + w)) r 0) (read_place sums i m below at_m))

pub sums_read : (value : ℕ → Phase → ℕ) (n : ℕ) (sums : List ℕ) (ss : List Session) (k : ℕ) (d : Session) (i m w : ℕ) → k < length ss → i ≡ (get_or ss k d).r → m ≡ get_or sums i m → w ≡ value (get_or ss k d).r (get_or ss k d).phase → length sums ≡ n → (get_or ss k d).r < n → ((r : ℕ) → r < n → get_or sums r 0 ≡ session_total (value r) r (take k ss)) → (r : ℕ) → r < n → get_or (set sums i (m + w)) r 0 ≡ session_total (value r) r (take (k + 1) ss)
sums_read value n sums ss k d i m w below at_i at_m at_w size there all r low =
    let s = get_or ss k d in
    let same : set sums i (m + w) ≡ set sums s.r (get_or sums s.r 0 + value s.r s.phase) =
    ap (λ x. set sums i (x + w)) (read_place sums i m (omega arith) at_m)
    ∙ (ap (λ x. set sums i (get_or sums i 0 + x)) at_w ∙ ap (λ j. set sums j (get_or sums j 0 + value s.r s.phase)) at_i) in
    ap (λ xs. get_or xs r 0) same ∙ sums_step value n sums ss k s below (get_or_default ss k d s below) size there all r low

-- no session is of a record that is not there
pub total_none : (value : Phase → ℕ) (n r : ℕ) (ss : List Session) → AllByRecursion (λ s. s.r < n) ss → n ≤ r → session_total value r ss ≡ 0
total_none value n r [] all past = refl
total_none value n r (s ∷ ss) all past =
    omega (arith, total_none value n r ss all.1 past, cond-false {A = ℕ} (eqb s.r r) (value s.phase) 0 (ne_eqb s.r r (λ e. absurd (omega (arith, all.0)))))
