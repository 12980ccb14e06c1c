-- Thin rows: what the code's one pass finds, and what a book that took the earlier rows is told by them.
use Rattle.std.proofs.Common.{◌≡◌, ℕ, zero, suc, ◌+◌, ◌<◌, ◌≤◌, ◌⊎◌, inl, inr, max, Bool, true, false, not, ◌&&◌, ◌||◌, ◌==◌, cond, List, [], ◌∷◌, ◌++◌, length, get_or, take, filter, refl, sym, ap, ◌∙◌, subst, arith, eqb-true}
use Rattle.std.specs.List.{list_any, AllByRecursion}
use Rattle.std.specs.Str.{bytes_eq}
use Rattle.std.proofs.lemmas.Bool.{cases_Bool, false≢true, and_parts, cond-true, cond-false, cases_lt}
use Rattle.std.proofs.lemmas.Slice.Eq.{bytes_eq-Decides}
use Rattle.std.proofs.lemmas.List.{take_more, get_or_default}
use Rattle.std.proofs.lemmas.List.Elements.{filter-append}
use Rattle.merge_core.specs.declared.cell.Cell.{Cell}
use Rattle.merge_core.specs.declared.cell.Cell.TheVariants.{Out, Taken, Ann, Fin}
use Rattle.merge_core.specs.declared.delta.Row.{Row}
use Rattle.merge_core.specs.Layout.{Shape}
use Rattle.merge_core.specs.Delta.{ComesBefore, IsRising, IsRow, DeltaState, IsDelta}
use Rattle.merge_core.specs.Rows.{start_counter, counter_in, counters_of}
use Rattle.merge_core.specs.Naming.{shown_by}
use Rattle.merge_core.specs.Thin.{is_same_row, is_same_in, thin_rows}
use Rattle.merge_core.proofs.RowLemmas.{ComesBefore-trans, IsRising-at}
use Rattle.merge_core.proofs.ShownLemmas.{stands_at, shown_by-absent}

-- two rows that are the same
record AreSame (p q : Row) : Type 0 where
  pub same_record : p.r ≡ q.r
  pub same_site : p.s ≡ q.s
  pub counters : (cell : Cell) → counter_in (counters_of p) cell ≡ counter_in (counters_of q) cell

same_parts : (p q : Row) → is_same_row p q ≡ true → AreSame p q
same_parts p q e =
    let p0 = and_parts (p.r == q.r) ((p.s == q.s) && (bytes_eq p.out q.out && ((p.taken == q.taken) && ((p.ann == q.ann) && (p.fin == q.fin))))) e in
    let p1 = and_parts (p.s == q.s) (bytes_eq p.out q.out && ((p.taken == q.taken) && ((p.ann == q.ann) && (p.fin == q.fin)))) p0.1 in
    let p2 = and_parts (bytes_eq p.out q.out) ((p.taken == q.taken) && ((p.ann == q.ann) && (p.fin == q.fin))) p1.1 in
    let p3 = and_parts (p.taken == q.taken) ((p.ann == q.ann) && (p.fin == q.fin)) p2.1 in
    let p4 = and_parts (p.ann == q.ann) (p.fin == q.fin) p3.1 in
    record {
      same_record = eqb-true p.r q.r p0.0;
      same_site = eqb-true p.s q.s p1.0;
      counters = at (outs p2.0) (eqb-true p.taken q.taken p3.0) (eqb-true p.ann q.ann p4.0) (eqb-true p.fin q.fin p4.1);
    }
  where
    outs : bytes_eq p.out q.out ≡ true → p.out ≡ q.out
    outs same = (bytes_eq-Decides p.out q.out).0 same

    at : p.out ≡ q.out → p.taken ≡ q.taken → p.ann ≡ q.ann → p.fin ≡ q.fin → (cell : Cell) → counter_in (counters_of p) cell ≡ counter_in (counters_of q) cell
    at out taken ann fin (Out j) = ap (λ (xs : List ℕ). get_or xs j 0) out
    at out taken ann fin Taken = taken
    at out taken ann fin Ann = ann
    at out taken ann fin Fin = fin

-- a row that comes before another is not the same
same_place : (q p x : Row) → ComesBefore q x → p.r ≡ x.r → p.s ≡ x.s → ComesBefore q p
same_place q p x (inl before) record_same site_same = inl (omega arith)
same_place q p x (inr before) record_same site_same = inr (omega arith, omega arith)

not_before_itself : (p : Row) → ComesBefore p p → ⊥
not_before_itself p (inl before) = omega arith
not_before_itself p (inr before) = omega arith

-- no row behind q is the same as one that q does not come before
none_later : (p q : Row) (qs : List Row) → ¬ ComesBefore q p → AllByRecursion (ComesBefore q) qs → list_any (is_same_row p) qs ≡ false
none_later p q [] here all = refl
none_later p q (x ∷ xs) here all = at (cases_Bool (is_same_row p x)) (none_later p q xs here all.1)
  where
    at : (is_same_row p x ≡ true) ⊎ (is_same_row p x ≡ false) → list_any (is_same_row p) xs ≡ false → (is_same_row p x || list_any (is_same_row p) xs) ≡ false
    at (inl e) rest = let same = same_parts p x e in absurd (here (same_place q p x all.0 same.same_record same.same_site))
    at (inr e) rest = rw (e, rest) refl

or_none : (a b : Bool) → b ≡ false → (a || b) ≡ a
or_none true b e = refl
or_none false b e = e

-- in rising rows the first row that does not come before p is the only one that can be the same
pub any_at : (rows : List Row) (n : ℕ) (p : Row) → IsRising rows → ((k : ℕ) (d : Row) → k < n → ComesBefore (get_or rows k d) p) → ((d : Row) → n < length rows → ¬ ComesBefore (get_or rows n d) p) → n ≤ length rows → list_any (is_same_row p) rows ≡ is_same_in rows n p
any_at [] n p rising passed here within = refl
any_at (q ∷ qs) zero p rising passed here within =
    or_none (is_same_row p q) (list_any (is_same_row p) qs) (none_later p q qs (here p (omega arith)) rising.0)
any_at (q ∷ qs) (suc n) p rising passed here within =
    at (cases_Bool (is_same_row p q))
    (any_at qs n p rising.1 (λ k d below. passed (suc k) d (omega arith)) (λ d below. here d (omega arith)) (omega arith))
  where
    at : (is_same_row p q ≡ true) ⊎ (is_same_row p q ≡ false) → list_any (is_same_row p) qs ≡ is_same_in qs n p → (is_same_row p q || list_any (is_same_row p) qs) ≡ is_same_in qs n p
    at (inl e) rest =
        let same = same_parts p q e in
        let before : ComesBefore q p = passed 0 p (omega arith) in
        absurd (not_before_itself q (same_place q q p before (sym same.same_record) (sym same.same_site)))
    at (inr e) rest = rw e rest

-- a row that was read
pub is_same_in-read : (rows : List Row) (i : ℕ) (p q : Row) → i < length rows → q ≡ get_or rows i q → is_same_row p q ≡ is_same_in rows i p
is_same_in-read [] i p q below read = absurd (omega arith)
is_same_in-read (x ∷ xs) zero p q below read = ap (is_same_row p) read
is_same_in-read (x ∷ xs) (suc i) p q below read = is_same_in-read xs i p q (omega arith) read

pub is_same_in-past : (rows : List Row) (i : ℕ) (p : Row) → length rows ≤ i → false ≡ is_same_in rows i p
is_same_in-past [] i p past = refl
is_same_in-past (x ∷ xs) zero p past = absurd (omega arith)
is_same_in-past (x ∷ xs) (suc i) p past = is_same_in-past xs i p (omega arith)

-- ---- one pass over both

-- every row of the earlier ones below n comes before every row from i on
abbrev pub ArePast : List Row → ℕ → List Row → ℕ → Type 0
ArePast earlier n rows i =
    (k m : ℕ) (d : Row) → k < n → i ≤ m → m < length rows → ComesBefore (get_or earlier k d) (get_or rows m d)

pub ArePast-step : (earlier rows : List Row) (n next i : ℕ) (p : Row) → IsRising rows → i < length rows → p ≡ get_or rows i p → ArePast earlier n rows i → ((k : ℕ) (d : Row) → n ≤ k → k < next → ComesBefore (get_or earlier k d) p) → ArePast earlier next rows (i + 1)
ArePast-step earlier rows n next i p rising below read past passed k m d under above inside = at (cases_lt k n)
  where
    here : get_or rows i d ≡ p
    here = sym (get_or_default rows i p d below) ∙ sym read

    onward : ComesBefore (get_or rows i d) (get_or rows m d)
    onward = IsRising-at rows i m d rising (omega arith) inside

    at : (k < n) ⊎ (n ≤ k) → ComesBefore (get_or earlier k d) (get_or rows m d)
    at (inl old) = past k m d old (omega arith) inside
    at (inr new) =
        ComesBefore-trans (get_or earlier k d) p (get_or rows m d) (passed k d new under)
        (subst (λ (x : Row). ComesBefore x (get_or rows m d)) here onward)

-- one row more
pub thin_rows-more : (rows earlier : List Row) (i : ℕ) (p : Row) → i < length rows → p ≡ get_or rows i p → thin_rows (take (i + 1) rows) earlier ≡ thin_rows (take i rows) earlier ++ cond (list_any (is_same_row p) earlier) [] (p ∷ [])
thin_rows-more rows earlier i p below read =
    ap (λ (qs : List Row). thin_rows qs earlier) one_more
    ∙ (filter-append (λ q. not (list_any (is_same_row q) earlier)) (take i rows) (p ∷ []) ∙ ap (λ (qs : List Row). thin_rows (take i rows) earlier ++ qs) (kept_one (list_any (is_same_row p) earlier)))
  where
    one_more : take (i + 1) rows ≡ take i rows ++ p ∷ []
    one_more = rw read (take_more rows i p below)

    kept_one : (b : Bool) → cond (not b) (p ∷ []) [] ≡ cond b [] (p ∷ [])
    kept_one true = refl
    kept_one false = refl

-- ---- thin rows are a delta's

all_kept : (P : Row → Type 0) (b : Bool) (x : Row) (rest : List Row) → P x → AllByRecursion P rest → AllByRecursion P (cond b (x ∷ rest) rest)
all_kept P true x rest first all = (first, all)
all_kept P false x rest first all = all

all_filter : (P : Row → Type 0) (test : Row → Bool) (xs : List Row) → AllByRecursion P xs → AllByRecursion P (filter test xs)
all_filter P test [] all = tt
all_filter P test (x ∷ xs) all = all_kept P (test x) x (filter test xs) all.0 (all_filter P test xs all.1)

rising_kept : (b : Bool) (x : Row) (rest : List Row) → AllByRecursion (ComesBefore x) rest → IsRising rest → IsRising (cond b (x ∷ rest) rest)
rising_kept true x rest before rising = (before, rising)
rising_kept false x rest before rising = rising

rising_filter : (test : Row → Bool) (xs : List Row) → IsRising xs → IsRising (filter test xs)
rising_filter test [] rising = tt
rising_filter test (x ∷ xs) rising =
    rising_kept (test x) x (filter test xs) (all_filter (ComesBefore x) test xs rising.0) (rising_filter test xs rising.1)

pub IsDelta-thin : (d : DeltaState) (earlier : List Row) → IsDelta d → IsDelta (record { from = d.from; rows = thin_rows d.rows earlier })
IsDelta-thin d earlier is = record {
  from_site = is.from_site;
  rising = rising_filter (λ p. not (list_any (is_same_row p) earlier)) d.rows is.rising;
  rows = all_filter IsRow (λ p. not (list_any (is_same_row p) earlier)) d.rows is.rows;
}

-- ---- what a book that took the earlier rows is told

-- rows behind p show the start at p's place
apart_from : (p : Row) (ps : List Row) (r s : ℕ) → stands_at p r s ≡ true → AllByRecursion (ComesBefore p) ps → AllByRecursion (λ q. stands_at q r s ≡ false) ps
apart_from p [] r s here all = tt
apart_from p (q ∷ qs) r s here all = (at (stands_at q r s) refl, apart_from p qs r s here all.1)
  where
    parts : (p.r ≡ r) × (p.s ≡ s)
    parts = let two = and_parts (p.r == r) (p.s == s) here in (eqb-true p.r r two.0, eqb-true p.s s two.1)

    at : (b : Bool) → stands_at q r s ≡ b → stands_at q r s ≡ false
    at false e = e
    at true e =
        let two = and_parts (q.r == r) (q.s == s) e in
        absurd (not_before_itself p (same_place p p q all.0 (parts.0 ∙ sym (eqb-true q.r r two.0)) (parts.1 ∙ sym (eqb-true q.s s two.1))))

-- rows of which one is the same as p show p's counters at its place
shown_same : (shape : Shape) (p : Row) (rows : List Row) (r s : ℕ) (cell : Cell) → IsRising rows → stands_at p r s ≡ true → list_any (is_same_row p) rows ≡ true → shown_by shape rows r s cell ≡ counter_in (counters_of p) cell
shown_same shape p [] r s cell rising here some = cc
shown_same shape p (q ∷ qs) r s cell rising here some = at (cases_Bool (is_same_row p q)) (cases_Bool (stands_at q r s)) (shown_same shape p qs r s cell rising.1 here)
  where
    parts : (p.r ≡ r) × (p.s ≡ s)
    parts = let two = and_parts (p.r == r) (p.s == s) here in (eqb-true p.r r two.0, eqb-true p.s s two.1)

    or_right : (a b : Bool) → (a || b) ≡ true → a ≡ false → b ≡ true
    or_right true b e f = absurd (false≢true (sym f))
    or_right false b e f = e

    at : (is_same_row p q ≡ true) ⊎ (is_same_row p q ≡ false) → (stands_at q r s ≡ true) ⊎ (stands_at q r s ≡ false) → (list_any (is_same_row p) qs ≡ true → shown_by shape qs r s cell ≡ counter_in (counters_of p) cell) → shown_by shape (q ∷ qs) r s cell ≡ counter_in (counters_of p) cell
    at (inl e) (inl stands) rest =
        cond-true (stands_at q r s) (counter_in (counters_of q) cell) (shown_by shape qs r s cell) stands ∙ sym ((same_parts p q e).counters cell)
    at (inl e) (inr apart) rest =
        let same = same_parts p q e in
        absurd (false≢true (sym apart ∙ ap (λ (x : Bool). x) (rw (← same.same_record, ← same.same_site) here)))
    at (inr e) (inr apart) rest =
        cond-false (stands_at q r s) (counter_in (counters_of q) cell) (shown_by shape qs r s cell) apart
        ∙ rest (or_right (is_same_row p q) (list_any (is_same_row p) qs) some e)
    at (inr e) (inl stands) rest =
        absurd (false≢true (sym (none_same qs (apart_from q qs r s stands rising.0)) ∙ or_right (is_same_row p q) (list_any (is_same_row p) qs) some e))
      where
        none_same : (xs : List Row) → AllByRecursion (λ x. stands_at x r s ≡ false) xs → list_any (is_same_row p) xs ≡ false
        none_same [] all = refl
        none_same (x ∷ xs) all = by (cases_Bool (is_same_row p x)) (none_same xs all.1)
          where
            by : (is_same_row p x ≡ true) ⊎ (is_same_row p x ≡ false) → list_any (is_same_row p) xs ≡ false → (is_same_row p x || list_any (is_same_row p) xs) ≡ false
            by (inl f) none =
                let same = same_parts p x f in
                absurd (false≢true (sym all.0 ∙ rw (← same.same_record, ← same.same_site) here))
            by (inr f) none = rw (f, none) refl

-- a counter that the earlier rows raised to what they show is raised by the thin rows as by them all
pub shown_thin : (shape : Shape) (earlier rows : List Row) (r s : ℕ) (cell : Cell) (n : ℕ) → IsRising earlier → IsRising rows → start_counter shape r s cell ≤ n → shown_by shape earlier r s cell ≤ n → max n (shown_by shape (thin_rows rows earlier) r s cell) ≡ max n (shown_by shape rows r s cell)
shown_thin shape earlier [] r s cell n rising_earlier rising start told = refl
shown_thin shape earlier (p ∷ ps) r s cell n rising_earlier rising start told =
    at (cases_Bool (list_any (is_same_row p) earlier)) (cases_Bool (stands_at p r s)) (shown_thin shape earlier ps r s cell n rising_earlier rising.1 start told)
  where
    thin : List Row
    thin = thin_rows ps earlier

    kept : list_any (is_same_row p) earlier ≡ false → thin_rows (p ∷ ps) earlier ≡ p ∷ thin
    kept e = rw e refl

    dropped : list_any (is_same_row p) earlier ≡ true → thin_rows (p ∷ ps) earlier ≡ thin
    dropped e = rw e refl

    at : (list_any (is_same_row p) earlier ≡ true) ⊎ (list_any (is_same_row p) earlier ≡ false) → (stands_at p r s ≡ true) ⊎ (stands_at p r s ≡ false) → max n (shown_by shape thin r s cell) ≡ max n (shown_by shape ps r s cell) → max n (shown_by shape (thin_rows (p ∷ ps) earlier) r s cell) ≡ max n (shown_by shape (p ∷ ps) r s cell)
    at (inl e) (inl stands) rest =
        let here = cond-true (stands_at p r s) (counter_in (counters_of p) cell) (shown_by shape ps r s cell) stands in
        let same = shown_same shape p earlier r s cell rising_earlier stands e in
        let none = shown_by-absent shape thin r s cell (all_filter (λ q. stands_at q r s ≡ false) (λ q. not (list_any (is_same_row q) earlier)) ps (apart_from p ps r s stands rising.0)) in
        rw (dropped e) (omega (arith, here, same, none))
    at (inl e) (inr apart) rest =
        let here = cond-false (stands_at p r s) (counter_in (counters_of p) cell) (shown_by shape ps r s cell) apart in
        rw (dropped e) (omega (arith, here, rest))
    at (inr e) (inl stands) rest =
        let here = cond-true (stands_at p r s) (counter_in (counters_of p) cell) (shown_by shape ps r s cell) stands in
        let same = cond-true (stands_at p r s) (counter_in (counters_of p) cell) (shown_by shape thin r s cell) stands in
        rw (kept e) (omega (arith, here, same))
    at (inr e) (inr apart) rest =
        let here = cond-false (stands_at p r s) (counter_in (counters_of p) cell) (shown_by shape ps r s cell) apart in
        let same = cond-false (stands_at p r s) (counter_in (counters_of p) cell) (shown_by shape thin r s cell) apart in
        rw (kept e) (omega (arith, here, same, rest))

-- one turn of the pass
pub thin_turn : (earlier rows thin new : List Row) (i n next : ℕ) (p : Row) (found : Bool) → IsRising earlier → IsRising rows → i < length rows → p ≡ get_or rows i p → thin ≡ thin_rows (take i rows) earlier → ArePast earlier n rows i → ((k : ℕ) (d : Row) → n ≤ k → k < next → ComesBefore (get_or earlier k d) p) → ((d : Row) → next < length earlier → ¬ ComesBefore (get_or earlier next d) p) → next ≤ length earlier → found ≡ is_same_in earlier next p → new ≡ thin ++ cond found [] (p ∷ []) → new ≡ thin_rows (take (i + 1) rows) earlier
thin_turn earlier rows thin new i n next p found rising_earlier rising below read so_far past passed here within is change =
    change
    ∙ (ap (λ (qs : List Row). qs ++ cond found [] (p ∷ [])) so_far
    ∙ (ap (λ b. thin_rows (take i rows) earlier ++ cond b [] (p ∷ [])) (is ∙ sym any) ∙ sym (thin_rows-more rows earlier i p below read)))
  where
    before : (k : ℕ) (d : Row) → k < next → ComesBefore (get_or earlier k d) p
    before k d under = at (cases_lt k n)
      where
        there : get_or rows i d ≡ p
        there = sym (get_or_default rows i p d below) ∙ sym read

        at : (k < n) ⊎ (n ≤ k) → ComesBefore (get_or earlier k d) p
        at (inl old) =
            subst (λ (x : Row). ComesBefore (get_or earlier k d) x) there (past k i d old (omega arith) below)
        at (inr new) = passed k d new under

    any : list_any (is_same_row p) earlier ≡ is_same_in earlier next p
    any = any_at earlier next p rising_earlier before here within
