-- A delta's rows record by record, and the places whose counters rise.
use Rattle.std.proofs.Common.{◌≡◌, ◌≢◌, ℕ, zero, suc, ◌+◌, ◌-◌, ◌<◌, ◌≤◌, ◌⊎◌, inl, inr, Bool, true, false, eqb, ltb, All, List, [], ◌∷◌, ◌++◌, length, get_or, take, drop, Option, Some, None, refl, sym, ap, subst, ◌∙◌, arith}
use Rattle.std.specs.List.{AllByRecursion}
use Rattle.std.proofs.lemmas.Bool.{cases_eq, cases_lt, ne_eqb, le-ltb, and_left, and_right}
use Rattle.std.proofs.lemmas.List.{append-nil, get_or_default, get_or-take, get_or-drop, length-map}
use Rattle.std.proofs.lemmas.List.Elements.{recursion_from_All, All-from_recursion}
use Rattle.merge_core.specs.declared.cell.Cell.{Cell}
use Rattle.merge_core.specs.declared.cell.Cell.TheVariants.{Out, Taken, Ann, Fin}
use Rattle.merge_core.specs.declared.delta.Row.{Row}
use Rattle.merge_core.specs.Book.{HasCell, counter_of, book_shape}
use Rattle.merge_core.specs.Delta.{DeltaState, ComesBefore, IsRising, IsDelta}
use Rattle.merge_core.specs.Layout.{Shape, shape_of, record_shape}
use Rattle.merge_core.specs.Naming.{shown_by}
use Rattle.merge_core.specs.Rows.{start_counter}
use Rattle.merge_core.specs.Tests.{is_placed, first_failing}
use Rattle.merge_core.proofs.RowLemmas.{IsRising-at}
use Rattle.merge_core.proofs.ShownLemmas.{stands_at, shown_by-absent}
use Rattle.merge_core.proofs.TestLemmas.{IsPlaced, all_pass, checked_placed}
use Rattle.admission_model.specs.declared.durable.DurableCell.{DurableCell}
use Rattle.admission_model.specs.Durable.{Named, named, counter_named, slots_from, places_from, slot_count, pick, at_slot, places, risen_cells}
use Rattle.admission_model.specs.declared.ask.Call.TheVariants.{Merge}
use Rattle.admission_model.specs.Serving.{reason}
use Rattle.admission_model.specs.Merging.{first_ahead, tells_too_much}
use Rattle.admission_model.specs.View.{View}
use Rattle.admission_model.proofs.LeastLemmas.{least_below-none}
use Rattle.admission_model.proofs.RowLemmas.{number_of_cells-zero}
use Rattle.admission_core.specs.Core.{Core, IsCore, core_view}
use Rattle.admission_core.specs.Joining.{joined_counter, raised_cells}
use Rattle.admission_core.proofs.JoiningLemmas.{joined_book, reason-accepted, shown_there}
use Rattle.admission_core.proofs.SlotLemmas.{places_append, pick-append, pick-no_records}
use Rattle.admission_core.proofs.RisenLemmas.{joined_with, slot_rises, slot_after, IsShownRow, ShowsGroup, group_picked}
use Rattle.std.proofs.lemmas.Bool.{ltb-false}

-- where no row of the site's own is ahead, the rows show no more of it than the site did
pub own_shown : (v : View) (rows : List Row) → first_ahead v rows ≡ None → (r : ℕ) (cell : Cell)
    → r < length v.layout.records → HasCell v.layout.sites cell
    → shown_by (shape_of v.layout) rows r v.site cell ≤ v.counter r v.site cell
own_shown v rows behind r cell below has = at cell has
  where
    shown : Cell → ℕ
    shown c = shown_by (shape_of v.layout) rows r v.site c

    counted : (n : ℕ) → ltb 0 n ≡ false → n ≡ 0
    counted n e = omega (arith, ltb-false 0 n e)

    quiet : ((j : ℕ) → j < v.layout.sites → ltb (v.counter r v.site (Out j)) (shown_by (shape_of v.layout) rows r v.site (Out j)) ≡ false) × ((ltb (v.counter r v.site Taken) (shown_by (shape_of v.layout) rows r v.site Taken) ≡ false) × ((ltb (v.counter r v.site Ann) (shown_by (shape_of v.layout) rows r v.site Ann) ≡ false) × (ltb (v.counter r v.site Fin) (shown_by (shape_of v.layout) rows r v.site Fin) ≡ false)))
    quiet =
        number_of_cells-zero v.layout.sites (λ c. ltb (v.counter r v.site c) (shown_by (shape_of v.layout) rows r v.site c))
        (counted _ (least_below-none (length v.layout.records) (tells_too_much v rows) behind r below))

    at : (c : Cell) → HasCell v.layout.sites c → shown_by (shape_of v.layout) rows r v.site c ≤ v.counter r v.site c
    at (Out j) inside = ltb-false (v.counter r v.site (Out j)) (shown_by (shape_of v.layout) rows r v.site (Out j)) (quiet.0 j inside)
    at Taken inside = ltb-false (v.counter r v.site Taken) (shown_by (shape_of v.layout) rows r v.site Taken) quiet.1.0
    at Ann inside = ltb-false (v.counter r v.site Ann) (shown_by (shape_of v.layout) rows r v.site Ann) quiet.1.1.0
    at Fin inside = ltb-false (v.counter r v.site Fin) (shown_by (shape_of v.layout) rows r v.site Fin) quiet.1.1.1

-- what is known of rows that a site merges: n records, counters that are not below their start, nothing new of the
-- site's own rows, and rows that rise, each with its place
pub record IsMerging (n : ℕ) (shape : Shape) (i : ℕ) (f : ℕ → ℕ → Cell → ℕ) (rows : List Row) : Type 0 where
  pub records : length shape.records ≡ n
  pub few_sites : shape.sites ≤ 16
  pub low : (r s : ℕ) (cell : Cell) → start_counter shape r s cell ≤ f r s cell
  pub own : (r : ℕ) (cell : Cell) → r < n → HasCell shape.sites cell → shown_by shape rows r i cell ≤ f r i cell
  pub rising : IsRising rows
  pub placed : AllByRecursion (IsPlaced shape) rows

-- ---- rising rows

no_row : Row
no_row = record { r = 0; s = 0; out = []; taken = 0; ann = 0; fin = 0 }

rising_drop : (k : ℕ) (rows : List Row) → IsRising rows → IsRising (drop k rows)
rising_drop zero rows rising = rising
rising_drop (suc k) [] rising = tt
rising_drop (suc k) (p ∷ ps) rising = rising_drop k ps rising.1

all_take : (P : Row → Type 0) (k : ℕ) (rows : List Row) → AllByRecursion P rows → AllByRecursion P (take k rows)
all_take P zero rows all = tt
all_take P (suc k) [] all = tt
all_take P (suc k) (p ∷ ps) all = (all.0, all_take P k ps all.1)

rising_take : (k : ℕ) (rows : List Row) → IsRising rows → IsRising (take k rows)
rising_take zero rows rising = tt
rising_take (suc k) [] rising = tt
rising_take (suc k) (p ∷ ps) rising = (all_take (ComesBefore p) k ps rising.0, rising_take k ps rising.1)

-- records do not fall
not_falling : (rows : List Row) (i j : ℕ) (d : Row) → IsRising rows → i ≤ j → j < length rows
    → (get_or rows i d).r ≤ (get_or rows j d).r
not_falling rows i j d rising order inside = at (cases_eq i j)
  where
    less : ComesBefore (get_or rows i d) (get_or rows j d) → (get_or rows i d).r ≤ (get_or rows j d).r
    less (inl before) = omega arith
    less (inr before) = omega arith

    at : (i ≡ j) ⊎ (i ≡ j → ⊥) → (get_or rows i d).r ≤ (get_or rows j d).r
    at (inl e) = omega (arith, ap (λ k. (get_or rows k d).r) e)
    at (inr ne) = less (IsRising-at rows i j d rising (omega arith) inside)

-- the record of the first of the rows; n where there is none
abbrev pub next_record : ℕ → List Row → ℕ
next_record n [] = n
next_record n (p ∷ ps) = p.r

next_there : (n : ℕ) (rows : List Row) (i : ℕ) (d : Row) → i < length rows
    → next_record n (drop i rows) ≡ (get_or rows i d).r
next_there n [] i d below = absurd (omega arith)
next_there n (p ∷ ps) zero d below = refl
next_there n (p ∷ ps) (suc i) d below = next_there n ps i d (omega arith)

next_past : (n : ℕ) (rows : List Row) (i : ℕ) → length rows ≤ i → next_record n (drop i rows) ≡ n
next_past n [] zero past = refl
next_past n [] (suc i) past = refl
next_past n (p ∷ ps) zero past = absurd (omega arith)
next_past n (p ∷ ps) (suc i) past = next_past n ps i (omega arith)

-- rows from i to j, and where they stand among all
group_of : List Row → ℕ → ℕ → List Row
group_of rows i j = take (j - i) (drop i rows)

group-at : (rows : List Row) (i j k : ℕ) (d : Row) → k < j - i
    → get_or (group_of rows i j) k d ≡ get_or rows (i + k) d
unfolding group_of
group-at rows i j k d below = get_or-take (j - i) (drop i rows) k d below ∙ get_or-drop i rows k d

length-group_le : (m : ℕ) (rows : List Row) → length (take m rows) ≤ m
length-group_le zero rows = omega arith
length-group_le (suc m) [] = omega arith
length-group_le (suc m) (p ∷ ps) = omega (arith, length-group_le m ps)

length-group : (rows : List Row) (i j : ℕ) → i ≤ j → j ≤ length rows → length (group_of rows i j) ≡ j - i
unfolding group_of
length-group rows i j order inside =
    at (drop i rows) (j - i) (omega (arith, dropped rows i (omega arith)))
  where
    dropped : (xs : List Row) (m : ℕ) → m ≤ length xs → length (drop m xs) ≡ length xs - m
    dropped xs zero below = omega arith
    dropped [] (suc m) below = absurd (omega arith)
    dropped (x ∷ xs) (suc m) below = omega (arith, dropped xs m (omega arith))

    at : (xs : List Row) (m : ℕ) → m ≤ length xs → length (take m xs) ≡ m
    at xs zero below = refl
    at [] (suc m) below = absurd (omega arith)
    at (x ∷ xs) (suc m) below = omega (arith, at xs m (omega arith))

-- ---- one record's rows

-- the rows from i to j are those of one record
pub record IsOneRecord (rows : List Row) (i j : ℕ) : Type 0 where
  pub further : i < j
  pub within : j ≤ length rows
  pub same : (k : ℕ) (d : Row) → i ≤ k → k < j → (get_or rows k d).r ≡ (get_or rows i d).r
  pub other : (d : Row) → j < length rows → (get_or rows j d).r ≢ (get_or rows i d).r

-- records of rows before the first one's are smaller
abbrev pub AreBelow : List Row → ℕ → ℕ → Type 0
AreBelow rows i r = (k : ℕ) (d : Row) → k < i → (get_or rows k d).r < r

-- behind the record stand greater ones alone
later_records : (n : ℕ) (shape : Shape) (i0 : ℕ) (f : ℕ → ℕ → Cell → ℕ) (rows : List Row) (i j : ℕ)
    → IsMerging n shape i0 f rows → IsOneRecord rows i j → (k : ℕ) (d : Row) → j ≤ k → k < length rows
    → (get_or rows i d).r < (get_or rows k d).r
later_records n shape i0 f rows i j is one k d past inside =
    let rise = not_falling rows i j d is.rising (omega (arith, one.further)) (omega arith) in
    let apart = one.other d (omega arith) in
    let more = not_falling rows j k d is.rising past inside in
    let up : (get_or rows i d).r < (get_or rows j d).r = at (cases_eq (get_or rows j d).r (get_or rows i d).r) rise apart in
    omega arith
  where
    at : ((get_or rows j d).r ≡ (get_or rows i d).r) ⊎ ((get_or rows j d).r ≡ (get_or rows i d).r → ⊥)
        → (get_or rows i d).r ≤ (get_or rows j d).r → (get_or rows j d).r ≢ (get_or rows i d).r
        → (get_or rows i d).r < (get_or rows j d).r
    at (inl e) rise apart = absurd (apart e)
    at (inr ne) rise apart = omega arith

-- rows of other records or sites show the start
absent_at : (shape : Shape) (rows : List Row) (r s : ℕ)
    → ((k : ℕ) (d : Row) → k < length rows → (get_or rows k d).r ≡ r → (get_or rows k d).s ≡ s → ⊥) → (cell : Cell)
    → shown_by shape rows r s cell ≡ start_counter shape r s cell
absent_at shape rows r s apart cell =
    shown_by-absent shape rows r s cell (recursion_from_All (λ q. stands_at q r s ≡ false) rows (λ k d inside. at (get_or rows k d) (apart k d inside) (cases_eq (get_or rows k d).r r)))
  where
    at : (q : Row) → (q.r ≡ r → q.s ≡ s → ⊥) → (q.r ≡ r) ⊎ (q.r ≡ r → ⊥) → stands_at q r s ≡ false
    at q never (inl e) = and_right (eqb q.r r) (eqb q.s s) (ne_eqb q.s s (never e))
    at q never (inr ne) = and_left (eqb q.r r) (eqb q.s s) (ne_eqb q.r r ne)

-- the rows from i to j are what the rows show of their record
shows_group : (n : ℕ) (shape : Shape) (i0 : ℕ) (f : ℕ → ℕ → Cell → ℕ) (rows : List Row) (i j r : ℕ)
    → IsMerging n shape i0 f rows → IsOneRecord rows i j → AreBelow rows i r → ((d : Row) → (get_or rows i d).r ≡ r)
    → ShowsGroup shape i0 f rows r (group_of rows i j)
unfolding group_of
shows_group n shape i0 f rows i j r is one before here = record {
  few_sites = is.few_sites;
  low = λ s cell. is.low r s cell;
  own = λ cell has. is.own r cell there has;
  rising = rising_take (j - i) (drop i rows) (rising_drop i rows is.rising);
  shown = recursion_from_All (IsShownRow shape rows r) (group_of rows i j) (λ k d inside. shown_row k d (omega (arith, inside, size)));
  absent = λ s apart cell. absent_at shape rows r s (λ k d inside same_record same_site. nowhere s apart k d inside same_record same_site (cases_lt k i) (cases_lt k j)) cell;
}
  where
    size : length (group_of rows i j) ≡ j - i
    size = length-group rows i j (omega (arith, one.further)) one.within

    placed_at : (k : ℕ) (d : Row) → k < length rows → IsPlaced shape (get_or rows k d)
    placed_at k d inside = All-from_recursion (IsPlaced shape) rows is.placed k d inside

    there : r < n
    there =
        let first = placed_at i no_row (omega (arith, one.further, one.within)) in
        omega (arith, first.record_there, here no_row, is.records)

    shown_row : (k : ℕ) (d : Row) → k < j - i → IsShownRow shape rows r (get_or (group_of rows i j) k d)
    shown_row k d below =
        subst (λ (x : Row). IsShownRow shape rows r x) (sym (group-at rows i j k d below)) (record {
          same_record = same;
          site_there = omega (arith, place.own_there, place.few_sites);
          shown = λ cell. ap (λ x. shown_by shape rows x (get_or rows (i + k) d).s cell) (sym same) ∙ shown_there shape rows (i + k) (get_or rows (i + k) d) cell is.rising inside (get_or_default rows (i + k) d (get_or rows (i + k) d) inside);
        })
      where
        inside : i + k < length rows
        inside = omega (arith, one.within)

        place : IsPlaced shape (get_or rows (i + k) d)
        place = placed_at (i + k) d inside

        same : (get_or rows (i + k) d).r ≡ r
        same = one.same (i + k) d (omega arith) (omega arith) ∙ here d

    nowhere : (s : ℕ) → AllByRecursion (λ q. q.s ≢ s) (group_of rows i j) → (k : ℕ) (d : Row) → k < length rows
        → (get_or rows k d).r ≡ r → (get_or rows k d).s ≡ s → (k < i) ⊎ (i ≤ k) → (k < j) ⊎ (j ≤ k) → ⊥
    nowhere s apart k d inside same_record same_site (inl low) place = absurd (omega (arith, before k d low))
    nowhere s apart k d inside same_record same_site (inr high) (inr past) =
        absurd (omega (arith, later_records n shape i0 f rows i j is one k d past inside, here d))
    nowhere s apart k d inside same_record same_site (inr high) (inl low) =
        let back : i + (k - i) ≡ k = omega arith in
        let read : get_or (group_of rows i j) (k - i) d ≡ get_or rows k d = group-at rows i j (k - i) d (omega arith) ∙ ap (λ m. get_or rows m d) back in
        All-from_recursion (λ q. q.s ≢ s) (group_of rows i j) apart (k - i) d (omega (arith, size)) (ap (λ (x : Row). x.s) read ∙ same_site)

-- ---- records without rows

-- where no row is of the record none of its slots rises
record_quiet : (n : ℕ) (shape : Shape) (i0 : ℕ) (f : ℕ → ℕ → Cell → ℕ) (rows : List Row) (r slot : ℕ)
    → IsMerging n shape i0 f rows → ((k : ℕ) (d : Row) → k < length rows → (get_or rows k d).r ≢ r)
    → slot_rises shape i0 f rows r slot ≡ false
record_quiet n shape i0 f rows r slot is apart = at (named shape.sites i0 slot)
  where
    at : (o : Option Named) → ltb (counter_named f r o) (counter_named (joined_with shape f rows) r o) ≡ false
    at None = refl
    at (Some it) =
        le-ltb (f r it.s it.cell) (joined_with shape f rows r it.s it.cell)
        (omega (arith, absent_at shape rows r it.s (λ k d inside same_record same_site. apart k d inside same_record) it.cell, is.low r it.s it.cell))

-- ---- one turn

-- the rows before i are done: the records before the next one's are in the list of cells
pub record AreDone (n : ℕ) (shape : Shape) (i0 : ℕ) (f : ℕ → ℕ → Cell → ℕ) (rows : List Row) (i : ℕ) (cells : List DurableCell) : Type 0 where
  pub within : i ≤ length rows
  pub before : AreBelow rows i (next_record n (drop i rows))
  pub picked : cells ≡ pick (slot_rises shape i0 f rows) (slot_after shape i0 f rows) (places_from 0 (next_record n (drop i rows)))

-- the records from one on, none of which the rows have
skipped : (n : ℕ) (shape : Shape) (i0 : ℕ) (f : ℕ → ℕ → Cell → ℕ) (rows : List Row) (a b : ℕ)
    → IsMerging n shape i0 f rows → a ≤ b
    → ((k : ℕ) (d : Row) → k < length rows → ((get_or rows k d).r < a) ⊎ (b ≤ (get_or rows k d).r))
    → pick (slot_rises shape i0 f rows) (slot_after shape i0 f rows) (places_from 0 b) ≡ pick (slot_rises shape i0 f rows) (slot_after shape i0 f rows) (places_from 0 a)
skipped n shape i0 f rows a b is order apart =
    let all : b ≡ a + (b - a) = omega arith in
    let start : 0 + a ≡ a = omega arith in
    ap (pick test value) (places_append 0 a (b - a) b all)
    ∙ (pick-append test value (places_from 0 a) (places_from (0 + a) (b - a))
    ∙ (ap (λ cs. pick test value (places_from 0 a) ++ cs) (pick-no_records test value (0 + a) (b - a) (λ r slot above below. record_quiet n shape i0 f rows r slot is (λ k d inside same. never r (get_or rows k d).r same above below (apart k d inside))))
    ∙ append-nil (pick test value (places_from 0 a))))
  where
    test : ℕ → ℕ → Bool
    test = slot_rises shape i0 f rows

    value : ℕ → ℕ → ℕ
    value = slot_after shape i0 f rows

    never : (r x : ℕ) → x ≡ r → 0 + a ≤ r → r < 0 + a + (b - a) → (x < a) ⊎ (b ≤ x) → ⊥
    never r x same above below (inl low) = absurd (omega arith)
    never r x same above below (inr high) = absurd (omega arith)

-- before the first row nothing is done
pub none_done : (n : ℕ) (shape : Shape) (i0 : ℕ) (f : ℕ → ℕ → Cell → ℕ) (rows : List Row)
    → IsMerging n shape i0 f rows → AreDone n shape i0 f rows 0 []
none_done n shape i0 f rows is = record {
  within = omega arith;
  before = λ k d below. absurd (omega arith);
  picked = sym (skipped n shape i0 f rows 0 (next_record n rows) is (omega arith) (λ k d inside. inr (first k d inside)));
}
  where
    first : (k : ℕ) (d : Row) → k < length rows → next_record n rows ≤ (get_or rows k d).r
    first k d inside =
        omega (arith, not_falling rows 0 k d is.rising (omega arith) inside, next_there n rows 0 d (omega arith))

-- the record's slots come behind those of the records before it
one_more_record : (test : ℕ → ℕ → Bool) (value : ℕ → ℕ → ℕ) (r : ℕ)
    → pick test value (places_from 0 (r + 1)) ≡ pick test value (places_from 0 r) ++ pick test value (slots_from r 0 slot_count)
one_more_record test value r =
    let start : 0 + r ≡ r = omega arith in
    ap (pick test value) (places_append 0 r 1 (r + 1) refl)
    ∙ (pick-append test value (places_from 0 r) (places_from (0 + r) 1)
    ∙ ap (λ cs. pick test value (places_from 0 r) ++ cs) (ap (λ x. pick test value (places_from x 1)) start ∙ ap (pick test value) (append-nil (slots_from r 0 slot_count))))

-- a record more
pub group_turn : (n : ℕ) (shape : Shape) (i0 : ℕ) (f : ℕ → ℕ → Cell → ℕ) (rows : List Row) (i j : ℕ) (cells new : List DurableCell)
    → IsMerging n shape i0 f rows → AreDone n shape i0 f rows i cells → IsOneRecord rows i j
    → new ≡ cells ++ raised_cells f i0 (take (j - i) (drop i rows)) → AreDone n shape i0 f rows j new
unfolding group_of
group_turn n shape i0 f rows i j cells new is done one change = record {
  within = one.within;
  before = λ k d below. omega (arith, upto k d below, next.0);
  picked =
      change
      ∙ (ap (λ cs. cs ++ raised_cells f i0 (group_of rows i j)) (done.picked ∙ ap (λ x. pick test value (places_from 0 x)) (next_there n rows i no_row inside))
      ∙ (ap (λ cs. pick test value (places_from 0 r) ++ cs) (sym (group_picked shape i0 f rows r (group_of rows i j) (shows_group n shape i0 f rows i j r is one below here)))
      ∙ (sym (one_more_record test value r) ∙ sym (skipped n shape i0 f rows (r + 1) (next_record n (drop j rows)) is (omega (arith, next.0)) (λ k d there. apart k d there (cases_lt k j))))));
}
  where
    test : ℕ → ℕ → Bool
    test = slot_rises shape i0 f rows

    value : ℕ → ℕ → ℕ
    value = slot_after shape i0 f rows

    r : ℕ
    r = (get_or rows i no_row).r

    inside : i < length rows
    inside = omega (arith, one.further, one.within)

    here : (d : Row) → (get_or rows i d).r ≡ r
    here d = ap (λ (x : Row). x.r) (get_or_default rows i d no_row inside)

    below : AreBelow rows i r
    below k d under = omega (arith, done.before k d under, next_there n rows i no_row inside)

    upto : (k : ℕ) (d : Row) → k < j → (get_or rows k d).r ≤ r
    upto k d under = at (cases_lt k i)
      where
        at : (k < i) ⊎ (i ≤ k) → (get_or rows k d).r ≤ r
        at (inl low) = omega (arith, below k d low)
        at (inr high) = omega (arith, one.same k d high under, here d)

    next : (r < next_record n (drop j rows)) × ((k : ℕ) (d : Row) → j ≤ k → k < length rows → next_record n (drop j rows) ≤ (get_or rows k d).r)
    next = at (cases_lt j (length rows))
      where
        at : (j < length rows) ⊎ (length rows ≤ j)
            → (r < next_record n (drop j rows)) × ((k : ℕ) (d : Row) → j ≤ k → k < length rows → next_record n (drop j rows) ≤ (get_or rows k d).r)
        at (inl more) = (
          omega (arith, next_there n rows j no_row more, later_records n shape i0 f rows i j is one j no_row (omega arith) more),
          λ k d past there. omega (arith, next_there n rows j d more, not_falling rows j k d is.rising past there),
        )
        at (inr end) = (
          omega (arith, next_past n rows j end, (All-from_recursion (IsPlaced shape) rows is.placed i no_row inside).record_there, is.records),
          λ k d past there. absurd (omega arith),
        )

    apart : (k : ℕ) (d : Row) → k < length rows → (k < j) ⊎ (j ≤ k)
        → ((get_or rows k d).r < r + 1) ⊎ (next_record n (drop j rows) ≤ (get_or rows k d).r)
    apart k d there (inl low) = inl (omega (arith, upto k d low))
    apart k d there (inr past) = inr (next.1 k d past there)

-- behind the last row all is done
pub all_done : (n : ℕ) (shape : Shape) (i0 : ℕ) (f : ℕ → ℕ → Cell → ℕ) (rows : List Row) (i : ℕ) (cells : List DurableCell)
    → length rows ≤ i → AreDone n shape i0 f rows i cells
    → cells ≡ pick (slot_rises shape i0 f rows) (slot_after shape i0 f rows) (places_from 0 n)
all_done n shape i0 f rows i cells past done =
    done.picked
    ∙ ap (λ x. pick (slot_rises shape i0 f rows) (slot_after shape i0 f rows) (places_from 0 x)) (next_past n rows i past)

all_drop : (P : Row → Type 0) (k : ℕ) (rows : List Row) → AllByRecursion P rows → AllByRecursion P (drop k rows)
all_drop P zero rows all = all
all_drop P (suc k) [] all = tt
all_drop P (suc k) (p ∷ ps) all = all_drop P k ps all.1

-- ---- at a core

-- every row has its place, among any of them too
pub group_placed : (shape : Shape) (rows : List Row) (i k : ℕ) → first_failing (is_placed shape) rows ≡ None
    → All (λ p. is_placed shape p ≡ true) (take k (drop i rows))
group_placed shape rows i k placed =
    All-from_recursion (λ p. is_placed shape p ≡ true) (take k (drop i rows))
    (all_take (λ p. is_placed shape p ≡ true) k (drop i rows) (all_drop (λ p. is_placed shape p ≡ true) i rows (all_pass (is_placed shape) rows placed)))

-- the rows of a delta that a core does not refuse, as they are read
abbrev pub MergesAt : Core → List Row → Type 0
MergesAt c rows = IsMerging (length c.layout.records) (shape_of c.layout) c.site (counter_of c.book) rows

-- the cells of the records before the i-th row's, at a core
abbrev pub AreDoneAt : Core → List Row → ℕ → List DurableCell → Type 0
AreDoneAt c rows i cells =
    AreDone (length c.layout.records) (shape_of c.layout) c.site (counter_of c.book) rows i cells

pub merging_rows : (c : Core) (d : DeltaState) (read : List Row) → IsCore c → IsDelta d → read ≡ d.rows
    → reason (core_view c) (Merge d) ≡ None → MergesAt c read
merging_rows c d read is delta same e =
    let has = joined_book c is in
    let accepted = reason-accepted (core_view c) d e in
    subst (λ (rows : List Row). MergesAt c rows) (sym same) (record {
      records = length-map c.layout.records record_shape;
      few_sites = omega (arith, has.same_sites, has.few_sites);
      low = has.low;
      own = λ r cell below own_cell. own_shown (core_view c) d.rows accepted.behind r cell below own_cell;
      rising = delta.rising;
      placed = recursion_from_All (IsPlaced (shape_of c.layout)) d.rows (checked_placed (shape_of c.layout) d.rows accepted.checked);
    })

-- each of them has its place in the core's book
pub placed_rows : (c : Core) (d : DeltaState) (read : List Row) (i k : ℕ) → IsCore c → read ≡ d.rows
    → reason (core_view c) (Merge d) ≡ None → All (λ p. is_placed (book_shape c.book) p ≡ true) (take k (drop i read))
placed_rows c d read i k is same e =
    subst (λ (rows : List Row). All (λ p. is_placed (book_shape c.book) p ≡ true) (take k (drop i rows))) (sym same)
    (subst (λ (shape : Shape). All (λ p. is_placed shape p ≡ true) (take k (drop i d.rows))) (joined_book c is).same_shape
    (group_placed (shape_of c.layout) d.rows i k (reason-accepted (core_view c) d e).checked.placed))

-- behind the last row all that rises is told
pub risen_all : (c : Core) (read rows : List Row) (i : ℕ) (cells : List DurableCell) → read ≡ rows → length read ≤ i
    → AreDoneAt c read i cells → cells ≡ risen_cells (at_slot c.layout.sites c.site (counter_of c.book)) (at_slot c.layout.sites c.site (joined_counter (core_view c) rows)) (places c.layout)
risen_all c read rows i cells same past done =
    subst (λ (ps : List Row). cells ≡ risen_cells (at_slot c.layout.sites c.site (counter_of c.book)) (at_slot c.layout.sites c.site (joined_counter (core_view c) ps)) (places c.layout)) same
    (all_done (length c.layout.records) (shape_of c.layout) c.site (counter_of c.book) read i cells past done)
