-- What a core's invariant tells of its book, and what a delta's rows raise there, row by row.
use Rattle.std.proofs.Common.{◌≡◌, ℕ, zero, suc, ◌+◌, ◌<◌, ◌≤◌, ◌⊎◌, inl, inr, Bool, true, false, cond, eqb, ltb, List, [], ◌∷◌, length, get_or, Option, Some, None, refl, sym, ap, subst, ◌∙◌, sum_by, arith}
use Rattle.std.specs.Prelude.{is_some, unwrap_or}
use Rattle.std.specs.List.{AllByRecursion}
use Rattle.std.proofs.lemmas.Bool.{cases_eq, cases_lt, cases_Bool, eq-eqb, ne_eqb, eqb-true, lt-ltb, le-ltb, and_parts, and_from, cond-true, cond-false}
use Rattle.std.proofs.lemmas.Bool.Decides.{nat_tests}
use Rattle.std.proofs.lemmas.List.{get_or_default, length-map}
use Rattle.std.proofs.lemmas.List.Elements.{recursion_from_All}
use Rattle.std.proofs.lemmas.List.Sums.{sum_by-cons}
use Rattle.merge_core.specs.declared.cell.Cell.{Cell}
use Rattle.merge_core.specs.declared.cell.Cell.TheVariants.{Out, Taken, Ann, Fin}
use Rattle.merge_core.specs.declared.delta.Row.{Row}
use Rattle.merge_core.specs.Book.{book_shape, shape_in, counter_of}
use Rattle.merge_core.specs.Check.{IsChecked}
use Rattle.merge_core.specs.Delta.{DeltaState, ComesBefore, IsRising, IsDelta}
use Rattle.merge_core.specs.Layout.{LayoutState, Shape, shape_of, at_sites, record_shape}
use Rattle.merge_core.specs.Moved.{raised_by}
use Rattle.merge_core.specs.Naming.{shown_by}
use Rattle.merge_core.specs.Rows.{start_counter, counter_in, counters_of}
use Rattle.merge_core.specs.Sums.{total, one_if, number_of_cells, least_below}
use Rattle.merge_core.specs.Tests.{is_placed, is_valid, first_failing}
use Rattle.merge_core.proofs.RowLemmas.{IsRising-at}
use Rattle.merge_core.proofs.ShownLemmas.{stands_at, stands_apart}
use Rattle.merge_core.proofs.SumLemmas.{total_same, total_add, total_zero, total_only}
use Rattle.merge_core.proofs.TestLemmas.{IsPlaced, placed_parts, passes_at, checked_placed}
use Rattle.admission_model.specs.declared.ask.Call.TheVariants.{Merge}
use Rattle.admission_model.specs.declared.reply.Refusal.{Refusal}
use Rattle.admission_model.specs.declared.reply.Refusal.TheVariants.{OtherLayout, BadRow, OwnRowAhead}
use Rattle.admission_model.specs.Account.{Account}
use Rattle.admission_model.specs.Knowledge.{known}
use Rattle.admission_model.specs.Merging.{first_ahead, tells_too_much}
use Rattle.admission_model.specs.Replies.{line, first_reason}
use Rattle.admission_model.specs.Serving.{reason}
use Rattle.admission_model.specs.Sound.{IsSound}
use Rattle.admission_model.specs.View.{View}
use Rattle.admission_model.proofs.HeardLemmas.{known_fits}
use Rattle.admission_model.proofs.LawLemmas.{sound_reached}
use Rattle.admission_model.proofs.LeastLemmas.{least_below-found}
use Rattle.admission_model.proofs.RowLemmas.{start_below}
use Rattle.admission_core.specs.Core.{Core, IsCore, core_view}
use Rattle.admission_core.specs.Joining.{row_raises}

-- ---- what the invariant tells

-- the book is of the layout, the site is one of its sites, and no counter is below its start
pub record HasJoinedBook (c : Core) : Type 0 where
  pub site_there : c.site < c.book.sites
  pub same_sites : c.layout.sites ≡ c.book.sites
  pub same_records : length c.layout.records ≡ length c.book.records
  pub few_sites : c.book.sites ≤ 16
  pub few_records : length c.book.records ≤ 256
  pub same_shape : shape_of c.layout ≡ book_shape c.book
  pub low : (r s : ℕ) (cell : Cell) → start_counter (shape_of c.layout) r s cell ≤ counter_of c.book r s cell

start_at_sites : (l : LayoutState) (n r s : ℕ) (cell : Cell)
    → start_counter (shape_of (at_sites n l)) r s cell ≡ start_counter (shape_of l) r s cell
start_at_sites l n r s (Out j) = refl
start_at_sites l n r s Taken = refl
start_at_sites l n r s Ann = refl
start_at_sites l n r s Fin = refl

pub joined_book : (c : Core) → IsCore c → HasJoinedBook c
joined_book c is = record {
  site_there = omega (arith, sound.site_there, is.stands.shows.site, sites, same);
  same_sites = same;
  same_records = omega (
    arith,
    ap (λ (shape : Shape). length shape.records) is.stands.shape,
    length-map c.layout.records record_shape,
    length-map c.book.records shape_in,
  );
  few_sites = is.stands.book.few_sites;
  few_records = is.stands.book.few_records;
  same_shape = is.stands.shape;
  low = λ r s cell. low r s cell;
}
  where
    a : Account
    a = is.account

    sound : IsSound a
    sound = sound_reached a is.stands.reached

    same : c.layout.sites ≡ c.book.sites
    same = ap (λ (shape : Shape). shape.sites) is.stands.shape

    sites : c.layout.sites ≡ a.sites
    sites = ap (λ (l : LayoutState). l.sites) is.stands.shows.layout

    low : (r s : ℕ) (cell : Cell) → start_counter (shape_of c.layout) r s cell ≤ counter_of c.book r s cell
    low r s cell =
        omega (
          arith,
          ap (λ (l : LayoutState). start_counter (shape_of l) r s cell) is.stands.shows.layout,
          start_at_sites a.origin.layout a.sites r s cell,
          start_below (shape_of a.origin.layout) r s (known a r s) (known_fits a sound r s) cell,
          is.stands.shows.counters r s cell,
        )

-- ---- the lines of a merge

abbrev reason_of : Option ℕ → Option ℕ → Option ℕ → Option Refusal
reason_of misplaced invalid ahead =
    first_reason (
    line (is_some misplaced) (OtherLayout (unwrap_or misplaced 0)) ∷ line (is_some invalid) (BadRow (unwrap_or invalid 0)) ∷ line (is_some ahead) (OwnRowAhead (unwrap_or ahead 0)) ∷ []
    )

pub reason-misplaced : (v : View) (d : DeltaState) (i : ℕ)
    → first_failing (is_placed (shape_of v.layout)) d.rows ≡ Some i
    → ◌≡◌ {A = Option Refusal} (Some (OtherLayout i)) (reason v (Merge d))
reason-misplaced v d i e =
    sym (ap (λ o. reason_of o (first_failing (is_valid (shape_of v.layout)) d.rows) (first_ahead v d.rows)) e)

pub reason-invalid : (v : View) (d : DeltaState) (i : ℕ) → first_failing (is_placed (shape_of v.layout)) d.rows ≡ None
    → first_failing (is_valid (shape_of v.layout)) d.rows ≡ Some i
    → ◌≡◌ {A = Option Refusal} (Some (BadRow i)) (reason v (Merge d))
reason-invalid v d i none e =
    sym (ap (λ o. reason_of o (first_failing (is_valid (shape_of v.layout)) d.rows) (first_ahead v d.rows)) none ∙ ap (λ o. reason_of None o (first_ahead v d.rows)) e)

pub reason-checked : (v : View) (d : DeltaState) (o : Option ℕ) → IsChecked (shape_of v.layout) d.rows
    → o ≡ first_ahead v d.rows → reason_of None None o ≡ reason v (Merge d)
reason-checked v d o checked e =
    ap (reason_of None None) e
    ∙ sym (ap (λ x. reason_of x (first_failing (is_valid (shape_of v.layout)) d.rows) (first_ahead v d.rows)) checked.placed ∙ ap (λ x. reason_of None x (first_ahead v d.rows)) checked.valid)

-- a delta that is not refused is checked, and tells no more of the site's own row than it did
pub record IsAccepted (v : View) (d : DeltaState) : Type 0 where
  pub checked : IsChecked (shape_of v.layout) d.rows
  pub behind : first_ahead v d.rows ≡ None

pub reason-accepted : (v : View) (d : DeltaState) → reason v (Merge d) ≡ None → IsAccepted v d
reason-accepted v d e =
    let clear = at (first_failing (is_placed (shape_of v.layout)) d.rows) (first_failing (is_valid (shape_of v.layout)) d.rows) (first_ahead v d.rows) e in
    record {
      checked = record { placed = clear.0; valid = clear.1.0 };
      behind = clear.1.1;
    }
  where
    at : (a b o : Option ℕ) → reason_of a b o ≡ None → (a ≡ None) × ((b ≡ None) × (o ≡ None))
    at None None None none = (refl, (refl, refl))
    at (Some i) b o none = cc
    at None (Some i) o none = cc
    at None None (Some i) none = cc

-- ---- what rows raise

cells_same : (n : ℕ) (f g : Cell → Bool) → ((cell : Cell) → f cell ≡ g cell)
    → number_of_cells n f ≡ number_of_cells n g
cells_same n f g same = ap (number_of_cells n) (λ i cell. same cell i)

cells_none : (n : ℕ) (f : Cell → Bool) → ((cell : Cell) → f cell ≡ false) → number_of_cells n f ≡ 0
cells_none n f none =
    omega (arith, total_zero n (λ j. one_if (f (Out j))) (λ j below. ap one_if (none (Out j))), ap one_if (none Taken), ap one_if (none Ann), ap one_if (none Fin))

-- how many counters of a place the rows raise
raised_at : Shape → (ℕ → ℕ → Cell → ℕ) → List Row → ℕ → ℕ → ℕ
raised_at shape counter rows r s =
    number_of_cells shape.sites (λ cell. ltb (counter r s cell) (shown_by shape rows r s cell))

-- where no row stands nothing is raised
raised_at-absent : (shape : Shape) (counter : ℕ → ℕ → Cell → ℕ) (rows : List Row) (r s : ℕ)
    → ((x y : ℕ) (cell : Cell) → start_counter shape x y cell ≤ counter x y cell)
    → AllByRecursion (λ q. stands_at q r s ≡ false) rows → raised_at shape counter rows r s ≡ 0
unfolding raised_at
raised_at-absent shape counter [] r s low absent =
    cells_none shape.sites _ (λ cell. le-ltb (counter r s cell) (start_counter shape r s cell) (low r s cell))
raised_at-absent shape counter (p ∷ ps) r s low absent =
    cells_same shape.sites _ _ (λ cell. ap (ltb (counter r s cell)) (cond-false (stands_at p r s) (counter_in (counters_of p) cell) (shown_by shape ps r s cell) absent.0))
    ∙ raised_at-absent shape counter ps r s low absent.1

-- at its own place the first row raises its counters, elsewhere the others do
raised_at-first : (shape : Shape) (counter : ℕ → ℕ → Cell → ℕ) (p : Row) (ps : List Row) (r s : ℕ) → p.r ≡ r → p.s ≡ s
    → raised_at shape counter (p ∷ ps) r s ≡ row_raises shape.sites counter p
unfolding raised_at
raised_at-first shape counter p ps r s same_record same_site =
    cells_same shape.sites _ _ (λ cell. ap (ltb (counter r s cell)) (cond-true (stands_at p r s) (counter_in (counters_of p) cell) (shown_by shape ps r s cell) here)
    ∙ ap (λ n. ltb n (counter_in (counters_of p) cell)) (ap (λ x. counter x s cell) (sym same_record) ∙ ap (λ x. counter p.r x cell) (sym same_site)))
  where
    here : stands_at p r s ≡ true
    here = and_from (eqb p.r r) (eqb p.s s) (eq-eqb p.r r same_record) (eq-eqb p.s s same_site)

raised_at-later : (shape : Shape) (counter : ℕ → ℕ → Cell → ℕ) (p : Row) (ps : List Row) (r s : ℕ)
    → stands_at p r s ≡ false → raised_at shape counter (p ∷ ps) r s ≡ raised_at shape counter ps r s
unfolding raised_at
raised_at-later shape counter p ps r s elsewhere =
    cells_same shape.sites _ _ (λ cell. ap (ltb (counter r s cell)) (cond-false (stands_at p r s) (counter_in (counters_of p) cell) (shown_by shape ps r s cell) elsewhere))

-- rows behind another stand elsewhere
stands_behind : (p q : Row) → ComesBefore p q → stands_at q p.r p.s ≡ false
stands_behind p q (inl before) = grind (arith, nat_tests)
stands_behind p q (inr before) = grind (arith, nat_tests)

pub all_behind : (p : Row) (ps : List Row) → AllByRecursion (ComesBefore p) ps
    → AllByRecursion (λ q. stands_at q p.r p.s ≡ false) ps
all_behind p [] all = tt
all_behind p (q ∷ qs) all = (stands_behind p q all.0, all_behind p qs all.1)

-- the places of one record
raised_in : (shape : Shape) (counter : ℕ → ℕ → Cell → ℕ) (p : Row) (ps : List Row) (r : ℕ)
    → ((x y : ℕ) (cell : Cell) → start_counter shape x y cell ≤ counter x y cell) → AllByRecursion (ComesBefore p) ps
    → p.s < shape.sites
    → total shape.sites (raised_at shape counter (p ∷ ps) r) ≡ cond (eqb r p.r) (row_raises shape.sites counter p) 0 + total shape.sites (raised_at shape counter ps r)
raised_in shape counter p ps r low before inside = at (cases_eq r p.r)
  where
    n : ℕ
    n = row_raises shape.sites counter p

    site : r ≡ p.r → (s : ℕ) → (s ≡ p.s) ⊎ (s ≡ p.s → ⊥)
        → raised_at shape counter (p ∷ ps) r s ≡ cond (eqb s p.s) n 0 + raised_at shape counter ps r s
    site e s (inl same) =
        let none : raised_at shape counter ps r s ≡ 0 = ap (λ x. raised_at shape counter ps x s) e ∙ (ap (raised_at shape counter ps p.r) same ∙ raised_at-absent shape counter ps p.r p.s low (all_behind p ps before)) in
        omega (arith, raised_at-first shape counter p ps r s (sym e) (sym same), cond-true {A = ℕ} (eqb s p.s) n 0 (eq-eqb s p.s same), none)
    site e s (inr apart) =
        omega (
          arith,
          raised_at-later shape counter p ps r s (elsewhere (ne_eqb p.s s (λ same. apart (sym same)))),
          cond-false {A = ℕ} (eqb s p.s) n 0 (ne_eqb s p.s apart),
        )
      where
        elsewhere : eqb p.s s ≡ false → stands_at p r s ≡ false
        elsewhere differs = grind (arith, nat_tests)

    at : (r ≡ p.r) ⊎ (r ≡ p.r → ⊥)
        → total shape.sites (raised_at shape counter (p ∷ ps) r) ≡ cond (eqb r p.r) n 0 + total shape.sites (raised_at shape counter ps r)
    at (inl e) =
        total_same shape.sites (raised_at shape counter (p ∷ ps) r) (λ s. cond (eqb s p.s) n 0 + raised_at shape counter ps r s) (λ s below. site e s (cases_eq s p.s))
        ∙ omega (arith, total_add shape.sites (λ s. cond (eqb s p.s) n 0) (raised_at shape counter ps r), total_only shape.sites p.s n inside, cond-true {A = ℕ} (eqb r p.r) n 0 (eq-eqb r p.r e))
    at (inr apart) =
        omega (
          arith,
          total_same shape.sites (raised_at shape counter (p ∷ ps) r) (raised_at shape counter ps r) (λ s below. raised_at-later shape counter p ps r s (elsewhere s (ne_eqb p.r r (λ same. apart (sym same))))),
          cond-false {A = ℕ} (eqb r p.r) n 0 (ne_eqb r p.r apart),
        )
      where
        elsewhere : (s : ℕ) → eqb p.r r ≡ false → stands_at p r s ≡ false
        elsewhere s differs = grind (arith, nat_tests)

-- rising rows raise what each of them raises
pub raised_sum : (shape : Shape) (counter : ℕ → ℕ → Cell → ℕ) (rows : List Row)
    → ((r s : ℕ) (cell : Cell) → start_counter shape r s cell ≤ counter r s cell) → IsRising rows
    → AllByRecursion (IsPlaced shape) rows
    → sum_by (row_raises shape.sites counter) rows ≡ raised_by shape counter rows
unfolding raised_at
raised_sum shape counter [] low rising placed =
    sym (total_zero (length shape.records) (λ r. total shape.sites (raised_at shape counter [] r))
    (λ r inside. total_zero shape.sites (raised_at shape counter [] r) (λ s below. raised_at-absent shape counter [] r s low tt)))
raised_sum shape counter (p ∷ ps) low rising placed =
    let later = raised_sum shape counter ps low rising.1 placed.1 in
    let split = total_same (length shape.records) (λ r. total shape.sites (raised_at shape counter (p ∷ ps) r)) (λ r. cond (eqb r p.r) (row_raises shape.sites counter p) 0 + total shape.sites (raised_at shape counter ps r)) (λ r below. raised_in shape counter p ps r low rising.0 (omega (arith, placed.0.own_there, placed.0.few_sites))) in
    omega (
      arith,
      sum_by-cons (row_raises shape.sites counter) p ps,
      later,
      split,
      total_add (length shape.records) (λ r. cond (eqb r p.r) (row_raises shape.sites counter p) 0) (λ r. total shape.sites (raised_at shape counter ps r)),
      total_only (length shape.records) p.r (row_raises shape.sites counter p) placed.0.record_there,
    )

-- ---- the first row that tells too much

-- where no row of the site raises a counter of the record, the rows do not tell too much of it
own_quiet : (shape : Shape) (counter : ℕ → ℕ → Cell → ℕ) (site r : ℕ) (rows : List Row)
    → ((x y : ℕ) (cell : Cell) → start_counter shape x y cell ≤ counter x y cell)
    → AllByRecursion (λ p. p.r ≡ r → p.s ≡ site → row_raises shape.sites counter p ≡ 0) rows
    → raised_at shape counter rows r site ≡ 0
own_quiet shape counter site r [] low quiet = raised_at-absent shape counter [] r site low tt
own_quiet shape counter site r (p ∷ ps) low quiet = at (cases_Bool (stands_at p r site)) (own_quiet shape counter site r ps low quiet.1)
  where
    at : (stands_at p r site ≡ true) ⊎ (stands_at p r site ≡ false) → raised_at shape counter ps r site ≡ 0
        → raised_at shape counter (p ∷ ps) r site ≡ 0
    at (inl here) later =
        let parts = and_parts (eqb p.r r) (eqb p.s site) here in
        let same_record = eqb-true p.r r parts.0 in
        let same_site = eqb-true p.s site parts.1 in
        raised_at-first shape counter p ps r site same_record same_site ∙ quiet.0 same_record same_site
    at (inr elsewhere) later = raised_at-later shape counter p ps r site elsewhere ∙ later

-- at its place a row of a rising list shows its counters
pub shown_there : (shape : Shape) (rows : List Row) (i : ℕ) (p : Row) (cell : Cell) → IsRising rows → i < length rows
    → p ≡ get_or rows i p → shown_by shape rows p.r p.s cell ≡ counter_in (counters_of p) cell
shown_there shape [] i p cell rising below read = absurd (omega arith)
shown_there shape (q ∷ qs) zero p cell rising below read =
    cond-true (stands_at q p.r p.s) (counter_in (counters_of q) cell) (shown_by shape qs p.r p.s cell)
    (and_from (eqb q.r p.r) (eqb q.s p.s) (eq-eqb q.r p.r (ap (λ (x : Row). x.r) (sym read))) (eq-eqb q.s p.s (ap (λ (x : Row). x.s) (sym read))))
    ∙ ap (λ (x : Row). counter_in (counters_of x) cell) (sym read)
shown_there shape (q ∷ qs) (suc i) p cell rising below read =
    cond-false (stands_at q p.r p.s) (counter_in (counters_of q) cell) (shown_by shape qs p.r p.s cell)
    (stands_apart q p (rw read (IsRising-at (q ∷ qs) 0 (suc i) p rising (omega arith) below)))
    ∙ shown_there shape qs i p cell rising.1 (omega arith) read

-- the row at its place raises what it raises
raised_there : (shape : Shape) (counter : ℕ → ℕ → Cell → ℕ) (rows : List Row) (i : ℕ) (p : Row) → IsRising rows
    → i < length rows → p ≡ get_or rows i p → raised_at shape counter rows p.r p.s ≡ row_raises shape.sites counter p
unfolding raised_at
raised_there shape counter rows i p rising below read =
    cells_same shape.sites _ _ (λ cell. ap (ltb (counter p.r p.s cell)) (shown_there shape rows i p cell rising below read))

-- no row of the site before i raises a counter
abbrev pub AreQuiet : ℕ → ℕ → (ℕ → ℕ → Cell → ℕ) → List Row → ℕ → Type 0
AreQuiet sites site counter rows i =
    (k : ℕ) (d : Row) → k < i → (get_or rows k d).s ≡ site → row_raises sites counter (get_or rows k d) ≡ 0

none_passes : (n : ℕ) (test : ℕ → Bool) → ((j : ℕ) → j < n → test j ≡ false) → least_below n test ≡ None
none_passes zero test none = refl
none_passes (suc n) test none = rw (none_passes n test (λ j below. none j (omega arith)), none n (omega arith)) refl

pub none_ahead : (v : View) (rows : List Row)
    → ((r s : ℕ) (cell : Cell) → start_counter (shape_of v.layout) r s cell ≤ v.counter r s cell)
    → AreQuiet v.layout.sites v.site v.counter rows (length rows) → first_ahead v rows ≡ None
unfolding raised_at
none_ahead v rows low quiet =
    none_passes (length v.layout.records) (tells_too_much v rows) (λ r below. ap (ltb 0) (own_quiet (shape_of v.layout) v.counter v.site r rows low
    (recursion_from_All (λ p. p.r ≡ r → p.s ≡ v.site → row_raises v.layout.sites v.counter p ≡ 0) rows (λ k d inside same_record same_site. quiet k d inside same_site))))

pub first_found : (v : View) (rows : List Row) (i : ℕ) (p : Row)
    → ((r s : ℕ) (cell : Cell) → start_counter (shape_of v.layout) r s cell ≤ v.counter r s cell) → IsRising rows
    → i < length rows → p ≡ get_or rows i p → p.r < length v.layout.records → p.s ≡ v.site
    → 0 < row_raises v.layout.sites v.counter p → AreQuiet v.layout.sites v.site v.counter rows i
    → first_ahead v rows ≡ Some p.r
unfolding raised_at
first_found v rows i p low rising below read inside own ahead quiet =
    least_below-found (length v.layout.records) (tells_too_much v rows) p.r (record { below = inside; passes = passes; least = least })
  where
    passes : tells_too_much v rows p.r ≡ true
    passes =
        lt-ltb 0 _ (subst (λ s. 0 < raised_at (shape_of v.layout) v.counter rows p.r s) own
        (subst (λ n. 0 < n) (sym (raised_there (shape_of v.layout) v.counter rows i p rising below read)) ahead))

    least : (j : ℕ) → j < p.r → tells_too_much v rows j ≡ false
    least j lower =
        ap (ltb 0) (own_quiet (shape_of v.layout) v.counter v.site j rows low
        (recursion_from_All (λ q. q.r ≡ j → q.s ≡ v.site → row_raises v.layout.sites v.counter q ≡ 0) rows (λ k d there same_record same_site. at k d there same_record same_site (cases_lt k i))))
      where
        further : (k : ℕ) (d : Row) → k < length rows → i ≤ k → p.r ≤ (get_or rows k d).r
        further k d there past = by (cases_eq k i)
          where
            here : get_or rows i d ≡ p
            here = sym (get_or_default rows i p d below) ∙ sym read

            by : (k ≡ i) ⊎ (k ≡ i → ⊥) → p.r ≤ (get_or rows k d).r
            by (inl e) =
                omega (arith, ap (λ (x : Row). x.r) (ap (λ m. get_or rows m d) e ∙ here))
            by (inr apart) =
                order (subst (λ (x : Row). ComesBefore x (get_or rows k d)) here (IsRising-at rows i k d rising (omega arith) there))
              where
                order : ComesBefore p (get_or rows k d) → p.r ≤ (get_or rows k d).r
                order (inl before) = omega arith
                order (inr before) = omega arith

        at : (k : ℕ) (d : Row) → k < length rows → (get_or rows k d).r ≡ j → (get_or rows k d).s ≡ v.site
            → (k < i) ⊎ (i ≤ k) → row_raises v.layout.sites v.counter (get_or rows k d) ≡ 0
        at k d there same_record same_site (inl before) = quiet k d before same_site
        at k d there same_record same_site (inr past) =
            absurd (omega (arith, further k d there past))

-- ---- at a core

-- the first row of the site's own that raises a counter is of the least record that is told too much of
pub ahead_at : (c : Core) (d : DeltaState) (read : List Row) (i : ℕ) (p : Row) → IsCore c → IsDelta d → read ≡ d.rows
    → IsChecked (book_shape c.book) d.rows → i < length read → p ≡ get_or read i p → p.s ≡ c.site
    → 0 < row_raises c.book.sites (counter_of c.book) p → AreQuiet c.book.sites c.site (counter_of c.book) read i
    → first_ahead (core_view c) d.rows ≡ Some p.r
ahead_at c d read i p is delta same checked below at_p own ahead quiet =
    subst (λ (ps : List Row). first_ahead (core_view c) ps ≡ Some p.r) same
    (first_found (core_view c) read i p has.low (subst IsRising (sym same) delta.rising) below at_p there own
    (subst (λ (n : ℕ). 0 < row_raises n (counter_of c.book) p) (sym has.same_sites) ahead)
    (subst (λ (n : ℕ). AreQuiet n c.site (counter_of c.book) read i) (sym has.same_sites) quiet))
  where
    has : HasJoinedBook c
    has = joined_book c is

    passes : is_placed (book_shape c.book) p ≡ true
    passes = passes_at (is_placed (book_shape c.book)) d.rows read i p checked.placed same below at_p

    there : p.r < length c.layout.records
    there =
        let place = placed_parts (book_shape c.book) p passes in
        omega (arith, place.record_there, has.same_records, length-map c.book.records shape_in)

-- where no row of the site's own raises a counter, no record is told too much of
pub none_ahead_at : (c : Core) (d : DeltaState) (read : List Row) → IsCore c → read ≡ d.rows
    → AreQuiet c.book.sites c.site (counter_of c.book) read (length read) → first_ahead (core_view c) d.rows ≡ None
none_ahead_at c d read is same quiet =
    subst (λ (ps : List Row). first_ahead (core_view c) ps ≡ None) same
    (none_ahead (core_view c) read has.low
    (subst (λ (n : ℕ). AreQuiet n c.site (counter_of c.book) read (length read)) (sym has.same_sites) quiet))
  where
    has : HasJoinedBook c
    has = joined_book c is

-- each row of a delta that is not refused has its place in the book
pub placed_at : (c : Core) (d : DeltaState) (read : List Row) (i : ℕ) (p : Row) → IsCore c → read ≡ d.rows
    → reason (core_view c) (Merge d) ≡ None → i < length read → p ≡ get_or read i p → is_placed (book_shape c.book) p ≡ true
placed_at c d read i p is same e below at_p =
    subst (λ (shape : Shape). is_placed shape p ≡ true) (joined_book c is).same_shape
    (passes_at (is_placed (shape_of c.layout)) d.rows read i p (reason-accepted (core_view c) d e).checked.placed same below at_p)

-- the rows of such a delta raise what each of them raises
pub raised_sum_at : (c : Core) (d : DeltaState) → IsCore c → IsDelta d → reason (core_view c) (Merge d) ≡ None
    → sum_by (row_raises c.book.sites (counter_of c.book)) d.rows ≡ raised_by (shape_of c.layout) (counter_of c.book) d.rows
raised_sum_at c d is delta e =
    ap (λ (n : ℕ). sum_by (row_raises n (counter_of c.book)) d.rows) (sym has.same_sites)
    ∙ raised_sum (shape_of c.layout) (counter_of c.book) d.rows has.low delta.rising placed
  where
    has : HasJoinedBook c
    has = joined_book c is

    placed : AllByRecursion (IsPlaced (shape_of c.layout)) d.rows
    placed =
        recursion_from_All (IsPlaced (shape_of c.layout)) d.rows
        (checked_placed (shape_of c.layout) d.rows (reason-accepted (core_view c) d e).checked)
