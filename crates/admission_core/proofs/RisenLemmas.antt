-- The counters that a delta raises, column by column, are those whose slots rise.
use Rattle.std.proofs.Common.{◌≡◌, ◌≢◌, ℕ, zero, suc, ◌+◌, ◌<◌, ◌≤◌, ◌⊎◌, inl, inr, max, Bool, true, false, ◌&&◌, not, eqb, ltb, List, [], ◌∷◌, ◌++◌, length, get_or, take, Option, Some, None, refl, sym, ap, subst, ◌∙◌, append_assoc, arith}
use Rattle.std.specs.List.{AllByRecursion}
use Rattle.std.proofs.lemmas.Bool.{cases_eq, cases_Bool, cases_lt, eq-eqb, ne_eqb, ltb-true, lt-ltb, le-ltb, and_left, and_parts, cond_both}
use Rattle.std.proofs.lemmas.List.{take_more}
use Rattle.merge_core.specs.declared.cell.Cell.{Cell}
use Rattle.merge_core.specs.declared.cell.Cell.TheVariants.{Out, Taken, Ann, Fin}
use Rattle.merge_core.specs.declared.delta.Row.{Row}
use Rattle.merge_core.specs.Book.{HasCell}
use Rattle.merge_core.specs.Delta.{ComesBefore, IsRising}
use Rattle.merge_core.specs.Layout.{Shape}
use Rattle.merge_core.specs.Naming.{shown_by}
use Rattle.merge_core.specs.Rows.{start_counter, counter_in, counters_of}
use Rattle.admission_model.specs.declared.durable.DurableCell.{DurableCell}
use Rattle.admission_model.specs.Durable.{Named, Place, of_other, named, counter_named, at_slot, slots_from, slot_count, pick}
use Rattle.admission_core.specs.Joining.{raises_cell, cell_if, raises_other, cell_told, raised_column, raised_cells}
use Rattle.admission_core.proofs.SlotLemmas.{pick-yes, pick-no, pick-no_slots, hundred, sixteen, hundred-is, sixteen-is, by_hundreds, named-own, named-sent, named-counted, named-announced, named-finished, of_other-there, of_other-own}

-- ---- the code's columns

raised_column-append : (f : ℕ → ℕ → Cell → ℕ) (site first : ℕ) (cell : Cell) (xs ys : List Row)
    → raised_column f site first cell (xs ++ ys) ≡ raised_column f site first cell xs ++ raised_column f site first cell ys
raised_column-append f site first cell [] ys = refl
raised_column-append f site first cell (x ∷ xs) ys =
    ap (λ cs. cell_if (raises_other f site cell x) (cell_told first cell x) ++ cs) (raised_column-append f site first cell xs ys)
    ∙ sym (append_assoc (cell_if (raises_other f site cell x) (cell_told first cell x)) (raised_column f site first cell xs) (raised_column f site first cell ys))

only_first : (cs : List DurableCell) → cs ++ [] ≡ cs
only_first [] = refl
only_first (c ∷ cs) = ap (λ ds. c ∷ ds) (only_first cs)

-- a column with one row more
pub column_turn : (f : ℕ → ℕ → Cell → ℕ) (site first : ℕ) (cell : Cell) (rows : List Row) (i : ℕ) (p : Row) (start cells new : List DurableCell)
    → i < length rows → p ≡ get_or rows i p → cells ≡ start ++ raised_column f site first cell (take i rows)
    → new ≡ cells ++ cell_if (raises_other f site cell p) (cell_told first cell p)
    → new ≡ start ++ raised_column f site first cell (take (i + 1) rows)
column_turn f site first cell rows i p start cells new below read before change =
    change
    ∙ (ap (λ cs. cs ++ told) before
    ∙ (append_assoc start (raised_column f site first cell (take i rows)) told
    ∙ ap (λ cs. start ++ cs) (sym (ap (raised_column f site first cell) one_more ∙ (raised_column-append f site first cell (take i rows) (p ∷ []) ∙ ap (λ cs. raised_column f site first cell (take i rows) ++ cs) (only_first told))))))
  where
    told : List DurableCell
    told = cell_if (raises_other f site cell p) (cell_told first cell p)

    one_more : take (i + 1) rows ≡ take i rows ++ p ∷ []
    one_more = rw read (take_more rows i p below)

-- ---- a column against the slots

-- what a row tells at its slot, and where the slots lie
pub record IsToldAt (test : ℕ → ℕ → Bool) (value : ℕ → ℕ → ℕ) (f : ℕ → ℕ → Cell → ℕ) (site first r b n : ℕ) (cell : Cell) (p : Row) : Type 0 where
  pub same_record : p.r ≡ r
  pub above : b ≤ p.s
  pub below : p.s < b + n
  pub passes : test r (first + p.s) ≡ raises_other f site cell p
  pub value_told : raises_other f site cell p ≡ true → value r (first + p.s) ≡ counter_in (counters_of p) cell

-- rows behind one of the same record are of later sites
later_sites : (p : Row) (r : ℕ) (ps : List Row) → p.r ≡ r → AllByRecursion (ComesBefore p) ps
    → AllByRecursion (λ q. q.r ≡ r) ps → AllByRecursion (λ q. p.s < q.s) ps
later_sites p r [] here before same = tt
later_sites p r (q ∷ qs) here before same = (at before.0, later_sites p r qs here before.1 same.1)
  where
    at : ComesBefore p q → p.s < q.s
    at (inl less) = absurd (omega (arith, same.0))
    at (inr less) = less.1

abbrev AreTold : (ℕ → ℕ → Bool) → (ℕ → ℕ → ℕ) → (ℕ → ℕ → Cell → ℕ) → ℕ → ℕ → ℕ → ℕ → ℕ → Cell → List Row → Type 0
AreTold test value f site first r b n cell rows = AllByRecursion (IsToldAt test value f site first r b n cell) rows

told_records : (test : ℕ → ℕ → Bool) (value : ℕ → ℕ → ℕ) (f : ℕ → ℕ → Cell → ℕ) (site first r b n : ℕ) (cell : Cell) (rows : List Row)
    → AreTold test value f site first r b n cell rows → AllByRecursion (λ q. q.r ≡ r) rows
told_records test value f site first r b n cell [] all = tt
told_records test value f site first r b n cell (p ∷ ps) all =
    (all.0.same_record, told_records test value f site first r b n cell ps all.1)

-- the same rows lie above the next slot
told_next : (test : ℕ → ℕ → Bool) (value : ℕ → ℕ → ℕ) (f : ℕ → ℕ → Cell → ℕ) (site first r b n : ℕ) (cell : Cell) (rows : List Row)
    → AllByRecursion (λ q. b < q.s) rows → AreTold test value f site first r b (suc n) cell rows
    → AreTold test value f site first r (b + 1) n cell rows
told_next test value f site first r b n cell [] later all = tt
told_next test value f site first r b n cell (p ∷ ps) later all = (
  record {
    same_record = all.0.same_record;
    above = omega (arith, later.0);
    below = omega (arith, all.0.below);
    passes = all.0.passes;
    value_told = all.0.value_told;
  },
  told_next test value f site first r b n cell ps later.1 all.1,
)

apart_later : (b : ℕ) (rows : List Row) → AllByRecursion (λ q. b < q.s) rows → AllByRecursion (λ q. q.s ≢ b) rows
apart_later b [] all = tt
apart_later b (p ∷ ps) all = (λ e. absurd (omega (arith, all.0)), apart_later b ps all.1)

all_later : (b : ℕ) (p : Row) (ps : List Row) → b < p.s → AllByRecursion (λ q. p.s < q.s) ps
    → AllByRecursion (λ q. b < q.s) ps
all_later b p [] here all = tt
all_later b p (q ∷ qs) here all = (omega (arith, all.0), all_later b p qs here all.1)

-- what is picked of the slots is the column of the rows
pub column_picked : (test : ℕ → ℕ → Bool) (value : ℕ → ℕ → ℕ) (f : ℕ → ℕ → Cell → ℕ) (site first r b n : ℕ) (cell : Cell) (rows : List Row)
    → IsRising rows → AllByRecursion (IsToldAt test value f site first r b n cell) rows
    → ((s : ℕ) → b ≤ s → s < b + n → AllByRecursion (λ q. q.s ≢ s) rows → test r (first + s) ≡ false)
    → pick test value (slots_from r (first + b) n) ≡ raised_column f site first cell rows
column_picked test value f site first r b zero cell [] rising told quiet = refl
column_picked test value f site first r b zero cell (p ∷ ps) rising told quiet =
    absurd (omega (arith, told.0.above, told.0.below))
column_picked test value f site first r b (suc n) cell [] rising told quiet =
    let next : first + b + 1 ≡ first + (b + 1) = omega arith in
    pick-no test value (record { r = r; slot = first + b }) (slots_from r (first + b + 1) n) (quiet b (omega arith) (omega arith) tt)
    ∙ (ap (λ x. pick test value (slots_from r x n)) next
    ∙ column_picked test value f site first r (b + 1) n cell [] tt tt (λ s above below apart. quiet s (omega arith) (omega arith) tt))
column_picked test value f site first r b (suc n) cell (p ∷ ps) rising told quiet =
    at (cases_eq p.s b)
    (λ later. column_picked test value f site first r (b + 1) n cell ps rising.1 (told_next test value f site first r b n cell ps later told.1))
    (λ here later. column_picked test value f site first r (b + 1) n cell (p ∷ ps) rising (told_next test value f site first r b n cell (p ∷ ps) (here, later) told) (λ s above below apart. quiet s (omega arith) (omega arith) apart))
  where
    rest : List Place
    rest = slots_from r (first + b + 1) n

    next : first + b + 1 ≡ first + (b + 1)
    next = omega arith

    behind : AllByRecursion (λ q. p.s < q.s) ps
    behind =
        later_sites p r ps told.0.same_record rising.0 (told_records test value f site first r b (suc n) cell ps told.1)

    cell_here : DurableCell
    cell_here = record { r = r; slot = first + b; value = value r (first + b) }

    first_row : p.s ≡ b → pick test value rest ≡ raised_column f site first cell ps
        → (raises_other f site cell p ≡ true) ⊎ (raises_other f site cell p ≡ false)
        → pick test value (record { r = r; slot = first + b } ∷ rest) ≡ raised_column f site first cell (p ∷ ps)
    first_row e later (inl yes_it) =
        pick-yes test value (record { r = r; slot = first + b }) rest (ap (λ x. test r (first + x)) (sym e) ∙ (told.0.passes ∙ yes_it))
        ∙ (ap (λ cs. cell_here ∷ cs) later
        ∙ (ap (λ c. c ∷ raised_column f site first cell ps) same
        ∙ sym (ap (λ t. cell_if t (cell_told first cell p) ++ raised_column f site first cell ps) yes_it)))
      where
        same : cell_here ≡ cell_told first cell p
        same =
            ap (λ (x : ℕ). record { r = r; slot = first + x; value = value r (first + x) }) (sym e)
            ∙ (ap (λ (x : ℕ). record { r = r; slot = first + p.s; value = x }) (told.0.value_told yes_it)
            ∙ ap (λ (x : ℕ). record { r = x; slot = first + p.s; value = counter_in (counters_of p) cell }) (sym told.0.same_record))
    first_row e later (inr no_it) =
        pick-no test value (record { r = r; slot = first + b }) rest (ap (λ x. test r (first + x)) (sym e) ∙ (told.0.passes ∙ no_it))
        ∙ (later ∙ sym (ap (λ t. cell_if t (cell_told first cell p) ++ raised_column f site first cell ps) no_it))

    at : (p.s ≡ b) ⊎ (p.s ≡ b → ⊥)
        → (AllByRecursion (λ q. b < q.s) ps → ((s : ℕ) → b + 1 ≤ s → s < b + 1 + n → AllByRecursion (λ q. q.s ≢ s) ps → test r (first + s) ≡ false) → pick test value (slots_from r (first + (b + 1)) n) ≡ raised_column f site first cell ps)
        → (b < p.s → AllByRecursion (λ q. b < q.s) ps → pick test value (slots_from r (first + (b + 1)) n) ≡ raised_column f site first cell (p ∷ ps))
        → pick test value (record { r = r; slot = first + b } ∷ rest) ≡ raised_column f site first cell (p ∷ ps)
    at (inl e) taken skipped =
        first_row e (ap (λ x. pick test value (slots_from r x n)) next
        ∙ taken (subst (λ x. AllByRecursion (λ q. x < q.s) ps) e behind) (λ s above below apart. quiet s (omega arith) (omega arith) (λ same. absurd (omega arith), apart))) (cases_Bool (raises_other f site cell p))
    at (inr ne) taken skipped =
        let above : b ≤ p.s = told.0.above in
        let here : b < p.s = omega arith in
        let later = all_later b p ps here behind in
        pick-no test value (record { r = r; slot = first + b }) rest (quiet b (omega arith) (omega arith) (ne, apart_later b ps later))
        ∙ (ap (λ x. pick test value (slots_from r x n)) next ∙ skipped here later)

-- ---- what a delta raises at the slots of one record

-- the counters after the rows
abbrev pub joined_with : Shape → (ℕ → ℕ → Cell → ℕ) → List Row → ℕ → ℕ → Cell → ℕ
joined_with shape f rows r s cell = max (f r s cell) (shown_by shape rows r s cell)

-- the slot of site i rises
abbrev pub slot_rises : Shape → ℕ → (ℕ → ℕ → Cell → ℕ) → List Row → ℕ → ℕ → Bool
slot_rises shape i f rows r slot =
    ltb (at_slot shape.sites i f r slot) (at_slot shape.sites i (joined_with shape f rows) r slot)

-- the slot's new value
abbrev pub slot_after : Shape → ℕ → (ℕ → ℕ → Cell → ℕ) → List Row → ℕ → ℕ → ℕ
slot_after shape i f rows = at_slot shape.sites i (joined_with shape f rows)

-- a named counter rises
named_rises : (g h : ℕ → ℕ → Cell → ℕ) → ℕ → Option Named → Bool
named_rises g h r o = ltb (counter_named g r o) (counter_named h r o)

below_max : (c k : ℕ) → k ≤ c → ltb c (max c k) ≡ false
below_max c k low = le-ltb c (max c k) (omega arith)

above_max : (c k : ℕ) → ltb c (max c k) ≡ ltb c k
above_max c k = at (cases_lt c k)
  where
    at : (c < k) ⊎ (k ≤ c) → ltb c (max c k) ≡ ltb c k
    at (inl less) = lt-ltb c (max c k) (omega arith) ∙ sym (lt-ltb c k less)
    at (inr more) = le-ltb c (max c k) (omega arith) ∙ sym (le-ltb c k more)

-- a row of the record that the rows show
pub record IsShownRow (shape : Shape) (rows : List Row) (r : ℕ) (p : Row) : Type 0 where
  pub same_record : p.r ≡ r
  pub site_there : p.s < shape.sites
  pub shown : (cell : Cell) → shown_by shape rows r p.s cell ≡ counter_in (counters_of p) cell

-- what the rows show of one record: counters that are not below their start, nothing new of the site's own row,
-- and of the other sites what a group of rows tells
pub record ShowsGroup (shape : Shape) (i : ℕ) (f : ℕ → ℕ → Cell → ℕ) (rows : List Row) (r : ℕ) (group : List Row) : Type 0 where
  pub few_sites : shape.sites ≤ 16
  pub low : (s : ℕ) (cell : Cell) → start_counter shape r s cell ≤ f r s cell
  pub own : (cell : Cell) → HasCell shape.sites cell → shown_by shape rows r i cell ≤ f r i cell
  pub rising : IsRising group
  pub shown : AllByRecursion (IsShownRow shape rows r) group
  pub absent : (s : ℕ) → AllByRecursion (λ q. q.s ≢ s) group → (cell : Cell)
      → shown_by shape rows r s cell ≡ start_counter shape r s cell

-- each row tells its counter at its slot
each_told : (shape : Shape) (i : ℕ) (f : ℕ → ℕ → Cell → ℕ) (rows : List Row) (r first k : ℕ) (cell : Cell) (group : List Row)
    → shape.sites ≤ k → ((s : ℕ) → s < shape.sites → named shape.sites i (first + s) ≡ of_other shape.sites i s cell)
    → AllByRecursion (IsShownRow shape rows r) group
    → AllByRecursion (IsToldAt (slot_rises shape i f rows) (slot_after shape i f rows) f i first r 0 k cell) group
unfolding named_rises
each_told shape i f rows r first k cell [] few names shown = tt
each_told shape i f rows r first k cell (p ∷ ps) few names shown = (
  record {
    same_record = shown.0.same_record;
    above = omega arith;
    below = omega (arith, shown.0.site_there);
    passes = ap (named_rises f joined r) (names p.s shown.0.site_there) ∙ passes (cases_eq p.s i);
    value_told = λ e. ap (counter_named joined r) (names p.s shown.0.site_there) ∙ told e (cases_eq p.s i);
  },
  each_told shape i f rows r first k cell ps few names shown.1,
)
  where
    joined : ℕ → ℕ → Cell → ℕ
    joined = joined_with shape f rows

    shows : joined r p.s cell ≡ max (f p.r p.s cell) (counter_in (counters_of p) cell)
    shows = omega (arith, shown.0.shown cell, ap (λ x. f x p.s cell) shown.0.same_record)

    own_row : p.s ≡ i → raises_other f i cell p ≡ false
    own_row e = and_left (not (eqb p.s i)) (raises_cell f p cell) (ap not (eq-eqb p.s i e))

    passes : (p.s ≡ i) ⊎ (p.s ≡ i → ⊥)
        → named_rises f joined r (of_other shape.sites i p.s cell) ≡ raises_other f i cell p
    passes (inl e) = ap (named_rises f joined r) (of_other-own shape.sites i p.s cell e) ∙ sym (own_row e)
    passes (inr ne) =
        ap (named_rises f joined r) (of_other-there shape.sites i p.s cell shown.0.site_there ne)
        ∙ (ap (ltb (f r p.s cell)) shows
        ∙ (ap (λ x. ltb (f x p.s cell) (max (f p.r p.s cell) (counter_in (counters_of p) cell))) (sym shown.0.same_record)
        ∙ (above_max (f p.r p.s cell) (counter_in (counters_of p) cell)
        ∙ sym (ap (λ b. not b && raises_cell f p cell) (ne_eqb p.s i ne)))))

    told : raises_other f i cell p ≡ true → (p.s ≡ i) ⊎ (p.s ≡ i → ⊥)
        → counter_named joined r (of_other shape.sites i p.s cell) ≡ counter_in (counters_of p) cell
    told e (inl same) = let quiet = own_row same in cc
    told e (inr ne) =
        let raised = ltb-true (f p.r p.s cell) (counter_in (counters_of p) cell) (and_parts (not (eqb p.s i)) (raises_cell f p cell) e).1 in
        ap (counter_named joined r) (of_other-there shape.sites i p.s cell shown.0.site_there ne) ∙ omega (arith, shows, raised)

-- the slots of one kind
kind_picked : (shape : Shape) (i : ℕ) (f : ℕ → ℕ → Cell → ℕ) (rows : List Row) (r first k : ℕ) (cell : Cell) (group : List Row)
    → shape.sites ≤ k → ((s : ℕ) → s < k → named shape.sites i (first + s) ≡ of_other shape.sites i s cell)
    → ShowsGroup shape i f rows r group
    → pick (slot_rises shape i f rows) (slot_after shape i f rows) (slots_from r first k) ≡ raised_column f i first cell group
unfolding named_rises
kind_picked shape i f rows r first k cell group few names is =
    let start : first ≡ first + 0 = omega arith in
    ap (λ x. pick (slot_rises shape i f rows) (slot_after shape i f rows) (slots_from r x k)) start
    ∙ column_picked (slot_rises shape i f rows) (slot_after shape i f rows) f i first r 0 k cell group is.rising (each_told shape i f rows r first k cell group few (λ s below. names s (omega arith)) is.shown) quiet
  where
    joined : ℕ → ℕ → Cell → ℕ
    joined = joined_with shape f rows

    quiet : (s : ℕ) → 0 ≤ s → s < 0 + k → AllByRecursion (λ q. q.s ≢ s) group
        → slot_rises shape i f rows r (first + s) ≡ false
    quiet s above below apart =
        ap (named_rises f joined r) (names s (omega arith))
        ∙ cond_both (ltb s shape.sites && not (eqb s i)) (Some (record { s = s; cell = cell })) None (λ o. named_rises f joined r o ≡ false) (λ e. below_max (f r s cell) (shown_by shape rows r s cell) (omega (arith, is.absent s apart cell, is.low s cell))) (λ e. refl)

-- the site's own slots do not rise
own_picked : (shape : Shape) (i : ℕ) (f : ℕ → ℕ → Cell → ℕ) (rows : List Row) (r : ℕ) (group : List Row)
    → ShowsGroup shape i f rows r group
    → pick (slot_rises shape i f rows) (slot_after shape i f rows) (slots_from r 0 hundred) ≡ []
unfolding named_rises
own_picked shape i f rows r group is =
    pick-no_slots (slot_rises shape i f rows) (slot_after shape i f rows) r 0 hundred (λ slot above below. ap (named_rises f (joined_with shape f rows) r) (named-own shape.sites i slot (omega (arith, hundred-is)))
    ∙ cond_both (ltb slot shape.sites) (Some (record { s = i; cell = Out slot })) None (λ o. named_rises f (joined_with shape f rows) r o ≡ false) (λ e. below_max (f r i (Out slot)) (shown_by shape rows r i (Out slot)) (is.own (Out slot) (ltb-true slot shape.sites e))) (λ e. refl))

counted_picked : (shape : Shape) (i : ℕ) (f : ℕ → ℕ → Cell → ℕ) (rows : List Row) (r : ℕ) (group : List Row)
    → ShowsGroup shape i f rows r group
    → pick (slot_rises shape i f rows) (slot_after shape i f rows) (slots_from r 200 hundred) ≡ []
unfolding named_rises
counted_picked shape i f rows r group is =
    pick-no_slots (slot_rises shape i f rows) (slot_after shape i f rows) r 200 hundred (λ slot above below. ap (named_rises f (joined_with shape f rows) r) (named-counted shape.sites i slot above (omega (arith, hundred-is)))
    ∙ cond_both (eqb slot 200) _ _ (λ o. named_rises f (joined_with shape f rows) r o ≡ false) (λ e. level Taken tt) (λ e.
    cond_both (eqb slot 201) _ _ (λ o. named_rises f (joined_with shape f rows) r o ≡ false) (λ d. level Ann tt) (λ d.
    cond_both (eqb slot 202) _ _ (λ o. named_rises f (joined_with shape f rows) r o ≡ false) (λ b. level Fin tt) (λ b. refl))))
  where
    level : (cell : Cell) → HasCell shape.sites cell → ltb (f r i cell) (joined_with shape f rows r i cell) ≡ false
    level cell has = below_max (f r i cell) (shown_by shape rows r i cell) (is.own cell has)

-- the slots of a record that rise are what its rows raise
pub group_picked : (shape : Shape) (i : ℕ) (f : ℕ → ℕ → Cell → ℕ) (rows : List Row) (r : ℕ) (group : List Row)
    → ShowsGroup shape i f rows r group
    → pick (slot_rises shape i f rows) (slot_after shape i f rows) (slots_from r 0 slot_count) ≡ raised_cells f i group
group_picked shape i f rows r group is =
    by_hundreds (slot_rises shape i f rows) (slot_after shape i f rows) r
    ∙ (ap (λ cs. cs ++ (picked 100 hundred ++ (picked 200 hundred ++ (picked 300 hundred ++ picked 400 sixteen)))) (own_picked shape i f rows r group is)
    ∙ (ap (λ cs. picked 100 hundred ++ (cs ++ (picked 300 hundred ++ picked 400 sixteen))) (counted_picked shape i f rows r group is)
    ∙ (ap (λ cs. cs ++ (picked 300 hundred ++ picked 400 sixteen)) (kind_picked shape i f rows r 100 hundred (Out i) group (omega (arith, is.few_sites, hundred-is)) (λ s below. named-sent shape.sites i s (omega (arith, hundred-is))) is)
    ∙ (ap (λ cs. raised_column f i 100 (Out i) group ++ (cs ++ picked 400 sixteen)) (kind_picked shape i f rows r 300 hundred Ann group (omega (arith, is.few_sites, hundred-is)) (λ s below. named-announced shape.sites i s (omega (arith, hundred-is))) is)
    ∙ ap (λ cs. raised_column f i 100 (Out i) group ++ (raised_column f i 300 Ann group ++ cs)) (kind_picked shape i f rows r 400 sixteen Fin group (omega (arith, is.few_sites, sixteen-is)) (λ s below. named-finished shape.sites i s) is)))))
  where
    picked : ℕ → ℕ → List DurableCell
    picked a n = pick (slot_rises shape i f rows) (slot_after shape i f rows) (slots_from r a n)
