-- The counters of a content after the rows of a change were put.
use Rattle.std.proofs.Common.{◌≡◌, inl, inr, ℕ, ◌+◌, ◌-◌, ◌<◌, ◌≤◌, ◌^◌, Bool, true, false, ◌==◌, ◌&&◌, not, nat_lt, List, [], ◌∷◌, ◌++◌, Option, Some, None, unwrap_or, refl, sym, ap, ap₂, subst, ◌∙◌, arith}
use Rattle.std.specs.List.{AllByRecursion}
use Rattle.std.proofs.lemmas.Bool.{cases_Bool, cases_lt, and_parts}
use Rattle.std.proofs.lemmas.Bool.Decides.{nat_tests}
use Rattle.admission_model.specs.declared.durable.DurableCell.{DurableCell}
use Rattle.admission_model.specs.Durable.{AreRising, put_cells}
use Rattle.admission_model.specs.Restoring.{stored_at}
use Rattle.store_rows.specs.declared.content.StoredCell.{StoredCell}
use Rattle.store_rows.specs.declared.content.StoredNotice.{StoredNotice}
use Rattle.store_rows.specs.Rows.{Stored, cell_before, notice_before}
use Rattle.store_rows.specs.Sorted.{IsRising, put_all}
use Rattle.store_rows.proofs.ContentLemmas.{cells_ordered, notices_ordered}
use Rattle.store_content.specs.Content.{IsContent, IsCounter, IsNotice, announced_by, announced_cells, durable_cells, finished_by, finished_cells, notice_in, table_cells}
use Rattle.durable_keeper.specs.Keeping.{most_kept}
use Rattle.store_content.specs.Plan.{IsCell, IsSlot, begins_row, cells_of, notices_of, site_at}
use Rattle.durable_keeper.proofs.CellLists.{is_at, one_rising, or_else, or_else_none, puts_rise, stored_append, stored_puts}
use Rattle.store_content.proofs.PutLemmas.{all_put_all, cells_below, put_all_rises, stored_none, table_low}
use Rattle.store_content.proofs.TableLemmas.{misplaced_puts, or_else_more, stored_misplaced, stored_placed, table_rises}
use Rattle.store_content.proofs.RowLemmas.{has_row, none_announced, none_finished, row_found, row_of, rows_of}
use Rattle.store_content.proofs.ToldLemmas.{stored_high, stored_low, stored_told, told, value_in}

-- ---- values of a change

moved_at : (cs : List DurableCell) (r slot v : ℕ) → AllByRecursion IsCell cs → 300 ≤ slot → stored_at cs r slot ≡ Some v → 1 ≤ v
moved_at [] r slot v all high found = cc
moved_at (c ∷ cs) r slot v all high found = elim (cases_Bool (is_at r slot c)) [
  | inl e ↦
      let is : Some c.value ≡ Some v = rw e at found in
      let same : c.value ≡ v = cc in
      let there : c.slot ≡ slot = grind (arith, nat_tests) in
      let moved = all.0.moved (subst (λ s. 300 ≤ s) (sym there) high) in
      omega arith
  | inr e ↦ moved_at cs r slot v all.1 high (rw e at found)
]

small_at : (cs : List DurableCell) (r slot v : ℕ) → AllByRecursion IsCell cs → stored_at cs r slot ≡ Some v → v ≤ most_kept
small_at [] r slot v all found = cc
small_at (c ∷ cs) r slot v all found = elim (cases_Bool (is_at r slot c)) [
  | inl e ↦
      let is : Some c.value ≡ Some v = rw e at found in
      let same : c.value ≡ v = cc in
      subst (λ n. n ≤ most_kept) same all.0.small
  | inr e ↦ small_at cs r slot v all.1 (rw e at found)
]

told_unwrap : (o : Option ℕ) (n : ℕ) → ((v : ℕ) → o ≡ Some v → 1 ≤ v) → told (unwrap_or o n) ≡ or_else o (told n)
told_unwrap None n moved = refl
told_unwrap (Some v) n moved = let some = moved v refl in let e : (v == 0) ≡ false = grind (arith, nat_tests) in rw e refl

fits_unwrap : (o : Option ℕ) (n : ℕ) → ((v : ℕ) → o ≡ Some v → v ≤ most_kept) → n < 2 ^ 63 → unwrap_or o n < 2 ^ 63
fits_unwrap None n small fits = fits
fits_unwrap (Some v) n small fits = let low : v ≤ 2000000000000 = small v refl in omega arith

announced_fits : (ns : List StoredNotice) (r j : ℕ) → AllByRecursion IsNotice ns → announced_by (notice_in ns r j) < 2 ^ 63
announced_fits [] r j all = omega arith
announced_fits (n ∷ ns) r j all = elim (cases_Bool ((r == n.r) && (j == n.site))) [
  | inl e ↦ rw e all.0.announced_fits
  | inr e ↦ rw e (announced_fits ns r j all.1)
]

finished_fits : (ns : List StoredNotice) (r j : ℕ) → AllByRecursion IsNotice ns → finished_by (notice_in ns r j) < 2 ^ 63
finished_fits [] r j all = omega arith
finished_fits (n ∷ ns) r j all = elim (cases_Bool ((r == n.r) && (j == n.site))) [
  | inl e ↦ rw e all.0.finished_fits
  | inr e ↦ rw e (finished_fits ns r j all.1)
]

-- a site that a slot of a notice has
site_low : (slot : ℕ) → IsSlot slot → nat_lt slot 300 ≡ false → site_at slot ≤ 15
site_low slot (inl a) high = absurd (let clash : 300 ≤ slot = grind (arith, nat_tests) in omega arith)
site_low slot (inr (inl a)) high = let e : nat_lt slot 400 ≡ true = grind (arith, nat_tests) in rw e (omega arith)
site_low slot (inr (inr a)) high = let e : nat_lt slot 400 ≡ false = grind (arith, nat_tests) in rw e (omega arith)

not_true : (b : Bool) → not b ≡ true → b ≡ false
not_true true e = let clash : false ≡ true = e in cc
not_true false e = refl

announced_value : (o : Option StoredNotice) → value_in 300 (λ n. n.announced) o ≡ announced_by o
announced_value None = refl
announced_value (Some n) = refl

finished_value : (o : Option StoredNotice) → value_in 400 (λ n. n.finished) o ≡ finished_by o
finished_value None = refl
finished_value (Some n) = refl

pub sites_low : (ns : List StoredNotice) → AllByRecursion IsNotice ns → AllByRecursion (λ n. n.site ≤ 15) ns
sites_low [] all = tt
sites_low (n ∷ ns) all = (all.0.site_there, sites_low ns all.1)

-- the counters of a change that stand in the table of counters fit into it
cells_fit : (cs : List DurableCell) → AllByRecursion IsCell cs → AllByRecursion IsCounter (cells_of cs)
cells_fit [] all = tt
cells_fit (c ∷ cs) all = elim (cases_Bool (nat_lt c.slot 300)) [
  | inl e ↦ let low : c.slot < 300 = grind (arith, nat_tests) in rw e (record { record_fits = all.0.record_fits; slot_fits = omega arith }, cells_fit cs all.1)
  | inr e ↦ rw e (cells_fit cs all.1)
]

module _ (cells : List DurableCell) (it : Stored) (is : IsContent it) (up : AreRising cells) (all : AllByRecursion IsCell cells) where
  abbrev put_notices : List StoredNotice
  put_notices = put_all notice_before (notices_of cells it) it.notices

  abbrev put_table : List StoredCell
  put_table = put_all cell_before (cells_of cells) it.cells

  row_is : (x : DurableCell) → IsCell x → begins_row cells x ≡ true → IsNotice (row_of cells it x)
  row_is x cell begins = record {
    record_fits = cell.record_fits;
    site_there = site_low x.slot cell.slot (not_true (nat_lt x.slot 300) (and_parts _ _ begins).0);
    announced_fits = fits_unwrap (stored_at cells x.r (300 + site_at x.slot)) _ (λ v. small_at cells x.r (300 + site_at x.slot) v all) (announced_fits it.notices x.r (site_at x.slot) is.rows.notices);
    finished_fits = fits_unwrap (stored_at cells x.r (400 + site_at x.slot)) _ (λ v. small_at cells x.r (400 + site_at x.slot) v all) (finished_fits it.notices x.r (site_at x.slot) is.rows.notices);
  }

  rows_are : (xs : List DurableCell) → AllByRecursion IsCell xs → AllByRecursion IsNotice (rows_of cells it xs)
  rows_are [] each = tt
  rows_are (x ∷ xs) each = elim (cases_Bool (begins_row cells x)) [
    | inl e ↦ rw e (row_is x each.0 e, rows_are xs each.1)
    | inr e ↦ rw e (rows_are xs each.1)
  ]

  pub notices_are : AllByRecursion IsNotice (notices_of cells it)
  notices_are = rows_are cells all

  pub put_notices_are : AllByRecursion IsNotice put_notices
  put_notices_are = all_put_all notice_before IsNotice (notices_of cells it) it.notices notices_are is.rows.notices

  pub put_notices_rise : IsRising notice_before put_notices
  put_notices_rise = put_all_rises notice_before notices_ordered (notices_of cells it) it.notices is.rows.notices_rise

  pub put_table_fits : AllByRecursion IsCounter put_table
  put_table_fits = all_put_all cell_before IsCounter (cells_of cells) it.cells (cells_fit cells all) is.rows.cells

  pub put_table_rises : IsRising cell_before put_table
  put_table_rises = put_all_rises cell_before cells_ordered (cells_of cells) it.cells is.rows.cells_rise

  announced_after : (r j : ℕ) → j ≤ 15 → announced_by (notice_in put_notices r j) ≡ unwrap_or (stored_at cells r (300 + j)) (announced_by (notice_in it.notices r j))
  announced_after r j few = ap announced_by (row_found cells it cells it.notices r j) ∙ elim (cases_Bool (has_row cells it r j cells)) [
    | inl e ↦ rw e refl
    | inr e ↦ rw (e, none_announced cells it cells r j few e) refl
  ]

  finished_after : (r j : ℕ) → j ≤ 15 → finished_by (notice_in put_notices r j) ≡ unwrap_or (stored_at cells r (400 + j)) (finished_by (notice_in it.notices r j))
  finished_after r j few = ap finished_by (row_found cells it cells it.notices r j) ∙ elim (cases_Bool (has_row cells it r j cells)) [
    | inl e ↦ rw e refl
    | inr e ↦ rw (e, none_finished cells it cells r j few (none_announced cells it cells r j few e) e) refl
  ]

  told_announced : (ns : List StoredNotice) (r j : ℕ) → IsRising notice_before ns → j ≤ 15 → stored_at (announced_cells ns ++ finished_cells ns) r (300 + j) ≡ told (announced_by (notice_in ns r j))
  told_announced ns r j rise few =
      stored_append (announced_cells ns) (finished_cells ns) r (300 + j)
      ∙ ap₂ or_else (stored_told 300 (λ n. n.announced) ns r j rise ∙ ap told (announced_value (notice_in ns r j))) (stored_low 400 (λ n. n.finished) ns r (300 + j) (omega arith))
      ∙ or_else_none (told (announced_by (notice_in ns r j)))

  told_finished : (ns : List StoredNotice) (r j : ℕ) → IsRising notice_before ns → AllByRecursion IsNotice ns → stored_at (announced_cells ns ++ finished_cells ns) r (400 + j) ≡ told (finished_by (notice_in ns r j))
  told_finished ns r j rise each =
      stored_append (announced_cells ns) (finished_cells ns) r (400 + j)
      ∙ ap₂ or_else (stored_high 300 (λ n. n.announced) ns r (400 + j) (sites_low ns each) (omega arith)) (stored_told 400 (λ n. n.finished) ns r j rise ∙ ap told (finished_value (notice_in ns r j)))

  told_between : (ns : List StoredNotice) (r slot : ℕ) → AllByRecursion IsNotice ns → 315 < slot → slot < 400 → stored_at (announced_cells ns ++ finished_cells ns) r slot ≡ None
  told_between ns r slot each high low =
      stored_append (announced_cells ns) (finished_cells ns) r slot
      ∙ ap₂ or_else (stored_high 300 (λ n. n.announced) ns r slot (sites_low ns each) (omega arith)) (stored_low 400 (λ n. n.finished) ns r slot low)

  told_past : (ns : List StoredNotice) (r slot : ℕ) → AllByRecursion IsNotice ns → 415 < slot → stored_at (announced_cells ns ++ finished_cells ns) r slot ≡ None
  told_past ns r slot each high =
      stored_append (announced_cells ns) (finished_cells ns) r slot
      ∙ ap₂ or_else (stored_high 300 (λ n. n.announced) ns r slot (sites_low ns each) (omega arith)) (stored_high 400 (λ n. n.finished) ns r slot (sites_low ns each) (omega arith))

  told_below : (ns : List StoredNotice) (r slot : ℕ) → slot < 300 → stored_at (announced_cells ns ++ finished_cells ns) r slot ≡ None
  told_below ns r slot low =
      stored_append (announced_cells ns) (finished_cells ns) r slot
      ∙ ap₂ or_else (stored_low 300 (λ n. n.announced) ns r slot low) (stored_low 400 (λ n. n.finished) ns r slot (omega arith))

  slots_are : (xs : List DurableCell) → AllByRecursion IsCell xs → AllByRecursion (λ c. IsSlot c.slot) xs
  slots_are [] each = tt
  slots_are (x ∷ xs) each = (each.0.slot, slots_are xs each.1)

  abbrev Law : ℕ → ℕ → Type 0
  Law r slot = stored_at (announced_cells put_notices ++ finished_cells put_notices) r slot ≡ or_else (stored_at cells r slot) (stored_at (announced_cells it.notices ++ finished_cells it.notices) r slot)

  law_announced : (r j : ℕ) → j ≤ 15 → Law r (300 + j)
  law_announced r j few =
      told_announced put_notices r j put_notices_rise few ∙ ap told (announced_after r j few)
      ∙ told_unwrap (stored_at cells r (300 + j)) (announced_by (notice_in it.notices r j)) (λ v. moved_at cells r (300 + j) v all (omega arith))
      ∙ ap (or_else (stored_at cells r (300 + j))) (sym (told_announced it.notices r j is.rows.notices_rise few))

  law_finished : (r j : ℕ) → j ≤ 15 → Law r (400 + j)
  law_finished r j few =
      told_finished put_notices r j put_notices_rise put_notices_are ∙ ap told (finished_after r j few)
      ∙ told_unwrap (stored_at cells r (400 + j)) (finished_by (notice_in it.notices r j)) (λ v. moved_at cells r (400 + j) v all (omega arith))
      ∙ ap (or_else (stored_at cells r (400 + j))) (sym (told_finished it.notices r j is.rows.notices_rise is.rows.notices))

  nothing : (r slot : ℕ) → (IsSlot slot → ⊥) → stored_at (announced_cells put_notices ++ finished_cells put_notices) r slot ≡ None
      → stored_at (announced_cells it.notices ++ finished_cells it.notices) r slot ≡ None → Law r slot
  nothing r slot never new old = new ∙ sym (ap₂ or_else (stored_none IsSlot cells r slot (slots_are cells all) never) old)

  between : (slot : ℕ) → 315 < slot → slot < 400 → IsSlot slot → ⊥
  between slot a b (inl x) = absurd (omega arith)
  between slot a b (inr (inl x)) = absurd (omega (arith, x.1))
  between slot a b (inr (inr x)) = absurd (omega (arith, x.0))

  past : (slot : ℕ) → 415 < slot → IsSlot slot → ⊥
  past slot a (inl x) = absurd (omega arith)
  past slot a (inr (inl x)) = absurd (omega (arith, x.1))
  past slot a (inr (inr x)) = absurd (omega (arith, x.1))

  law_high : (r slot : ℕ) → 300 ≤ slot → Law r slot
  law_high r slot high = elim (cases_lt slot 316) [
    | inl a ↦ let e : 300 + (slot - 300) ≡ slot = omega arith in subst (Law r) e (law_announced r (slot - 300) (omega arith))
    | inr a ↦ elim (cases_lt slot 400) [
      | inl b ↦ nothing r slot (between slot (omega arith) b) (told_between put_notices r slot put_notices_are (omega arith) b) (told_between it.notices r slot is.rows.notices (omega arith) b)
      | inr b ↦ elim (cases_lt slot 416) [
        | inl d ↦ let e : 400 + (slot - 400) ≡ slot = omega arith in subst (Law r) e (law_finished r (slot - 400) (omega arith))
        | inr d ↦ nothing r slot (past slot (omega arith)) (told_past put_notices r slot put_notices_are (omega arith)) (told_past it.notices r slot is.rows.notices (omega arith))
      ]
    ]
  ]

  abbrev new_cells : List DurableCell
  new_cells = put_cells (announced_cells put_notices ++ finished_cells put_notices) (table_cells put_table)

  table_high : (r slot : ℕ) → 300 ≤ slot → stored_at (table_cells put_table) r slot ≡ stored_at (table_cells it.cells) r slot
  table_high r slot high =
      stored_misplaced put_table r slot high ∙ ap (λ l. stored_at l r slot) (misplaced_puts (cells_of cells) it.cells (cells_below cells)) ∙ sym (stored_misplaced it.cells r slot high)

  found_high : (r slot : ℕ) → 300 ≤ slot → stored_at new_cells r slot ≡ stored_at (put_cells cells (durable_cells it)) r slot
  found_high r slot high =
      stored_puts (announced_cells put_notices ++ finished_cells put_notices) (table_cells put_table) r slot
      ∙ ap₂ or_else (law_high r slot high) (table_high r slot high)
      ∙ or_else_more (stored_at cells r slot) (stored_at (announced_cells it.notices ++ finished_cells it.notices) r slot) (stored_at (table_cells it.cells) r slot)
      ∙ ap (or_else (stored_at cells r slot)) (sym (stored_puts (announced_cells it.notices ++ finished_cells it.notices) (table_cells it.cells) r slot))
      ∙ sym (stored_puts cells (durable_cells it) r slot)

  found_low : (r slot : ℕ) → slot < 300 → stored_at new_cells r slot ≡ stored_at (put_cells cells (durable_cells it)) r slot
  found_low r slot small =
      let test : nat_lt slot 300 ≡ true = grind (arith, nat_tests) in
      stored_puts (announced_cells put_notices ++ finished_cells put_notices) (table_cells put_table) r slot
      ∙ ap₂ or_else (told_below put_notices r slot small) (stored_placed put_table r slot small ∙ table_low cells it.cells r slot up test)
      ∙ ap (or_else (stored_at cells r slot)) (sym (
      stored_puts (announced_cells it.notices ++ finished_cells it.notices) (table_cells it.cells) r slot
      ∙ ap₂ or_else (told_below it.notices r slot small) (stored_placed it.cells r slot small)
      ))
      ∙ sym (stored_puts cells (durable_cells it) r slot)

  -- the counters after the rows were put are those with the change's put
  pub cells_law : new_cells ≡ put_cells cells (durable_cells it)
  cells_law = one_rising new_cells (put_cells cells (durable_cells it))
      (puts_rise (announced_cells put_notices ++ finished_cells put_notices) (table_cells put_table) (table_rises put_table put_table_rises))
      (puts_rise cells (durable_cells it) (puts_rise (announced_cells it.notices ++ finished_cells it.notices) (table_cells it.cells) (table_rises it.cells is.rows.cells_rise)))
      (λ r slot. elim (cases_lt slot 300) [ inl a ↦ found_low r slot a | inr a ↦ found_high r slot a ])
