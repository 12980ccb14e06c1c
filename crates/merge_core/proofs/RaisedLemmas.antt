-- The counters that rows raise are those that rise from the book to its join with them.
use Rattle.std.proofs.Common.{◌≡◌, ℕ, ◌+◌, ◌<◌, ◌≤◌, ◌⊎◌, inl, inr, max, Bool, ltb, List, [], length, get_or, sym, ap, subst, ◌∙◌, arith}
use Rattle.std.proofs.lemmas.List.{length-map}
use Rattle.std.proofs.lemmas.Bool.{cases_lt, lt-ltb, le-ltb}
use Rattle.grow_counters.specs.Counts.{rise_count}
use Rattle.rights_matrix.specs.Joined.{rise_counts}
use Rattle.merge_core.specs.declared.cell.Cell.{Cell}
use Rattle.merge_core.specs.declared.cell.Cell.TheVariants.{Out, Taken, Ann, Fin}
use Rattle.merge_core.specs.declared.delta.Row.{Row}
use Rattle.merge_core.specs.declared.record.RecordState.{RecordState}
use Rattle.merge_core.specs.Layout.{Shape}
use Rattle.merge_core.specs.Rows.{counter_in}
use Rattle.merge_core.specs.Naming.{shown_by}
use Rattle.merge_core.specs.Book.{BookState, record_at, row_in, counter_of, shape_in, book_shape, IsRecord, IsBook, record_rises, book_rises}
use Rattle.merge_core.specs.Sums.{total, one_if, number_of_cells}
use Rattle.merge_core.specs.Moved.{raised_by}
use Rattle.merge_core.proofs.SumLemmas.{total_same, total_add}
use Rattle.merge_core.proofs.ListSumLemmas.{total-rise_count, total-rows_rise, total-records_rise}

-- the cell of a row rose from one record to another
rose : RecordState → RecordState → ℕ → Cell → Bool
rose x y s cell = ltb (counter_in (row_in x s) cell) (counter_in (row_in y s) cell)

-- one counter of each site
column : (n : ℕ) (xs ys : List ℕ) → length xs ≡ n → length ys ≡ n → rise_count xs ys ≡ total n (λ s. one_if (ltb (get_or xs s 0) (get_or ys s 0)))
column n xs ys size_xs size_ys =
    total-rise_count xs ys (size_xs ∙ sym size_ys)
    ∙ ap (λ m. total m (λ s. one_if (ltb (get_or xs s 0) (get_or ys s 0)))) size_xs

-- the counters of rights, row by row
rows_rise : (n : ℕ) (x y : RecordState) → IsRecord n x → IsRecord n y → rise_counts x.seats.matrix.rows y.seats.matrix.rows ≡ total n (λ s. total n (λ j. one_if (rose x y s (Out j))))
unfolding rose
rows_rise n x y is_x is_y =
    total-rows_rise x.seats.matrix.rows y.seats.matrix.rows (size_x ∙ sym is_y.seat_sites)
    ∙ (ap (λ m. total m (λ s. rise_count (row_x s) (row_y s))) size_x
    ∙ total_same n (λ s. rise_count (row_x s) (row_y s)) (λ s. total n (λ j. one_if (rose x y s (Out j)))) at_row)
  where
    size_x : length x.seats.matrix.rows ≡ n
    size_x = is_x.seat_sites

    row_x : ℕ → List ℕ
    row_x s = get_or x.seats.matrix.rows s []

    row_y : ℕ → List ℕ
    row_y s = get_or y.seats.matrix.rows s []

    at_row : (s : ℕ) → s < n → rise_count (row_x s) (row_y s) ≡ total n (λ j. one_if (rose x y s (Out j)))
    at_row s below =
        column n (row_x s) (row_y s) (is_x.seats.matrix.square s (omega (arith, is_x.seat_sites)) ∙ is_x.seat_sites)
        (is_y.seats.matrix.square s (omega (arith, is_y.seat_sites)) ∙ is_y.seat_sites)

-- how many counters of a record rose, cell by cell
record_rises-cells : (n : ℕ) (x y : RecordState) → IsRecord n x → IsRecord n y → record_rises x y ≡ total n (λ s. number_of_cells n (rose x y s))
unfolding rose
record_rises-cells n x y is_x is_y =
    omega (arith, rows_rise n x y is_x is_y, takens, anns, fins, total_add n outs (λ s. taken s + (ann s + fin s)), total_add n taken (λ s. ann s + fin s), total_add n ann fin)
  where
    outs : ℕ → ℕ
    outs s = total n (λ j. one_if (rose x y s (Out j)))

    taken : ℕ → ℕ
    taken s = one_if (rose x y s Taken)

    ann : ℕ → ℕ
    ann s = one_if (rose x y s Ann)

    fin : ℕ → ℕ
    fin s = one_if (rose x y s Fin)

    takens : rise_count x.seats.taken y.seats.taken ≡ total n taken
    takens = column n x.seats.taken y.seats.taken (is_x.seats.size ∙ is_x.seat_sites) (is_y.seats.size ∙ is_y.seat_sites)

    anns : rise_count x.notices.announced y.notices.announced ≡ total n ann
    anns = column n x.notices.announced y.notices.announced is_x.notice_sites is_y.notice_sites

    fins : rise_count x.notices.finished y.notices.finished ≡ total n fin
    fins = column n x.notices.finished y.notices.finished (is_x.notices.same_length ∙ is_x.notice_sites) (is_y.notices.same_length ∙ is_y.notice_sites)

-- a counter rises to its join where the row's is above it
rises_to_join : (c k m : ℕ) → m ≡ max c k → ltb c k ≡ ltb c m
rises_to_join c k m join = at (cases_lt c k)
  where
    at : (c < k) ⊎ (k ≤ c) → ltb c k ≡ ltb c m
    at (inl above) = lt-ltb c k above ∙ sym (lt-ltb c m (omega arith))
    at (inr within) = le-ltb c k within ∙ sym (le-ltb c m (omega arith))

-- rows raise what rises from the book to its join with them
pub raised_by-joined : (b new : BookState) (rows : List Row) → IsBook b → IsBook new → book_shape new ≡ book_shape b → ((r s : ℕ) (cell : Cell) → counter_of new r s cell ≡ max (counter_of b r s cell) (shown_by (book_shape b) rows r s cell)) → raised_by (book_shape b) (counter_of b) rows ≡ book_rises b new
unfolding rose
raised_by-joined b new rows book book_new same_shape joined =
    ap (λ n. total n (λ r. total b.sites (λ s. number_of_cells b.sites (raises r s)))) (length-map b.records shape_in)
    ∙ (total_same (length b.records) (λ r. total b.sites (λ s. number_of_cells b.sites (raises r s))) (λ r. record_rises (record_at b r) (record_at new r)) at_record
    ∙ sym (total-records_rise b.records new.records same_records))
  where
    same_sites : new.sites ≡ b.sites
    same_sites = ap (λ (shape : Shape). shape.sites) same_shape

    same_records : length b.records ≡ length new.records
    same_records =
        let same : length (book_shape new).records ≡ length (book_shape b).records = ap (λ (shape : Shape). length shape.records) same_shape in
        omega (arith, same, length-map b.records shape_in, length-map new.records shape_in)

    -- the rows show more than the book
    raises : ℕ → ℕ → Cell → Bool
    raises r s cell = ltb (counter_of b r s cell) (shown_by (book_shape b) rows r s cell)

    raises-rose : (r s : ℕ) → raises r s ≡ rose (record_at b r) (record_at new r) s
    raises-rose r s = λ i cell. at cell i
      where
        at : (cell : Cell) → raises r s cell ≡ rose (record_at b r) (record_at new r) s cell
        at cell =
            rises_to_join (counter_of b r s cell) (shown_by (book_shape b) rows r s cell) (counter_of new r s cell) (joined r s cell)

    at_record : (r : ℕ) → r < length b.records → total b.sites (λ s. number_of_cells b.sites (raises r s)) ≡ record_rises (record_at b r) (record_at new r)
    at_record r inside =
        total_same b.sites (λ s. number_of_cells b.sites (raises r s)) (λ s. number_of_cells b.sites (rose (record_at b r) (record_at new r) s))
        (λ s below. ap (number_of_cells b.sites) (raises-rose r s))
        ∙ sym (record_rises-cells b.sites (record_at b r) (record_at new r) (book.records r inside)
        (subst (λ (n : ℕ). IsRecord n (record_at new r)) same_sites (book_new.records r (omega (arith, same_records)))))
