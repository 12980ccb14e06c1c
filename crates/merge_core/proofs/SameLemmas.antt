-- Books of one shape that show the same counters are the same book.
use Rattle.std.proofs.Common.{◌≡◌, ℕ, ◌<◌, ◌↔◌, List, [], length, get_or, sym, ap, ◌∙◌, subst, arith}
use Rattle.std.proofs.lemmas.List.{ext_get_or, length-map}
use Rattle.rights_matrix.specs.Matrix.{MatrixState}
use Rattle.merge_core.specs.declared.cell.Cell.{Cell}
use Rattle.merge_core.specs.declared.cell.Cell.TheVariants.{Out, Taken, Ann, Fin}
use Rattle.merge_core.specs.declared.record.RecordState.{RecordState}
use Rattle.merge_core.specs.Layout.{Shape, RecordShape}
use Rattle.merge_core.specs.Rows.{RowCounters, counter_in}
use Rattle.merge_core.specs.Book.{BookState, nothing_known, record_at, row_in, counter_of, Names, shape_in, book_shape, IsRecord, IsBook}
use Rattle.merge_core.specs.Order.{NamesSame}
use Rattle.merge_core.proofs.UnitLemmas.{same-from_units}
use Rattle.merge_core.proofs.JoinLemmas.{shape_at}

matrix-same : (a b : MatrixState) → b.home ≡ a.home → b.seats ≡ a.seats → a.rows ≡ b.rows → a ≡ b
matrix-same a b home seats rows =
    ap (λ (h : ℕ). let m : MatrixState = record { home = h; seats = a.seats; rows = a.rows } in m) (sym home)
    ∙ ap (λ (n : ℕ). let m : MatrixState = record { home = b.home; seats = n; rows = a.rows } in m) (sym seats)
    ∙ ap (λ (r : List (List ℕ)). let m : MatrixState = record { home = b.home; seats = b.seats; rows = r } in m) rows

record-same : (a b : RecordState) → a.seats.matrix ≡ b.seats.matrix → a.seats.taken ≡ b.seats.taken → a.notices.announced ≡ b.notices.announced → a.notices.finished ≡ b.notices.finished → a ≡ b
record-same a b matrix taken ann fin =
    ap (λ (m : MatrixState). let x : RecordState = record { seats = record { matrix = m; taken = a.seats.taken }; notices = a.notices } in x) matrix
    ∙ ap (λ (t : List ℕ). let x : RecordState = record { seats = record { matrix = b.seats.matrix; taken = t }; notices = a.notices } in x) taken
    ∙ ap (λ (n : List ℕ). let x : RecordState = record { seats = b.seats; notices = record { announced = n; finished = a.notices.finished } } in x) ann
    ∙ ap (λ (n : List ℕ). let x : RecordState = record { seats = b.seats; notices = record { announced = b.notices.announced; finished = n } } in x) fin

-- records of one shape whose rows are the same
pub same_records : (sites : ℕ) (a b : RecordState) → IsRecord sites a → IsRecord sites b → shape_in b ≡ shape_in a → ((k : ℕ) → k < sites → row_in a k ≡ row_in b k) → a ≡ b
same_records sites a b is_a is_b shape rows = record-same a b
    (matrix-same a.seats.matrix b.seats.matrix
    (ap (λ (it : RecordShape). it.home) shape)
    (ap (λ (it : RecordShape). it.seats) shape)
    (ext_get_or [] a.seats.matrix.rows b.seats.matrix.rows (is_a.seat_sites ∙ sym is_b.seat_sites) (λ k below. ap (λ (row : RowCounters). row.out) (rows k (omega (arith, is_a.seat_sites))))))
    (ext_get_or 0 a.seats.taken b.seats.taken (is_a.seats.size ∙ is_a.seat_sites ∙ sym is_b.seat_sites ∙ sym is_b.seats.size) (λ k below. ap (λ (row : RowCounters). row.taken) (rows k (omega (arith, is_a.seats.size, is_a.seat_sites)))))
    (ext_get_or 0 a.notices.announced b.notices.announced (is_a.notice_sites ∙ sym is_b.notice_sites) (λ k below. ap (λ (row : RowCounters). row.ann) (rows k (omega (arith, is_a.notice_sites)))))
    (ext_get_or 0 a.notices.finished b.notices.finished (is_a.notices.same_length ∙ is_a.notice_sites ∙ sym is_b.notice_sites ∙ sym is_b.notices.same_length) (λ k below. ap (λ (row : RowCounters). row.fin) (rows k (omega (arith, is_a.notices.same_length, is_a.notice_sites)))))

-- rows of one length whose counters are the same
same_rows : (x y : RowCounters) → length x.out ≡ length y.out → ((cell : Cell) → counter_in x cell ≡ counter_in y cell) → x ≡ y
same_rows x y sizes counters =
    ap (λ (out : List ℕ). let row : RowCounters = record { out = out; taken = x.taken; ann = x.ann; fin = x.fin } in row) (ext_get_or 0 x.out y.out sizes (λ j below. counters (Out j)))
    ∙ ap (λ (n : ℕ). let row : RowCounters = record { out = y.out; taken = n; ann = x.ann; fin = x.fin } in row) (counters Taken)
    ∙ ap (λ (n : ℕ). let row : RowCounters = record { out = y.out; taken = y.taken; ann = n; fin = x.fin } in row) (counters Ann)
    ∙ ap (λ (n : ℕ). let row : RowCounters = record { out = y.out; taken = y.taken; ann = y.ann; fin = n } in row) (counters Fin)

-- books of one shape have as many records and sites
pub record_count : (a b : BookState) → book_shape b ≡ book_shape a → length b.records ≡ length a.records
record_count a b shape = sym (length-map b.records shape_in) ∙ ap (λ (it : Shape). length it.records) shape ∙ length-map a.records shape_in

pub site_shape : (a b : BookState) → book_shape b ≡ book_shape a → b.sites ≡ a.sites
site_shape a b shape = ap (λ (it : Shape). it.sites) shape

pub record_shape_at : (a b : BookState) (r : ℕ) → book_shape b ≡ book_shape a → shape_in (record_at b r) ≡ shape_in (record_at a r)
record_shape_at a b r shape = sym (shape_at b r) ∙ ap (λ (it : Shape). get_or it.records r (record { seats = 0; home = 0 })) shape ∙ shape_at a r

-- books of one shape whose records are the same
pub same_books : (a b : BookState) → book_shape b ≡ book_shape a → ((r : ℕ) → r < length a.records → record_at a r ≡ record_at b r) → a ≡ b
same_books a b shape records =
    ap (λ (xs : List RecordState). let x : BookState = record { sites = a.sites; records = xs } in x) (ext_get_or nothing_known a.records b.records (sym (record_count a b shape)) records)
    ∙ ap (λ (n : ℕ). let x : BookState = record { sites = n; records = b.records } in x) (sym (site_shape a b shape))

-- books of one shape that name the same
pub same_from_names : (a b : BookState) → IsBook a → IsBook b → book_shape b ≡ book_shape a → NamesSame a b → a ≡ b
same_from_names a b book_a book_b shape names = same_books a b shape at_record
  where
    counters : (r s : ℕ) (cell : Cell) → counter_of a r s cell ≡ counter_of b r s cell
    counters r s cell = same-from_units (counter_of a r s cell) (counter_of b r s cell) (λ k. names r s cell k)

    sites : b.sites ≡ a.sites
    sites = site_shape a b shape

    at_record : (r : ℕ) → r < length a.records → record_at a r ≡ record_at b r
    at_record r below =
        let is_a = book_a.records r below in
        let is_b = book_b.records r (omega (arith, record_count a b shape)) in
        let is_b' : IsRecord a.sites (record_at b r) = subst (λ (n : ℕ). IsRecord n (record_at b r)) sites is_b in
        same_records a.sites (record_at a r) (record_at b r) is_a is_b' (record_shape_at a b r shape)
        (λ s site. same_rows (row_in (record_at a r) s) (row_in (record_at b r) s)
        (omega (arith, is_a.seat_sites, is_b'.seat_sites, is_a.seats.matrix.square s (omega (arith, is_a.seat_sites)), is_b'.seats.matrix.square s (omega (arith, is_b'.seat_sites))))
        (λ cell. counters r s cell))

pub NamesSame-refl : (a b : BookState) → a ≡ b → NamesSame a b
NamesSame-refl a b same r s cell k =
    subst (λ (x : BookState). Names a r s cell k ↔ Names x r s cell k) same (λ h. h, λ h. h)
