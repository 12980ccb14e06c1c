-- The book before any operation, counter by counter.
use Rattle.std.proofs.Common.{◌≡◌, ℕ, zero, suc, ◌<◌, ◌==◌, List, [], ◌∷◌, ◌++◌, ◌+◌, take, length, get_or, map, All, refl, sym, subst, ap, ◌∙◌, arith, if◌then◌else◌}
use Rattle.std.proofs.lemmas.Bool.Decides.{nat_tests}
use Rattle.std.proofs.lemmas.List.{map_more}
use Rattle.std.proofs.lemmas.List.Elements.{All-tail}
use Rattle.rights_matrix.specs.Matrix.{start_matrix, entry}
use Rattle.rights_matrix.proofs.StartLemmas.{entry-start, zero_row}
use Rattle.merge_core.specs.declared.cell.Cell.{Cell}
use Rattle.merge_core.specs.declared.cell.Cell.TheVariants.{Out, Taken, Ann, Fin}
use Rattle.merge_core.specs.declared.layout.RecordSpec.{RecordSpec}
use Rattle.merge_core.specs.declared.record.RecordState.{RecordState}
use Rattle.merge_core.specs.Layout.{LayoutState, RecordShape, record_shape, shape_of, IsLayout}
use Rattle.merge_core.specs.Rows.{start_counter}
use Rattle.seat_rows.specs.Seats.{HasSeatRights}
use Rattle.seat_rows.proofs.SeatLemmas.{HasSeatRights-start}
use Rattle.merge_core.specs.Book.{BookState, seats_at, counter_of, shape_in, book_shape}
use Rattle.merge_core.specs.Order.{NamesGrants}
use Rattle.merge_core.specs.Start.{start_record}
use Rattle.merge_core.proofs.UnitLemmas.{units-from_same}

-- the book of a layout before any operation
abbrev pub started : ℕ → List RecordSpec → BookState
started sites specs = record { sites = sites; records = map (start_record sites) specs }

abbrev pub book_with : ℕ → List RecordState → BookState
book_with sites items = record { sites = sites; records = items }

abbrev pub layout_with : ℕ → List RecordSpec → LayoutState
layout_with sites specs = record { sites = sites; records = specs }

-- one record more
pub started_more : (sites : ℕ) (specs : List RecordSpec) (i : ℕ) (spec : RecordSpec) (it : RecordState) (items : List RecordState) → i < length specs → spec ≡ get_or specs i spec → it ≡ start_record sites spec → items ≡ map (start_record sites) (take i specs) → items ++ it ∷ [] ≡ map (start_record sites) (take (i + 1) specs)
started_more sites specs i spec it items below read is so_far =
    let more = map_more (start_record sites) specs i spec below in
    let there : start_record sites spec ≡ start_record sites (get_or specs i spec) = ap (start_record sites) read in
    cc

shapes-started : (sites : ℕ) (specs : List RecordSpec) → map shape_in (map (start_record sites) specs) ≡ map record_shape specs
shapes-started sites [] = refl
shapes-started sites (x ∷ xs) = ap (λ (rest : List RecordShape). record_shape x ∷ rest) (shapes-started sites xs)

pub book_shape-started : (sites : ℕ) (specs : List RecordSpec) → book_shape (started sites specs) ≡ shape_of (layout_with sites specs)
book_shape-started sites specs =
    rw (shapes-started sites specs) refl

-- one record at the start
out-started : (sites home seats s j : ℕ) → home < sites → entry (start_matrix sites home seats) s j ≡ (if j == s then (if s == home then seats else 0) else 0)
out-started sites home seats s j inside =
    let e = entry-start sites home seats s j inside in
    e ∙ grind (arith, nat_tests)

pub counter_of-started : (sites : ℕ) (specs : List RecordSpec) → All (λ spec. spec.home < sites) specs → (r s : ℕ) (cell : Cell) → counter_of (started sites specs) r s cell ≡ start_counter (shape_of (layout_with sites specs)) r s cell
counter_of-started sites [] homes r s (Out j) = grind (arith, nat_tests)
counter_of-started sites [] homes r s Taken = refl
counter_of-started sites [] homes r s Ann = refl
counter_of-started sites [] homes r s Fin = refl
counter_of-started sites (x ∷ xs) homes zero s (Out j) = out-started sites x.home x.seats s j (homes 0 x (omega arith))
counter_of-started sites (x ∷ xs) homes zero s Taken = zero_row sites s
counter_of-started sites (x ∷ xs) homes zero s Ann = zero_row sites s
counter_of-started sites (x ∷ xs) homes zero s Fin = zero_row sites s
counter_of-started sites (x ∷ xs) homes (suc r) s cell = counter_of-started sites xs (All-tail (λ spec. spec.home < sites) x xs homes) r s cell

pub NamesGrants-started : (sites : ℕ) (specs : List RecordSpec) → All (λ spec. spec.home < sites) specs → NamesGrants (started sites specs)
NamesGrants-started sites specs homes r s cell k =
    let same : counter_of (started sites specs) r s cell ≡ start_counter (book_shape (started sites specs)) r s cell = rw (book_shape-started sites specs) (counter_of-started sites specs homes r s cell) in
    units-from_same _ _ same k

-- the book that is made of a layout's sites and records
the_book : (sites : ℕ) (l : LayoutState) (specs : List RecordSpec) (items : List RecordState) → sites ≡ l.sites → specs ≡ l.records → items ≡ map (start_record sites) specs → book_with sites items ≡ started l.sites l.records
the_book sites l specs items of_sites of_specs made = rw (made, of_specs, of_sites) refl

-- what was made of the sites and records of a layout
pub shape_of_made : (sites : ℕ) (l : LayoutState) (specs : List RecordSpec) (items : List RecordState) → sites ≡ l.sites → specs ≡ l.records → items ≡ map (start_record sites) specs → book_shape (book_with sites items) ≡ shape_of l
shape_of_made sites l specs items of_sites of_specs made =
    rw (made, of_specs, of_sites) (book_shape-started l.sites l.records)

pub counters_of_made : (sites : ℕ) (l : LayoutState) (specs : List RecordSpec) (items : List RecordState) → IsLayout l → sites ≡ l.sites → specs ≡ l.records → items ≡ map (start_record sites) specs → (r s : ℕ) (cell : Cell) → counter_of (book_with sites items) r s cell ≡ start_counter (shape_of l) r s cell
counters_of_made sites l specs items is of_sites of_specs made r s cell =
    ap (λ (b : BookState). counter_of b r s cell) (the_book sites l specs items of_sites of_specs made) ∙ counter_of-started l.sites l.records is.homes r s cell

pub names_of_made : (sites : ℕ) (l : LayoutState) (specs : List RecordSpec) (items : List RecordState) → IsLayout l → sites ≡ l.sites → specs ≡ l.records → items ≡ map (start_record sites) specs → NamesGrants (book_with sites items)
names_of_made sites l specs items is of_sites of_specs made =
    subst (λ (b : BookState). NamesGrants b) (sym (the_book sites l specs items of_sites of_specs made)) (NamesGrants-started l.sites l.records is.homes)

-- no site has spent more than it has at the start
rights-started : (sites : ℕ) (specs : List RecordSpec) → All (λ spec. spec.home < sites) specs → (r i : ℕ) → HasSeatRights (seats_at (started sites specs) r) i
rights-started sites [] homes r i = omega arith
rights-started sites (x ∷ xs) homes zero i = HasSeatRights-start sites x.home x.seats i (homes 0 x (omega arith))
rights-started sites (x ∷ xs) homes (suc r) i = rights-started sites xs (All-tail (λ spec. spec.home < sites) x xs homes) r i

pub rights_of_made : (sites : ℕ) (l : LayoutState) (specs : List RecordSpec) (items : List RecordState) → IsLayout l → sites ≡ l.sites → specs ≡ l.records → items ≡ map (start_record sites) specs → (r i : ℕ) → HasSeatRights (seats_at (book_with sites items) r) i
rights_of_made sites l specs items is of_sites of_specs made r i =
    subst (λ (b : BookState). HasSeatRights (seats_at b r) i) (sym (the_book sites l specs items of_sites of_specs made)) (rights-started l.sites l.records is.homes r i)
