-- Whether a book knows all that a row tells.
use Rattle.std.proofs.Common.{◌≡◌, ℕ, ◌<◌, ◌≤◌, ◌↔◌, IsTrue, Bool, length, get_or, sym, ap, subst, ◌∙◌, arith}
use Rattle.rights_matrix.specs.Matrix.{row_of}
use Rattle.merge_core.specs.declared.cell.Cell.{Cell}
use Rattle.merge_core.specs.declared.cell.Cell.TheVariants.{Out, Taken, Ann, Fin}
use Rattle.merge_core.specs.declared.delta.Row.{Row}
use Rattle.merge_core.specs.declared.record.RecordState.{RecordState}
use Rattle.merge_core.specs.Rows.{RowCounters, counter_in, counters_of}
use Rattle.merge_core.specs.Book.{BookState, record_at, row_in, IsRecord, IsBook}
use Rattle.merge_core.specs.Cover.{Covers}
use Rattle.merge_core.proofs.BookLemmas.{read_record}

-- no counter of a row is above that of a record, where those of each kind are not
each_counter : (p q : RowCounters) → p.taken ≤ q.taken → p.ann ≤ q.ann → p.fin ≤ q.fin → ((j : ℕ) → get_or p.out j 0 ≤ get_or q.out j 0) → (cell : Cell) → counter_in p cell ≤ counter_in q cell
each_counter p q taken ann fin out (Out j) = out j
each_counter p q taken ann fin out Taken = taken
each_counter p q taken ann fin out Ann = ann
each_counter p q taken ann fin out Fin = fin

-- a book covers a row in its place where the record that was read has no lesser counter
pub covers_where_read : (b : BookState) (k : ℕ) (it : RecordState) (p : Row) (within : Bool) → IsBook b → k ≡ p.r → p.r < length b.records → p.s < b.sites → it ≡ get_or b.records k it
    → IsTrue within ↔ ((p.taken ≤ get_or it.seats.taken p.s 0) × ((p.ann ≤ get_or it.notices.announced p.s 0) × ((p.fin ≤ get_or it.notices.finished p.s 0)
    × ((length p.out ≤ length (row_of it.seats.matrix p.s)) × ((j : ℕ) → get_or p.out j 0 ≤ get_or (row_of it.seats.matrix p.s) j 0))))) → IsTrue within ↔ Covers b p
covers_where_read b k it p within book at_k inside site read tells = (λ is. covered (tells.0 is), λ covers. tells.1 (shown covers))
  where
    there : it ≡ record_at b p.r
    there = read_record b k it (omega (arith, at_k)) read ∙ ap (record_at b) at_k

    is : IsRecord b.sites it
    is = subst (λ (x : RecordState). IsRecord b.sites x) (sym there) (book.records p.r inside)

    width : length (row_of it.seats.matrix p.s) ≡ b.sites
    width = is.seats.matrix.square p.s (omega (arith, is.seat_sites)) ∙ is.seat_sites

    covered : (p.taken ≤ get_or it.seats.taken p.s 0) × ((p.ann ≤ get_or it.notices.announced p.s 0) × ((p.fin ≤ get_or it.notices.finished p.s 0)
        × ((length p.out ≤ length (row_of it.seats.matrix p.s)) × ((j : ℕ) → get_or p.out j 0 ≤ get_or (row_of it.seats.matrix p.s) j 0)))) → Covers b p
    covered parts = record {
      record_there = inside;
      site_there = site;
      few_sites = omega (arith, width, parts.1.1.1.0);
      counters = λ cell. subst (λ (x : RecordState). counter_in (counters_of p) cell ≤ counter_in (row_in x p.s) cell) there
          (each_counter (counters_of p) (row_in it p.s) parts.0 parts.1.0 parts.1.1.0 parts.1.1.1.1 cell);
    }

    shown : Covers b p → (p.taken ≤ get_or it.seats.taken p.s 0) × ((p.ann ≤ get_or it.notices.announced p.s 0) × ((p.fin ≤ get_or it.notices.finished p.s 0)
        × ((length p.out ≤ length (row_of it.seats.matrix p.s)) × ((j : ℕ) → get_or p.out j 0 ≤ get_or (row_of it.seats.matrix p.s) j 0))))
    shown covers =
        let at : (cell : Cell) → counter_in (counters_of p) cell ≤ counter_in (row_in it p.s) cell =
        λ cell. subst (λ (x : RecordState). counter_in (counters_of p) cell ≤ counter_in (row_in x p.s) cell) (sym there) (covers.counters cell) in
        (at Taken, (at Ann, (at Fin, (omega (arith, width, covers.few_sites), λ j. at (Out j)))))
