-- What a write of one record leaves of a book.
use Rattle.std.proofs.Common.{◌≡◌, ◌≢◌, ℕ, zero, suc, ◌+◌, ◌<◌, ◌⊎◌, inl, inr, ◌&&◌, ◌==◌, List, [], ◌∷◌, length, get_or, set, map, slice_set, refl, sym, ap, ◌∙◌, subst, arith, if◌then◌else◌}
use Rattle.std.proofs.lemmas.List.{length-set, get_or-set_same, get_or-set_other, get_or_default}
use Rattle.std.proofs.lemmas.Bool.{cases_eq, ne_eqb}
use Rattle.std.proofs.Common.{eq-eqb}
use Rattle.merge_core.specs.declared.cell.Cell.{Cell}
use Rattle.merge_core.specs.declared.record.RecordState.{RecordState}
use Rattle.merge_core.specs.Layout.{RecordShape}
use Rattle.merge_core.specs.Rows.{counter_in}
use Rattle.merge_core.specs.Book.{BookState, nothing_known, record_at, row_in, counter_of, shape_in, book_shape, IsRecord, IsBook}
use Rattle.merge_core.specs.Changes.{same_cell, Raises}

-- the book with another record
abbrev pub with_record : BookState → ℕ → RecordState → BookState
with_record b r st = record b { records = slice_set b.records r st }

pub record_at-same : (b : BookState) (r : ℕ) (st : RecordState) → r < length b.records → record_at (with_record b r st) r ≡ st
record_at-same b r st below = get_or-set_same b.records r st nothing_known below

pub record_at-other : (b : BookState) (r q : ℕ) (st : RecordState) → q ≢ r → record_at (with_record b r st) q ≡ record_at b q
record_at-other b r q st apart = get_or-set_other b.records r q st nothing_known apart

-- where f can't tell two records apart, neither can it tell the lists that hold them
map-same : {X : Type 0} (f : RecordState → X) (xs : List RecordState) (r : ℕ) (st d : RecordState) → f st ≡ f (get_or xs r d) → map f (set xs r st) ≡ map f xs
map-same f [] r st d same = refl
map-same f (x ∷ xs) zero st d same = ap (λ y. y ∷ map f xs) same
map-same f (x ∷ xs) (suc r) st d same = ap (λ ys. f x ∷ ys) (map-same f xs r st d same)

pub book_shape-same : (b : BookState) (r : ℕ) (st : RecordState) → shape_in st ≡ shape_in (record_at b r) → book_shape (with_record b r st) ≡ book_shape b
book_shape-same b r st same =
    ap (λ (shapes : List RecordShape). record { sites = b.sites; records = shapes }) (map-same shape_in b.records r st nothing_known same)

pub IsBook-with : (b : BookState) (r : ℕ) (st : RecordState) → r < length b.records → IsRecord b.sites st → IsBook b → IsBook (with_record b r st)
IsBook-with b r st below is book = record {
  few_sites = book.few_sites;
  few_records = omega (arith, length-set b.records r st, book.few_records);
  records = λ q inside. at_place q (omega (arith, length-set b.records r st)) (cases_eq q r);
}
  where
    at_place : (q : ℕ) → q < length b.records → (q ≡ r) ⊎ (q ≢ r) → IsRecord b.sites (record_at (with_record b r st) q)
    at_place q inside (inl same) = rw (same, record_at-same b r st below) is
    at_place q inside (inr apart) = rw (record_at-other b r q st apart) (book.records q inside)

-- a record one of whose counters is higher by so much
pub record RaisesIn (old new : RecordState) (s : ℕ) (cell : Cell) (by : ℕ) : Type 0 where
  pub shape : shape_in new ≡ shape_in old
  pub counters : (t : ℕ) (c : Cell) → counter_in (row_in new t) c ≡ counter_in (row_in old t) c + (if (t == s) && same_cell c cell then by else 0)

pub Raises-with : (b : BookState) (r s : ℕ) (cell : Cell) (by : ℕ) (st : RecordState) → r < length b.records → RaisesIn (record_at b r) st s cell by → Raises b (with_record b r st) r s cell by
Raises-with b r s cell by st below raises = record {
  shape = book_shape-same b r st raises.shape;
  counters = λ q t c. at_place q t c (cases_eq q r);
}
  where
    at_place : (q t : ℕ) (c : Cell) → (q ≡ r) ⊎ (q ≢ r) → counter_of (with_record b r st) q t c ≡ counter_of b q t c + (if (q == r) && ((t == s) && same_cell c cell) then by else 0)
    at_place q t c (inl same) = rw (same, record_at-same b r st below, eq-eqb r r refl) (raises.counters t c)
    at_place q t c (inr apart) = rw (record_at-other b r q st apart, ne_eqb q r apart) (omega arith)

-- a record as it is read at its index
pub read_record : (b : BookState) (r : ℕ) (it : RecordState) → r < length b.records → it ≡ get_or b.records r it → it ≡ record_at b r
read_record b r it below read = read ∙ get_or_default b.records r it nothing_known below

-- what is written over the record that was read
pub Raises-written : (b : BookState) (r s : ℕ) (cell : Cell) (by : ℕ) (it st : RecordState) → r < length b.records → it ≡ get_or b.records r it → RaisesIn it st s cell by → Raises b (with_record b r st) r s cell by
Raises-written b r s cell by it st below read raises =
    let there = read_record b r it below read in
    Raises-with b r s cell by st below (subst (λ (x : RecordState). RaisesIn x st s cell by) there raises)

pub IsRecord-read : (b : BookState) (r : ℕ) (it : RecordState) → r < length b.records → it ≡ get_or b.records r it → IsBook b → IsRecord b.sites it
IsRecord-read b r it below read book =
    let there = read_record b r it below read in
    subst (λ (x : RecordState). IsRecord b.sites x) (sym there) (book.records r below)
