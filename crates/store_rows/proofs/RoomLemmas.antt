-- What new rows take of the rowids that are left.
use Rattle.std.proofs.Common.{◌≡◌, ◌≢◌, ◌⊎◌, inl, inr, ℕ, zero, suc, ℤ, pos, negsuc, ◌+ℤ◌, true, ◌&&◌, List, [], ◌∷◌, fold, refl, subst, arith}
use Rattle.std.specs.List.{list_all}
use Rattle.std.proofs.lemmas.Bool.{cases_eq, and_parts, and_from}
use Rattle.std.proofs.lemmas.Bool.Decides.{nat_tests}
use Rattle.std.proofs.lemmas.Int.{ints}
use Rattle.sqlite_value.specs.Order.{Row}
use Rattle.sqlite_trees.specs.Tree.{rowid}
use Rattle.sqlite_sql.specs.Ops.{fits_i64}
use Rattle.sqlite_rules.specs.Lists.{Has}
use Rattle.sqlite_rules.specs.Edit.{id_in, next_rowid}
use Rattle.sqlite_rules.proofs.ListLemmas.{test_has, test_from}
use Rattle.sqlite_schema.specs.declared.schema.Schema.{Schema}
use Rattle.sqlite_trees.specs.Tree.{Trees}
use Rattle.store_schema.specs.Tables.{behind, schema_4}
use Rattle.store_rows.specs.Rowids.{has_room_above, has_room}
use Rattle.store_rows.proofs.BesideLemmas.{IsTableTree}
use Rattle.store_rows.proofs.ContentLemmas.{spares_0, spares_2, spares_4, spares_7}

fits_next : (z : ℤ) (k : ℕ) → fits_i64 z ≡ true → fits_i64 (z +ℤ pos (suc k)) ≡ true → fits_i64 (z +ℤ pos 1) ≡ true
fits_next (pos n) k low high = grind (arith, ints, nat_tests)
fits_next (negsuc zero) k low high = refl
fits_next (negsuc (suc n)) k low high = grind (arith, ints, nat_tests)

fits_less : (z : ℤ) (k : ℕ) → fits_i64 z ≡ true → fits_i64 (z +ℤ pos (suc k)) ≡ true → fits_i64 (z +ℤ pos k) ≡ true
fits_less (pos n) k low high = grind (arith, ints, nat_tests)
fits_less (negsuc n) k low high = grind (arith, ints, nat_tests)

next_sum : (z : ℤ) (k : ℕ) → z +ℤ pos (suc k) ≡ (z +ℤ pos 1) +ℤ pos k
next_sum z k = omega (arith, ints)

-- the rowid after the last is 1, or the one after that of some row
next_is : (rows : List Row) (from : ℤ) → (fold (λ _ r. id_in (rowid r) +ℤ pos 1) from rows ≡ from) ⊎ ((r : Row) × Has rows r × (fold (λ _ r. id_in (rowid r) +ℤ pos 1) from rows ≡ id_in (rowid r) +ℤ pos 1))
next_is [] from = inl refl
next_is (x ∷ rows) from = elim (next_is rows (id_in (rowid x) +ℤ pos 1)) [
  | inl same ↦ inr (x, inl refl, same)
  | inr later ↦ inr (later.0, inr later.1, later.2)
]

-- the rows of a table leave so many rowids
abbrev pub HasRoomIn : ℕ → List Row → Type 0
HasRoomIn k rows = list_all (has_room_above k) rows ≡ true

-- each number from a rowid on
room_next : (k : ℕ) (z : ℤ) → (fits_i64 z && fits_i64 (z +ℤ pos (suc k))) ≡ true → (fits_i64 (z +ℤ pos 1) && fits_i64 ((z +ℤ pos 1) +ℤ pos k)) ≡ true
room_next k z h = let parts = and_parts _ _ h in and_from _ _ (fits_next z k parts.0 parts.1) (subst (λ (y : ℤ). fits_i64 y ≡ true) (next_sum z k) parts.1)

pub room_of_next : (k : ℕ) (rows : List Row) → fits_i64 (pos 1 +ℤ pos (suc k)) ≡ true → HasRoomIn (suc k) rows → (fits_i64 (next_rowid rows) && fits_i64 (next_rowid rows +ℤ pos k)) ≡ true
room_of_next k rows first room = elim (next_is rows (pos 1)) [
  | inl one ↦ rw one (and_from _ _ refl (fits_less (pos 1) k refl first))
  | inr some ↦ rw some.2 (room_next k (id_in (rowid some.0)) (test_has _ rows some.0 room some.1))
]

-- one row less
pub room_less : (k : ℕ) (rows : List Row) → HasRoomIn (suc k) rows → HasRoomIn k rows
room_less k rows room = test_from _ rows (λ r there. let parts = and_parts _ _ (test_has _ rows r room there) in and_from _ _ parts.0 (fits_less (id_in (rowid r)) k parts.0 parts.1))

pub first_less : (k : ℕ) → fits_i64 (pos 1 +ℤ pos (suc k)) ≡ true → fits_i64 (pos 1 +ℤ pos k) ≡ true
first_less k first = fits_less (pos 1) k refl first

pub room_fewer : (k : ℕ) (rows fewer : List Row) → ((r : Row) → Has fewer r → (s : Row) × Has rows s × (id_in (rowid r) ≡ id_in (rowid s))) → HasRoomIn k rows → HasRoomIn k fewer
room_fewer k rows fewer from room = test_from _ fewer (λ r there. let s = from r there in rw s.2 (test_has _ rows s.0 room s.1))

-- a row that follows the last
pub room_after : (k : ℕ) (old new : List Row) → fits_i64 (pos 1 +ℤ pos (suc k)) ≡ true → ((r : Row) → Has new r → Has old r ⊎ (id_in (rowid r) ≡ next_rowid old)) → HasRoomIn (suc k) old → HasRoomIn k new
room_after k old new first from room = test_from _ new (λ r there. elim (from r there) [
  | inl had ↦ test_has _ old r (room_less k old room) had
  | inr next ↦ rw next (room_of_next k old first room)
])

-- ---- the tables of a store

pub room_parts : (k : ℕ) (db : Trees) → has_room k db ≡ true → (fits_i64 (pos 1 +ℤ pos k) ≡ true) × HasRoomIn k (db 0) × HasRoomIn k (db 2) × HasRoomIn k (db 4) × HasRoomIn k (db 7)
room_parts k db room =
    let a = and_parts _ _ room in
    let b = and_parts _ _ a.1 in
    let c = and_parts _ _ b.1 in
    let d = and_parts _ _ c.1 in
    (a.0, b.0, c.0, d.0, d.1)

room_from : (k : ℕ) (db : Trees) → fits_i64 (pos 1 +ℤ pos k) ≡ true → HasRoomIn k (db 0) → HasRoomIn k (db 2) → HasRoomIn k (db 4) → HasRoomIn k (db 7) → has_room k db ≡ true
room_from k db a b c d e = and_from _ _ a (and_from _ _ b (and_from _ _ c (and_from _ _ d e)))

module _ (more : Schema) (db next : Trees) (tree : ℕ) (spares : (t : ℕ) → t ≢ tree → IsTableTree (behind schema_4 more) t → next t ≡ db t) where
  -- a row that follows the last of one table
  pub rooms_after : (k : ℕ) → ((r : Row) → Has (next tree) r → Has (db tree) r ⊎ (id_in (rowid r) ≡ next_rowid (db tree))) → has_room (suc k) db ≡ true → has_room k next ≡ true
  rooms_after k from room =
      let parts = room_parts (suc k) db room in
      room_from k next (first_less k parts.0) (at 0 (spares_0 more) parts.1) (at 2 (spares_2 more) parts.2) (at 4 (spares_4 more) parts.3) (at 7 (spares_7 more) parts.4)
    where
      at : (t : ℕ) → IsTableTree (behind schema_4 more) t → HasRoomIn (suc k) (db t) → HasRoomIn k (next t)
      at t listed had = elim (cases_eq t tree) [
        | inl same ↦ rw same (room_after k (db tree) (next tree) (room_parts (suc k) db room).0 from (rw same at had))
        | inr other ↦ rw (spares t other listed) (room_less k (db t) had)
      ]

  -- rows with rowids that were there
  pub rooms_kept : (k : ℕ) → ((r : Row) → Has (next tree) r → (s : Row) × Has (db tree) s × (id_in (rowid r) ≡ id_in (rowid s))) → has_room k db ≡ true → has_room k next ≡ true
  rooms_kept k from room =
      let parts = room_parts k db room in
      room_from k next parts.0 (at 0 (spares_0 more) parts.1) (at 2 (spares_2 more) parts.2) (at 4 (spares_4 more) parts.3) (at 7 (spares_7 more) parts.4)
    where
      at : (t : ℕ) → IsTableTree (behind schema_4 more) t → HasRoomIn k (db t) → HasRoomIn k (next t)
      at t listed had = elim (cases_eq t tree) [
        | inl same ↦ rw same (room_fewer k (db tree) (next tree) from (rw same at had))
        | inr other ↦ rw (spares t other listed) had
      ]

-- one row less in each table
pub rooms_less : (k : ℕ) (db : Trees) → has_room (suc k) db ≡ true → has_room k db ≡ true
rooms_less k db room =
    let parts = room_parts (suc k) db room in
    room_from k db (first_less k parts.0) (room_less k (db 0) parts.1) (room_less k (db 2) parts.2) (room_less k (db 4) parts.3) (room_less k (db 7) parts.4)
