-- What a row that is put, replaced or taken out leaves of the rows of a table, whatever the table is.
use Rattle.std.proofs.Common.{◌≡◌, ◌≢◌, ◌⊎◌, inl, inr, ℕ, suc, ℤ, ◌==◌, Bool, true, false, not, List, [], ◌∷◌, length, map, drop, Result, Ok, Err, None, Ordering, Less, Equal, Greater, is_eq, IsTrue, refl, sym, ap, subst, ◌∙◌, arith}
use Rattle.std.specs.List.{AllByRecursion}
use Rattle.std.proofs.lemmas.Bool.{cases_Bool, both_ways, false_from_ne_true, not-true, and_parts}
use Rattle.std.proofs.lemmas.Bool.Decides.{nat_tests}
use Rattle.std.proofs.lemmas.Cmp.{tied_itself}
use Rattle.sqlite_value.specs.declared.value.Value.TheVariants.{Int}
use Rattle.sqlite_value.specs.Order.{Row, value_cmp}
use Rattle.sqlite_value.proofs.OrderLemmas.{value_cmp_total}
use Rattle.sqlite_trees.specs.Tree.{Trees, IsTable, rowid, has_rowid, put_row, without_rowid}
use Rattle.sqlite_trees.specs.View.{is_int}
use Rattle.sqlite_trees.proofs.TreeLemmas.{IsTable-put_row}
use Rattle.sqlite_schema.specs.declared.command.Conflict.TheVariants.{Replace}
use Rattle.sqlite_rules.specs.Lists.{Has}
use Rattle.sqlite_rules.specs.Action.{works}
use Rattle.sqlite_rules.specs.Cast.{cast_row}
use Rattle.sqlite_rules.specs.Calls.{ids_of}
use Rattle.sqlite_rules.specs.Keys.{AreConflicts, conflicts}
use Rattle.sqlite_rules.specs.declared.error.Rowids.TheVariants.{Given}
use Rattle.sqlite_rules.specs.Edit.{Edit, edit_of, taken_by, without_all, put_all, numbered, have_rowids, are_fresh, id_in}
use Rattle.sqlite_rules.proofs.ListLemmas.{all_has, all_from, has_filtered, has_kept}
use Rattle.sqlite_rules.proofs.TableLemmas.{has_put, put_has, put_all_has, put_all_keeps, put_all_adds, int_is}
use Rattle.sqlite_rules.proofs.PlaceLemmas.{tied_same}
use Rattle.sqlite.specs.Rows.{Written, Task, Puts, Clears, Edited}
use Rattle.sqlite.proofs.Callers.{one_step}
use Rattle.store_rows.proofs.BesideLemmas.{IsTableTree, tables_spared}

-- a part that gave a value did not stop on the way
pub went : {B E R : Type 0} {b : B} {Stops : E → Type 0} → ((stop : E) × Stops stop × (Ok b ≡ Err stop)) ⊎ R → R
went (inl stopped) = absurd (let e = stopped.2 in cc)
went (inr on) = on

pub same_value : {B E : Type 0} {a b : B} → ◌≡◌ {A = Result B E} (Ok a) (Ok b) → a ≡ b
same_value e = cc

-- rows whose rowids are whole numbers in rising order
pub record IsKeyed (rows : List Row) : Type 0 where
  pub keyed : IsTable rows
  pub numbered : AllByRecursion (λ r. IsTrue (is_int (rowid r))) rows

-- the rows after one with these values came in the place of those that are hit
pub record IsPut (hit : Row → Bool) (values : Row) (old new : List Row) : Type 0 where
  pub put : (r : Row) × Has new r × (drop 1 r ≡ values)
  pub kept : (r : Row) → Has old r → hit r ≡ false → Has new r
  pub only : (r : Row) → Has new r → (drop 1 r ≡ values) ⊎ (Has old r × (hit r ≡ false))
  pub keyed : IsKeyed new

-- the rows after those that are hit went
pub record IsTaken (hit : Row → Bool) (old new : List Row) : Type 0 where
  pub kept : (r : Row) → Has old r → hit r ≡ false → Has new r
  pub only : (r : Row) → Has new r → Has old r × (hit r ≡ false)
  pub keyed : IsKeyed new

-- another test that hits the same rows
pub put_as : (hit same : Row → Bool) (values : Row) (old new : List Row) → ((r : Row) → Has old r → hit r ≡ same r) → IsPut hit values old new → IsPut same values old new
put_as hit same values old new is step = record {
  put = step.put;
  kept = λ r h miss. step.kept r h (is r h ∙ miss);
  only = λ r h. elim (step.only r h) [ inl here ↦ inl here | inr had ↦ inr (had.0, sym (is r had.0) ∙ had.1) ];
  keyed = step.keyed;
}

-- the trees of the tables beside one are as they were
abbrev pub SparesOthers : Task → Trees → Trees → Type 0
SparesOthers task db next = (t : ℕ) → t ≢ task.table.tree → IsTableTree task.schema t → next t ≡ db t

-- an update changed so many rows: none, and all stay, or some, which have the new values
abbrev pub IsUpdated : ℕ → (Row → Bool) → Row → List Row → List Row → Type 0
IsUpdated count hit values old new = (((count == 0) ≡ true) × (new ≡ old)) ⊎ (((count == 0) ≡ false) × IsPut hit values old new)

equal_is : (o : Ordering) → is_eq o ≡ true → o ≡ Equal
equal_is Less h = absurd (cc)
equal_is Equal h = refl
equal_is Greater h = absurd (cc)

-- ---- rows taken out by their rowids

left_has : (ids : List ℤ) (rows : List Row) (r : Row) → Has (without_all rows ids) r → Has rows r × ((id : ℤ) → Has ids id → has_rowid id r ≡ false)
left_has [] rows r h = (h, λ id none. absurd none)
left_has (i ∷ ids) rows r h =
    let later = left_has ids (without_rowid i rows) r h in
    let here = has_filtered _ rows r later.0 in
    (here.0, λ id k. elim k [ inl e ↦ rw e (not-true _ here.1) | inr more ↦ later.1 id more ])

left_keeps : (ids : List ℤ) (rows : List Row) (r : Row) → Has rows r → ((id : ℤ) → Has ids id → has_rowid id r ≡ false) → Has (without_all rows ids) r
left_keeps [] rows r h other = h
left_keeps (i ∷ ids) rows r h other =
    left_keeps ids (without_rowid i rows) r (has_kept _ rows r h (ap not (other i (inl refl)))) (λ id k. other id (inr k))

filter_keyed : (id : ℤ) (rows : List Row) → IsTable rows → IsTable (without_rowid id rows)
filter_keyed id [] up = tt
filter_keyed id (r ∷ rows) up = elim (cases_Bool (has_rowid id r)) [
  | inl e ↦ rw e (filter_keyed id rows up.1)
  | inr e ↦ rw e (all_from _ (without_rowid id rows) (λ y h. all_has _ rows y up.0 (has_filtered _ rows y h).0), filter_keyed id rows up.1)
]

left_keyed : (ids : List ℤ) (rows : List Row) → IsTable rows → IsTable (without_all rows ids)
left_keyed [] rows up = up
left_keyed (id ∷ ids) rows up = left_keyed ids (without_rowid id rows) (filter_keyed id rows up)

ids_has : (found : List Row) (id : ℤ) → Has (ids_of found) id → (x : Row) × Has found x × (id ≡ id_in (rowid x))
ids_has [] id h = absurd h
ids_has (x ∷ found) id (inl e) = (x, inl refl, e)
ids_has (x ∷ found) id (inr h) = let k = ids_has found id h in (k.0, inr k.1, k.2)

has_ids : (found : List Row) (x : Row) → Has found x → Has (ids_of found) (id_in (rowid x))
has_ids [] x h = absurd h
has_ids (y ∷ found) x (inl e) = inl (ap (λ (r : Row). id_in (rowid r)) e)
has_ids (y ∷ found) x (inr h) = inr (has_ids found x h)

module _ (rows : List Row) (keyed : IsKeyed rows) (hit : Row → Bool) (found : List Row)
    (sound : (x : Row) → Has found x → (r : Row) × Has rows r × (hit r ≡ true) × (id_in (rowid x) ≡ id_in (rowid r)))
    (complete : (r : Row) → Has rows r → hit r ≡ true → (x : Row) × Has found x × (id_in (rowid x) ≡ id_in (rowid r))) where
  own_id : (r : Row) → Has rows r → rowid r ≡ Int (id_in (rowid r))
  own_id r h = int_is (rowid r) (all_has _ rows r keyed.numbered h)

  spared : (r : Row) → Has rows r → hit r ≡ false → (id : ℤ) → Has (ids_of found) id → has_rowid id r ≡ false
  spared r h miss id k = false_from_ne_true _ (λ same.
      let x = ids_has found id k in
      let other = sound x.0 x.1 in
      let that : rowid other.0 ≡ Int id = own_id other.0 other.1 ∙ ap Int (sym (x.2 ∙ other.3)) in
      let tie : value_cmp (rowid r) (rowid other.0) ≡ Equal = rw that (equal_is _ same) in
      let one = tied_same rows r other.0 keyed.keyed h other.1 tie in
      both_ways (hit r) miss (ap hit one ∙ other.2))

  -- the rows that are hit are taken out by their rowids
  pub taken : IsTaken hit rows (without_all rows (ids_of found))
  taken = record {
    kept = λ r h miss. left_keeps (ids_of found) rows r h (spared r h miss);
    only = λ r h. let was = left_has (ids_of found) rows r h in (
      was.0,
      false_from_ne_true _ (λ struck.
          let x = complete r was.0 struck in
          let gone = was.1 (id_in (rowid x.0)) (has_ids found x.0 x.1) in
          let is : has_rowid (id_in (rowid x.0)) r ≡ true = rw (x.2, own_id r was.0) (ap is_eq (tied_itself value_cmp_total (Int (id_in (rowid r))))) in
          both_ways _ gone is),
    );
    keyed = record {
      keyed = left_keyed (ids_of found) rows keyed.keyed;
      numbered = all_from _ (without_all rows (ids_of found)) (λ r h. all_has _ rows r keyed.numbered (left_has (ids_of found) rows r h).0);
    };
  }

-- ---- a row that is put

put_keyed : (new : Row) (rows : List Row) → IsKeyed rows → is_int (rowid new) ≡ true → IsKeyed (put_row new rows)
put_keyed new rows was int = record {
  keyed = IsTable-put_row new rows was.keyed;
  numbered = all_from _ (put_row new rows) (λ r h. elim (put_has new rows r h) [
    | inl same ↦ subst (λ (x : Row). IsTrue (is_int (rowid x))) (sym same) int
    | inr had ↦ all_has _ rows r was.numbered had
  ]);
}

put_free : (id : ℤ) (values : Row) (rows : List Row) → IsKeyed rows → are_fresh rows ((Int id ∷ values) ∷ []) ≡ true → IsPut (λ _. false) values rows (put_row (Int id ∷ values) rows)
put_free id values rows was fresh = record {
  put = (Int id ∷ values, has_put _ rows, refl);
  kept = λ r h _. put_all_keeps ((Int id ∷ values) ∷ []) rows r fresh h;
  only = λ r h. elim (put_has (Int id ∷ values) rows r h) [ inl same ↦ inl (ap (drop 1) same) | inr had ↦ inr (had, refl) ];
  keyed = put_keyed (Int id ∷ values) rows was refl;
}

some_are : (n : ℕ) → (suc n == 0) ≡ false
some_are n = grind (arith, nat_tests)

-- ---- rows that are put where others were taken out

put_all_keyed : (news rows : List Row) → IsKeyed rows → have_rowids news ≡ true → IsKeyed (put_all rows news)
put_all_keyed [] rows was ints = was
put_all_keyed (n ∷ news) rows was ints = let parts = and_parts _ _ ints in put_all_keyed news (put_row n rows) (put_keyed n rows was parts.0) parts.1

-- given rowids stay
pub as_given : (rows all : List Row) → numbered Given rows all ≡ all
as_given rows [] = refl
as_given rows (r ∷ all) = ap (λ (rest : List Row). r ∷ rest) (as_given (put_row r rows) all)

-- rows of these values come in the place of those that are hit
put_over : (hit : Row → Bool) (values : Row) (old left news : List Row) → IsTaken hit old left → have_rowids news ≡ true → are_fresh left news ≡ true
    → ((n : Row) → Has news n → drop 1 n ≡ values) → (first : Row) → Has news first → IsPut hit values old (put_all left news)
put_over hit values old left news gone ints fresh are first there = record {
  put = (first, put_all_adds news left first fresh there, are first there);
  kept = λ r h miss. put_all_keeps news left r fresh (gone.kept r h miss);
  only = λ r h. elim (put_all_has news left r h) [ inl new ↦ inl (are r new) | inr had ↦ inr (gone.only r had) ];
  keyed = put_all_keyed news left gone.keyed ints;
}

module _ (task : Task) (idle : (olds news : List Row) → works task.schema task.keys 0 task.table.tree olds news ≡ []) where
  open task use {table}

  abbrev alone : Trees → Row → Edit
  alone db new = edit_of db table [] Given 0 (new ∷ [])

  -- a new row at the rowid after the last
  pub inserted : (id : ℤ) (values : Row) (db next : Trees) (edit : Edit) → edit.table ≡ table → edit.gone ≡ [] → edit.news ≡ (Int id ∷ values) ∷ [] → IsKeyed (db table.tree)
      → Edited task.schema task.keys db edit (Ok next) → IsPut (λ _. false) values (db table.tree) (next table.tree) × SparesOthers task db next
  inserted id values db next edit at none new was h =
      let bare : Edit = record { table = table; gone = []; news = (Int id ∷ values) ∷ [] } in
      let same : edit ≡ bare = λ i. record { table = at i; gone = none i; news = new i } in
      let a = one_step task.schema task.keys db next bare (idle (taken_by db bare) bare.news) (subst (λ e. Edited task.schema task.keys db e (Ok next)) same h) in
      (rw a.rows (put_free id values (db table.tree) was a.fresh), tables_spared task.schema.tables table.tree db next a.tables)

  -- a row whose values no cast changes
  pub put_alone : (id : ℤ) (values : Row) (db : Trees) (one : Written) → cast_row table (Int id ∷ values) ≡ Int id ∷ values → IsKeyed (db table.tree) → Puts task (Int id ∷ values) db (Ok one)
      → IsPut (λ _. false) values (db table.tree) (one.trees table.tree) × SparesOthers task db one.trees
  put_alone id values db one cast was h =
      let it = went h in
      let news : (alone db (Int id ∷ values)).news ≡ (Int id ∷ values) ∷ [] = ap (λ (r : Row). r ∷ []) cast in
      let trees : it.0 ≡ one.trees = ap (λ (w : Written). w.trees) (sym (same_value it.2)) in
      subst (λ (next : Trees). IsPut (λ _. false) values (db table.tree) (next table.tree) × SparesOthers task db next) trees
      (inserted id values db it.0 (alone db (Int id ∷ values)) refl refl news was it.1)

  -- the rows that conflict go before the new row comes
  pub cleared : (new : Row) (db : Trees) (found : List Row) (one : Written) → Clears task Replace new db found (Ok one)
      → (mid : Trees) × (mid table.tree ≡ without_all (db table.tree) (ids_of found)) × SparesOthers task db mid × Puts task new mid (Ok one)
  cleared new db [] one h = (db, refl, λ t other none. refl, h)
  cleared new db (x ∷ found) one h =
      let it = went h in
      let edit = edit_of db table (ids_of (x ∷ found)) Given 0 [] in
      let a = one_step task.schema task.keys db it.0 edit (idle (taken_by db edit) edit.news) it.1 in
      (it.0, a.rows, tables_spared task.schema.tables table.tree db it.0 a.tables, it.2)

  pub replaced : (id : ℤ) (values : Row) (hit : Row → Bool) (db : Trees) (found : List Row) (one : Written) → cast_row table (Int id ∷ values) ≡ Int id ∷ values → IsKeyed (db table.tree)
      → ((r : Row) → Has (db table.tree) r → conflicts None task.schema.indexes table (Int id ∷ values) r ≡ hit r)
      → AreConflicts None task.schema.indexes table (db table.tree) (Int id ∷ values) found → Clears task Replace (Int id ∷ values) db found (Ok one)
      → IsPut hit values (db table.tree) (one.trees table.tree) × SparesOthers task db one.trees
  replaced id values hit db found one cast was meets these h =
      let rows = db table.tree in
      let step = cleared (Int id ∷ values) db found one h in
      let gone : IsTaken hit rows (step.0 table.tree) = rw step.1 (taken rows was hit found
      (λ x k. let r = these.sound x k in (r.0, r.1, sym (meets r.0 r.1) ∙ r.2, ap (λ (y : Row). id_in (rowid y)) r.3))
      (λ r k struck. (rowid r ∷ [], these.complete r k (meets r k ∙ struck), refl))) in
      let come = put_alone id values step.0 one cast gone.keyed step.3 in (
        record {
          put = come.0.put;
          kept = λ r k miss. come.0.kept r (gone.kept r k miss) refl;
          only = λ r k. elim (come.0.only r k) [ inl new ↦ inl new | inr old ↦ inr (gone.only r old.0) ];
          keyed = come.0.keyed;
        },
        λ t other none. come.1 t other none ∙ step.2 t other none,
      )

  -- rows that were found are taken out
  pub deleted : (found : List Row) (hit : Row → Bool) (db next : Trees) → IsKeyed (db table.tree)
      → ((x : Row) → Has found x → (r : Row) × Has (db table.tree) r × (hit r ≡ true) × (id_in (rowid x) ≡ id_in (rowid r)))
      → ((r : Row) → Has (db table.tree) r → hit r ≡ true → (x : Row) × Has found x × (id_in (rowid x) ≡ id_in (rowid r)))
      → Edited task.schema task.keys db (edit_of db table (ids_of found) Given 0 []) (Ok next)
      → IsTaken hit (db table.tree) (next table.tree) × SparesOthers task db next
  deleted found hit db next was sound complete h =
      let edit = edit_of db table (ids_of found) Given 0 [] in
      let a = one_step task.schema task.keys db next edit (idle (taken_by db edit) edit.news) h in
      let rows : next table.tree ≡ without_all (db table.tree) (ids_of found) = a.rows in
      (rw rows (taken (db table.tree) was hit found sound complete), tables_spared task.schema.tables table.tree db next a.tables)

  -- what an update puts in the place of the rows that it found
  abbrev pub written_over : List Row → List Row
  written_over found = map (λ s. cast_row table (drop 1 s)) found

  abbrev pub overwriting : Trees → List Row → Edit
  overwriting db found = edit_of db table (ids_of found) Given 1 found

  -- rows that were found get new values where they stand
  pub overwritten : (found : List Row) (values : Row) (hit : Row → Bool) (db next : Trees) → IsKeyed (db table.tree)
      → ((x : Row) → Has found x → (r : Row) × Has (db table.tree) r × (hit r ≡ true) × (id_in (rowid x) ≡ id_in (rowid r)))
      → ((r : Row) → Has (db table.tree) r → hit r ≡ true → (x : Row) × Has found x × (id_in (rowid x) ≡ id_in (rowid r)))
      → ((n : Row) → Has (written_over found) n → drop 1 n ≡ values) → (first : Row) → Has (written_over found) first
      → Edited task.schema task.keys db (overwriting db found) (Ok next)
      → IsPut hit values (db table.tree) (next table.tree) × SparesOthers task db next
  overwritten found values hit db next was sound complete are first there h =
      let edit = overwriting db found in
      let left = without_all (db table.tree) (ids_of found) in
      let a = one_step task.schema task.keys db next edit (idle (taken_by db edit) edit.news) h in
      let same : edit.news ≡ written_over found = as_given left (written_over found) in
      let rows : next table.tree ≡ put_all left (written_over found) = a.rows ∙ ap (put_all left) same in
      let ints : have_rowids (written_over found) ≡ true = ap have_rowids (sym same) ∙ a.keyed in
      let fresh : are_fresh left (written_over found) ≡ true = ap (are_fresh left) (sym same) ∙ a.fresh in
      (rw rows (put_over hit values (db table.tree) left (written_over found) (taken (db table.tree) was hit found sound complete) ints fresh are first there), tables_spared task.schema.tables table.tree db next a.tables)

  -- where none was found, all rows stay
  pub spared_all : (db next : Trees) → Edited task.schema task.keys db (overwriting db []) (Ok next) → (next table.tree ≡ db table.tree) × SparesOthers task db next
  spared_all db next h =
      let edit = overwriting db [] in
      let a = one_step task.schema task.keys db next edit (idle (taken_by db edit) edit.news) h in
      (a.rows, tables_spared task.schema.tables table.tree db next a.tables)

  pub updated : (found : List Row) (values : Row) (hit : Row → Bool) (db next : Trees) (count : ℕ) → count ≡ length (overwriting db found).news → IsKeyed (db table.tree)
      → ((x : Row) → Has found x → (r : Row) × Has (db table.tree) r × (hit r ≡ true) × (id_in (rowid x) ≡ id_in (rowid r)))
      → ((r : Row) → Has (db table.tree) r → hit r ≡ true → (x : Row) × Has found x × (id_in (rowid x) ≡ id_in (rowid r)))
      → ((n : Row) → Has (written_over found) n → drop 1 n ≡ values)
      → Edited task.schema task.keys db (overwriting db found) (Ok next)
      → IsUpdated count hit values (db table.tree) (next table.tree) × SparesOthers task db next
  updated [] values hit db next count is was sound complete are h = let it = spared_all db next h in (inl (rw is refl, it.0), it.1)
  updated (x ∷ found) values hit db next count is was sound complete are h =
      let it = overwritten (x ∷ found) values hit db next was sound complete are (cast_row table (drop 1 x)) (inl refl) h in
      (inr (rw is (some_are _), it.0), it.1)
