-- A look at a store of its own finds what it looks for: each row is that of an item, and the items rise.
use Rattle.std.proofs.Common.{◌≡◌, ℕ, pos, negsuc, Bool, true, false, not, ◌&&◌, ◌||◌, ◌==◌, nat_lt, cond, if◌then◌else◌, List, [], ◌∷◌, map, drop, All, refl, sym, ap₂, subst, ◌∙◌, arith, is_lt}
use Rattle.std.proofs.lemmas.Bool.{both_ways}
use Rattle.std.proofs.lemmas.Bool.Decides.{nat_tests}
use Rattle.std.proofs.lemmas.List.Elements.{recursion_from_All}
use Rattle.sqlite_value.specs.declared.value.Value.{Value}
use Rattle.sqlite_value.specs.declared.value.Value.TheVariants.{Null, Int, Real, Text, Blob}
use Rattle.sqlite_value.specs.Order.{Row, column}
use Rattle.sqlite_value.specs.Keys.{plain, first_key}
use Rattle.sqlite_trees.specs.Tree.{Trees}
use Rattle.sqlite_sql.specs.Term.{eval_all}
use Rattle.sqlite_sql.specs.Query.{key_cmp}
use Rattle.sqlite_sql.specs.Program.{overlay}
use Rattle.sqlite_schema.specs.Rules.{agree, clashes}
use Rattle.sqlite_schema.specs.declared.schema.Constraint.TheVariants.{Unique}
use Rattle.sqlite_rules.specs.Lists.{Has}
use Rattle.sqlite_rules.proofs.ListLemmas.{all_has}
use Rattle.sqlite.specs.Effect.{IsDatabase}
use Rattle.sqlite.specs.State.{State, Shown}
use Rattle.store_schema.specs.declared.Version.{Version}
use Rattle.store_schema.specs.declared.Version.TheVariants.{First, Second}
use Rattle.sqlite_schema.specs.declared.schema.Schema.{Schema}
use Rattle.store_schema.specs.Tables.{IsSchemaOf, behind, others_in, schema_3, schema_4}
use Rattle.store_rows.specs.declared.content.Stage.{Stage}
use Rattle.store_rows.specs.declared.content.Stage.TheVariants.{Reader, Waiting, Writer}
use Rattle.store_rows.specs.declared.content.StoredCell.{StoredCell}
use Rattle.store_rows.specs.declared.content.StoredSession.{StoredSession}
use Rattle.store_rows.specs.declared.content.StoredNotice.{StoredNotice}
use Rattle.store_rows.specs.Rows.{stage_number, cell_row, session_row, notice_row, cell_before, session_before, notice_before}
use Rattle.store_rows.specs.Texts.{read_cells_text, read_sessions_text, read_notices_text}
use Rattle.store_rows.specs.Holding.{Parts, HoldsParts}
use Rattle.store_rows.proofs.SelectLemmas.{three, four, by_two, by_place, cell_names, session_names, notice_names, cells_read, sessions_read, notices_read}
use Rattle.store_rows.proofs.ContentLemmas.{cells_ordered, sessions_ordered, notices_ordered, notices_of, equal_whole}
use Rattle.store_rows.proofs.ReadLemmas.{mapped_has, answer}
use Rattle.store_rows.proofs.SortedLemmas.{ties}
use Rattle.store_tables.specs.Reads.{is_chain, IsCellInRange, IsSessionInRange, IsNoticeInRange}
use Rattle.store_tables.proofs.LookLemmas.{one_cell, one_session, one_notice, cell_shown, session_shown, notice_shown}
use Rattle.store_tables.proofs.RiseLemmas.{less_then, items_shown}

-- ---- rows that are shown, of items that are found

module _ {X : Type 0} (row : X → Row) (one : (x y : X) → row x ≡ row y → x ≡ y) where
  map_one : (xs ys : List X) → map row xs ≡ map row ys → xs ≡ ys
  map_one [] [] h = refl
  map_one [] (y ∷ ys) h = absurd (cc)
  map_one (x ∷ xs) [] h = absurd (cc)
  map_one (x ∷ xs) (y ∷ ys) h =
      let a : row x ≡ row y = cc in
      let b : map row xs ≡ map row ys = cc in
      ap₂ ◌∷◌ (one x y a) (map_one xs ys b)

  -- each row is that of an item whose numbers fit, and the items rise
  abbrev pub IsOwn : (X → X → Bool) → (X → Type 0) → List Row → Type 0
  IsOwn before Fits rows = ((r : Row) → Has rows r → (x : X) × Fits x × (r ≡ row x)) × ((all : List X) → map row all ≡ rows → is_chain before all ≡ true)

  own_of : (before : X → X → Bool) (Fits : X → Type 0) (items : List X) → All Fits items → (rows : List Row)
      → ((all : List X) × (map row all ≡ rows) × (is_chain before all ≡ true) × ((x : X) → Has all x → Has items x)) → IsOwn before Fits rows
  own_of before Fits items fit rows it = (
    λ r k. let x = mapped_has row it.0 r (subst (λ (all : List Row). Has all r) (sym it.1) k) in (x.0, all_has Fits items x.0 (recursion_from_All Fits items fit) (it.3 x.0 x.1), x.2),
    λ ys e. subst (λ (all : List X). is_chain before all ≡ true) (map_one it.0 ys (it.1 ∙ sym e)) it.2,
  )

-- ---- the item of a row

number_in : Value → ℕ
number_in (Int (pos n)) = n
number_in (Int (negsuc n)) = 0
number_in Null = 0
number_in (Real x) = 0
number_in (Text t) = 0
number_in (Blob b) = 0

stage_at : ℕ → Stage
stage_at n = if n == 1 then Reader else (if n == 2 then Waiting else Writer)

stage_back : (s : Stage) → stage_at (stage_number s) ≡ s
unfolding stage_at
stage_back Reader = refl
stage_back Waiting = refl
stage_back Writer = refl

cell_of : Row → StoredCell
cell_of r = record { r = number_in (column r 0); slot = number_in (column r 1); n = number_in (column r 2) }

cell_back : (c : StoredCell) → cell_of (cell_row c) ≡ c
unfolding cell_of number_in
cell_back c = refl

session_of : Row → StoredSession
session_of r = record { r = number_in (column r 0); h = number_in (column r 1); stage = stage_at (number_in (column r 2)); place = number_in (column r 3) }

session_back : (s : StoredSession) → session_of (session_row s) ≡ s
unfolding session_of number_in
session_back s = λ i. record { r = s.r; h = s.h; stage = stage_back s.stage i; place = s.place }

notice_of : Row → StoredNotice
notice_of r = record { r = number_in (column r 0); site = number_in (column r 1); announced = number_in (column r 2); finished = number_in (column r 3) }

notice_back : (n : StoredNotice) → notice_of (notice_row n) ≡ n
unfolding notice_of number_in
notice_back n = refl

-- ---- what two rows of a table share, and how they are ordered

both_tie : (a b c d : ℕ) → ((a == b) && ((c == d) && true)) ≡ cond (nat_lt a b || ((a == b) && nat_lt c d)) false (not (nat_lt b a || ((b == a) && nat_lt d c)))
both_tie a b c d = grind (arith, nat_tests)

one_tie : (a b : ℕ) → ((a == b) && true) ≡ cond (nat_lt a b) false (not (nat_lt b a))
one_tie a b = grind (arith, nat_tests)

both_less : (a b c d : ℕ) → (nat_lt a b || ((a == b) && (nat_lt c d || ((c == d) && false)))) ≡ (nat_lt a b || ((a == b) && nat_lt c d))
both_less a b c d = grind (arith, nat_tests)

one_less : (a b : ℕ) → (nat_lt a b || ((a == b) && false)) ≡ nat_lt a b
one_less a b = grind (arith, nat_tests)

cells_agree : (r s : Row) (x y : StoredCell) → drop 1 r ≡ cell_row x → drop 1 s ≡ cell_row y → agree plain (1 ∷ 2 ∷ []) r (1 ∷ 2 ∷ []) s ≡ ties cell_before x y
unfolding first_key
cells_agree [] s x y h k = absurd (cc)
cells_agree (v ∷ r) [] x y h k = absurd (cc)
cells_agree (v ∷ r) (w ∷ s) x y h k = rw (h, k, equal_whole x.r y.r, equal_whole x.slot y.slot) (both_tie x.r y.r x.slot y.slot)

cells_sort : (r s : Row) (x y : StoredCell) → drop 1 r ≡ cell_row x → drop 1 s ≡ cell_row y
    → is_lt (key_cmp 0 (map (λ k. k.1) by_two) (eval_all (map (λ k. k.0) by_two) ([] ∷ r ∷ [])) (eval_all (map (λ k. k.0) by_two) ([] ∷ s ∷ []))) ≡ cell_before x y
cells_sort [] s x y h k = absurd (cc)
cells_sort (v ∷ r) [] x y h k = absurd (cc)
cells_sort (v ∷ r) (w ∷ s) x y h k = rw (h, k, less_then x.r y.r, less_then x.slot y.slot) (both_less x.r y.r x.slot y.slot)

notices_agree : (r s : Row) (x y : StoredNotice) → drop 1 r ≡ notice_row x → drop 1 s ≡ notice_row y → agree plain (1 ∷ 2 ∷ []) r (1 ∷ 2 ∷ []) s ≡ ties notice_before x y
unfolding first_key
notices_agree [] s x y h k = absurd (cc)
notices_agree (v ∷ r) [] x y h k = absurd (cc)
notices_agree (v ∷ r) (w ∷ s) x y h k = rw (h, k, equal_whole x.r y.r, equal_whole x.site y.site) (both_tie x.r y.r x.site y.site)

notices_sort : (r s : Row) (x y : StoredNotice) → drop 1 r ≡ notice_row x → drop 1 s ≡ notice_row y
    → is_lt (key_cmp 0 (map (λ k. k.1) by_two) (eval_all (map (λ k. k.0) by_two) ([] ∷ r ∷ [])) (eval_all (map (λ k. k.0) by_two) ([] ∷ s ∷ []))) ≡ notice_before x y
notices_sort [] s x y h k = absurd (cc)
notices_sort (v ∷ r) [] x y h k = absurd (cc)
notices_sort (v ∷ r) (w ∷ s) x y h k = rw (h, k, less_then x.r y.r, less_then x.site y.site) (both_less x.r y.r x.site y.site)

sessions_agree : (r s : Row) (x y : StoredSession) → drop 1 r ≡ session_row x → drop 1 s ≡ session_row y → agree plain (4 ∷ []) r (4 ∷ []) s ≡ ties session_before x y
unfolding first_key
sessions_agree [] s x y h k = absurd (cc)
sessions_agree (v ∷ r) [] x y h k = absurd (cc)
sessions_agree (v ∷ r) (w ∷ s) x y h k = rw (h, k, equal_whole x.place y.place) (one_tie x.place y.place)

sessions_sort : (r s : Row) (x y : StoredSession) → drop 1 r ≡ session_row x → drop 1 s ≡ session_row y
    → is_lt (key_cmp 0 (map (λ k. k.1) by_place) (eval_all (map (λ k. k.0) by_place) ([] ∷ r ∷ [])) (eval_all (map (λ k. k.0) by_place) ([] ∷ s ∷ []))) ≡ session_before x y
sessions_sort [] s x y h k = absurd (cc)
sessions_sort (v ∷ r) [] x y h k = absurd (cc)
sessions_sort (v ∷ r) (w ∷ s) x y h k = rw (h, k, less_then x.place y.place) (one_less x.place y.place)

-- ---- no two rows have one key

quiet : (b more : Bool) → (not b && more) ≡ true → b ≡ false
quiet true more h = absurd (both_ways _ refl h)
quiet false more h = refl

-- a schema of a version and a database of it, by the schema that is written out
of_version : (schema : Schema) (db : Trees) (P : Type 0) → (v : Version) → IsSchemaOf v schema → IsDatabase (record { schema = schema; trees = db }) → (IsDatabase (record { schema = schema_3; trees = db }) → P)
    → ((more : Schema) → IsDatabase (record { schema = behind schema_4 more; trees = db }) → P) → P
of_version schema db P First is sound first second = first (subst (λ s. IsDatabase (record { schema = s; trees = db })) is sound)
of_version schema db P Second is sound first second = second (others_in schema) (subst (λ s. IsDatabase (record { schema = s; trees = db })) is sound)

cells_clear : (v : Version) (schema : Schema) (db : Trees) → IsSchemaOf v schema → IsDatabase (record { schema = schema; trees = db }) → (r : Row) → Has (db 2) r → clashes plain (1 ∷ 2 ∷ []) (db 2) r ≡ false
cells_clear v schema db is sound r h =
    of_version schema db (clashes plain (1 ∷ 2 ∷ []) (db 2) r ≡ false) v is sound
    (λ found. quiet _ _ (all_has _ (db 2) r (found.obeys.rules Unique).1.0 h)) (λ more found. quiet _ _ (all_has _ (db 2) r (found.obeys.rules Unique).1.0 h))

sessions_clear : (v : Version) (schema : Schema) (db : Trees) → IsSchemaOf v schema → IsDatabase (record { schema = schema; trees = db }) → (r : Row) → Has (db 4) r → clashes plain (4 ∷ []) (db 4) r ≡ false
sessions_clear v schema db is sound r h =
    of_version schema db (clashes plain (4 ∷ []) (db 4) r ≡ false) v is sound
    (λ found. quiet _ _ (all_has _ (db 4) r (found.obeys.rules Unique).1.1.0 h)) (λ more found. quiet _ _ (all_has _ (db 4) r (found.obeys.rules Unique).1.1.0 h))

notices_clear : (schema : Schema) (db : Trees) → IsSchemaOf Second schema → IsDatabase (record { schema = schema; trees = db }) → (r : Row) → Has (db 7) r → clashes plain (1 ∷ 2 ∷ []) (db 7) r ≡ false
notices_clear schema db is sound r h =
    let found = subst (λ s. IsDatabase (record { schema = s; trees = db })) is sound in
    quiet _ _ (all_has _ (db 7) r (found.obeys.rules Unique).1.1.1.0 h)

-- ---- the statements

module _ (old new : State) (p : Parts) (h : HoldsParts p old.now) (rows : List Row) where
  pub cells_own : Shown read_cells_text [] old new rows → All IsCellInRange p.cells → IsOwn cell_row one_cell cell_before IsCellInRange rows
  cells_own shown fit =
      let r = cells_read p.tables old.now.schema h.schema in
      own_of cell_row one_cell cell_before IsCellInRange p.cells fit rows
      (items_shown cell_row cell_before cells_ordered cell_of cell_back (1 ∷ 2 ∷ []) three by_two cell_shown cells_agree cells_sort 2 (overlay old.now.trees []) rows
      (answer read_cells_text old new old.now.schema refl 2 three by_two cell_names r.0 r.1 r.2 rows shown) p.cells h.cells (cells_clear p.tables old.now.schema old.now.trees h.schema h.sound))

  pub sessions_own : Shown read_sessions_text [] old new rows → All IsSessionInRange p.sessions → IsOwn session_row one_session session_before IsSessionInRange rows
  sessions_own shown fit =
      let r = sessions_read p.tables old.now.schema h.schema in
      own_of session_row one_session session_before IsSessionInRange p.sessions fit rows
      (items_shown session_row session_before sessions_ordered session_of session_back (4 ∷ []) four by_place session_shown sessions_agree sessions_sort 4 (overlay old.now.trees []) rows
      (answer read_sessions_text old new old.now.schema refl 4 four by_place session_names r.0 r.1 r.2 rows shown) p.sessions h.sessions (sessions_clear p.tables old.now.schema old.now.trees h.schema h.sound))

  pub notices_own : p.tables ≡ Second → Shown read_notices_text [] old new rows → All IsNoticeInRange p.notices → IsOwn notice_row one_notice notice_before IsNoticeInRange rows
  notices_own second shown fit =
      let has = subst (λ v. IsSchemaOf v old.now.schema) second h.schema in
      let r = notices_read old.now.schema has in
      own_of notice_row one_notice notice_before IsNoticeInRange p.notices fit rows
      (items_shown notice_row notice_before notices_ordered notice_of notice_back (1 ∷ 2 ∷ []) four by_two notice_shown notices_agree notices_sort 7 (overlay old.now.trees []) rows
      (answer read_notices_text old new old.now.schema refl 7 four by_two notice_names r.0 r.1 r.2 rows shown) p.notices (notices_of p (old.now.trees 7) second h.notices)
      (notices_clear old.now.schema old.now.trees has h.sound))
