-- What the statements make of the content of a store.
use Rattle.std.proofs.Common.{◌≡◌, inl, inr, ℕ, pos, Bool, true, false, not, ◌&&◌, ◌||◌, ◌==◌, List, [], ◌∷◌, drop, filter, bytes_eq, Some, IsTrue, refl, sym, ap, subst, ◌∙◌, arith}
use Rattle.std.specs.List.{AllByRecursion}
use Rattle.std.proofs.lemmas.Bool.{cases_Bool, both_ways, not-true}
use Rattle.std.proofs.lemmas.Bool.Decides.{nat_tests}
use Rattle.std.proofs.lemmas.Map.Text.{is_eq-slice_cmp}
use Rattle.std.proofs.lemmas.Slice.Eq.{bytes_eq-Decides}
use Rattle.sqlite_value.specs.declared.value.Value.TheVariants.{Int, Text}
use Rattle.sqlite_value.specs.declared.keys.Collation.TheVariants.{Binary}
use Rattle.sqlite_value.specs.Order.{Row, column}
use Rattle.sqlite_value.specs.Keys.{first_key}
use Rattle.sqlite_value.proofs.OrderLemmas.{value_cmp-Int, value_cmp-Text}
use Rattle.sqlite_trees.specs.Tree.{IsTable, rowid}
use Rattle.sqlite_trees.specs.View.{is_int}
use Rattle.sqlite_sql.specs.Ops.{unary, binary, is_true, from_truth}
use Rattle.sqlite_schema.specs.Rules.{equal}
use Rattle.sqlite_rules.specs.Lists.{Has}
use Rattle.sqlite_schema.specs.declared.schema.Schema.{Schema}
use Rattle.store_schema.specs.Tables.{AreBehind, IsSchemaOf, behind, others_in, schema_4, meta_table, meta_tree, cells_tree, sessions_tree, notices_tree}
use Rattle.store_schema.specs.declared.Version.TheVariants.{Second}
use Rattle.sqlite.specs.Effect.{Database, IsDatabase}
use Rattle.sqlite_rules.proofs.ListLemmas.{has_filtered, has_kept}
use Rattle.store_rows.specs.declared.content.StoredCell.{StoredCell}
use Rattle.store_rows.specs.declared.content.StoredNotice.{StoredNotice}
use Rattle.store_rows.specs.declared.content.StoredSession.{StoredSession}
use Rattle.store_rows.specs.Rows.{mark_row, cell_row, cell_before, notice_row, notice_before, session_row, session_before}
use Rattle.store_rows.specs.Sorted.{IsRising, put}
use Rattle.store_rows.specs.Holding.{HoldsRows, HasMark, Mark, set_mark, Parts, HoldsParts, HoldsNotices}
use Rattle.store_rows.specs.Steps.{with_mark}
use Rattle.store_rows.specs.Changes.{is_of, without}
use Rattle.store_rows.proofs.EditLemmas.{IsKeyed, IsPut, IsTaken}
use Rattle.store_rows.proofs.SortedLemmas.{IsOrder, ties, put_has, has_put, put_keeps, put_rises, filter_rises}
use Rattle.store_rows.proofs.PutLemmas.{HasPut, hits, cells_there, notices_there}
use Rattle.store_rows.proofs.SessionLemmas.{session_hits, sessions_there, HasTaken}
use Rattle.store_rows.proofs.BesideLemmas.{IsTableTree}

-- ---- the orders

pub cells_ordered : IsOrder cell_before
cells_ordered = record {
  strict = λ c. grind (arith, nat_tests);
  through = λ c d e p q. grind (arith, nat_tests);
  beside = λ c d e p q r. grind (arith, nat_tests);
}

pub notices_ordered : IsOrder notice_before
notices_ordered = record {
  strict = λ c. grind (arith, nat_tests);
  through = λ c d e p q. grind (arith, nat_tests);
  beside = λ c d e p q r. grind (arith, nat_tests);
}

pub sessions_ordered : IsOrder session_before
sessions_ordered = record {
  strict = λ c. grind (arith, nat_tests);
  through = λ c d e p q. grind (arith, nat_tests);
  beside = λ c d e p q r. grind (arith, nat_tests);
}

-- ---- rows as items

module _ {X : Type 0} (row : X → Row) (before : X → X → Bool) (order : IsOrder before) where
  pub rows_keyed : (items : List X) (rows : List Row) → HoldsRows row items rows → IsKeyed rows
  rows_keyed items rows h = record { keyed = h.keyed; numbered = h.numbered }

  pub rows_put : (x : X) (items : List X) (hit : Row → Bool) (old new : List Row) → HoldsRows row items old → IsRising before items → IsPut hit (row x) old new
      → ((r : Row) (y : X) → drop 1 r ≡ row y → hit r ≡ ties before x y) → HoldsRows row (put before x items) new
  rows_put x items hit old new was up step means = record {
    keyed = step.keyed.keyed;
    numbered = step.keyed.numbered;
    sound = λ r h. elim (step.only r h) [
      | inl here ↦ (x, has_put before order x items, here)
      | inr had ↦ let y = was.sound r had.0 in (y.0, put_keeps before order x items y.0 y.1 (sym (means r y.0 y.2) ∙ had.1), y.2)
    ];
    complete = λ y h. elim (put_has before order x items y up h) [
      | inl e ↦ (step.put.0, step.put.1, step.put.2 ∙ ap row (sym e))
      | inr had ↦ let r = was.complete y had.0 in (r.0, step.kept r.0 r.1 (means r.0 y r.2 ∙ had.1), r.2)
    ];
  }

  -- an item whose place no item has
  pub rows_added : (x : X) (items : List X) (old new : List Row) → HoldsRows row items old → IsRising before items → ((y : X) → Has items y → ties before x y ≡ false) → IsPut (λ _. false) (row x) old new
      → HoldsRows row (put before x items) new
  rows_added x items old new was up free step = record {
    keyed = step.keyed.keyed;
    numbered = step.keyed.numbered;
    sound = λ r h. elim (step.only r h) [
      | inl here ↦ (x, has_put before order x items, here)
      | inr had ↦ let y = was.sound r had.0 in (y.0, put_keeps before order x items y.0 y.1 (free y.0 y.1), y.2)
    ];
    complete = λ y h. elim (put_has before order x items y up h) [
      | inl e ↦ (step.put.0, step.put.1, step.put.2 ∙ ap row (sym e))
      | inr had ↦ let r = was.complete y had.0 in (r.0, step.kept r.0 r.1 refl, r.2)
    ];
  }

module _ {X : Type 0} (row : X → Row) (gone : X → Bool) where
  pub rows_dropped : (items : List X) (hit : Row → Bool) (old new : List Row) → HoldsRows row items old → IsTaken hit old new → ((r : Row) (y : X) → drop 1 r ≡ row y → hit r ≡ gone y)
      → HoldsRows row (filter (λ y. not (gone y)) items) new
  rows_dropped items hit old new was step means = record {
    keyed = step.keyed.keyed;
    numbered = step.keyed.numbered;
    sound = λ r h. let had = step.only r h in let y = was.sound r had.0 in
        (y.0, has_kept (λ z. not (gone z)) items y.0 y.1 (ap not (sym (means r y.0 y.2) ∙ had.1)), y.2);
    complete = λ y h. let k = has_filtered (λ z. not (gone z)) items y h in let r = was.complete y k.0 in
        (r.0, step.kept r.0 r.1 (means r.0 y r.2 ∙ not-true _ k.1), r.2);
  }

pub place_ties : (s x : StoredSession) → (x.place == s.place) ≡ false → ties session_before s x ≡ false
place_ties s x h = grind (arith, nat_tests)

-- ---- keys

pub equal_whole : (m n : ℕ) → equal Binary (Int (pos m)) (Int (pos n)) ≡ (m == n)
unfolding binary
equal_whole m n = rw (value_cmp-Int (pos m) (pos n)) (grind (arith, nat_tests))

pub cell_ties : (c d : StoredCell) → (((d.r == c.r) && ((d.slot == c.slot) && true)) || false) ≡ ties cell_before c d
cell_ties c d = grind (arith, nat_tests)

pub cell_finds : (c d : StoredCell) → ((d.r == c.r) && ((d.slot == c.slot) && true)) ≡ ties cell_before c d
cell_finds c d = grind (arith, nat_tests)

pub cell_hit : (c : StoredCell) (r : Row) (d : StoredCell) → drop 1 r ≡ cell_row d → hits cells_there (cell_row c) r ≡ ties cell_before c d
unfolding first_key
cell_hit c [] d h = absurd (cc)
cell_hit c (v ∷ r) d h = rw (h, equal_whole d.r c.r, equal_whole d.slot c.slot) (cell_ties c d)

pub notice_ties : (c d : StoredNotice) → (((d.r == c.r) && ((d.site == c.site) && true)) || false) ≡ ties notice_before c d
notice_ties c d = grind (arith, nat_tests)

pub notice_finds : (c d : StoredNotice) → ((d.r == c.r) && ((d.site == c.site) && true)) ≡ ties notice_before c d
notice_finds c d = grind (arith, nat_tests)

pub notice_hit : (c : StoredNotice) (r : Row) (d : StoredNotice) → drop 1 r ≡ notice_row d → hits notices_there (notice_row c) r ≡ ties notice_before c d
unfolding first_key
notice_hit c [] d h = absurd (cc)
notice_hit c (v ∷ r) d h = rw (h, equal_whole d.r c.r, equal_whole d.site c.site) (notice_ties c d)

truth_of : (b : Bool) → is_true (from_truth (Some b)) ≡ b
truth_of true = refl
truth_of false = refl

equal_text : (s t : List ℕ) → equal Binary (Text s) (Text t) ≡ bytes_eq s t
unfolding binary
equal_text s t = rw (value_cmp-Text s t, is_eq-slice_cmp s t) (truth_of (bytes_eq s t))

either_way : (b : Bool) → ((b && true) || false) ≡ b
either_way true = refl
either_way false = refl

pub mark_hit : (name value : List ℕ) (r : Row) (n : List ℕ) → column (drop 1 r) 0 ≡ Text n → hits meta_table (mark_row name value) r ≡ bytes_eq n name
unfolding first_key
mark_hit name value [] n h = absurd (cc)
mark_hit name value (v ∷ r) n h = rw (h, equal_text n name) (either_way (bytes_eq n name))

session_ties : (r h : ℕ) (s : StoredSession) → ((s.r == r) && ((s.h == h) && true)) ≡ is_of r h s
session_ties r h s = grind (arith, nat_tests)

pub session_hit : (r h : ℕ) (x : Row) (s : StoredSession) → drop 1 x ≡ session_row s → session_hits (Int (pos r) ∷ Int (pos h) ∷ []) x ≡ is_of r h s
unfolding unary
session_hit r h [] s e = absurd (cc)
session_hit r h (v ∷ x) s e = rw (e, equal_whole s.r r, equal_whole s.h h) (session_ties r h s)

-- ---- marks

module _ (m : Mark) (old new : List Row) (step : IsPut (hits meta_table (mark_row m.name m.value)) (mark_row m.name m.value) old new) where
  here : HasMark new m
  here = record {
    there = step.put;
    alone = λ r h named. elim (step.only r h) [
      | inl same ↦ same
      | inr had ↦ absurd (both_ways _ had.1 (mark_hit m.name m.value r m.name named ∙ (bytes_eq-Decides m.name m.name).1 refl))
    ];
  }

  still : (n : Mark) → bytes_eq n.name m.name ≡ false → HasMark old n → HasMark new n
  still n other was = record {
    there = (was.there.0, step.kept was.there.0 was.there.1 (mark_hit m.name m.value was.there.0 n.name (ap (λ (r : Row). column r 0) was.there.2) ∙ other), was.there.2);
    alone = λ r h named. elim (step.only r h) [
      | inl same ↦ absurd (both_ways (bytes_eq n.name m.name) other ((bytes_eq-Decides n.name m.name).1 (let e : Text n.name ≡ Text m.name = sym named ∙ ap (λ (x : Row). column x 0) same in cc)))
      | inr had ↦ was.alone r had.0 named
    ];
  }

  still_all : (ns : List Mark) → AllByRecursion (HasMark old) ns → AllByRecursion (HasMark new) (filter (λ o. not (bytes_eq o.name m.name)) ns)
  still_all [] all = tt
  still_all (n ∷ ns) all = elim (cases_Bool (bytes_eq n.name m.name)) [
    | inl e ↦ rw e (still_all ns all.1)
    | inr e ↦ rw e (still n e all.0, still_all ns all.1)
  ]

  pub marks_set : (ns : List Mark) → AllByRecursion (HasMark old) ns → AllByRecursion (HasMark new) (set_mark m ns)
  marks_set [] all = (here, tt)
  marks_set (n ∷ ns) all = elim (cases_Bool (bytes_eq n.name m.name)) [
    | inl e ↦ rw e (here, still_all ns all.1)
    | inr e ↦ rw e (still n e all.0, marks_set ns all.1)
  ]

-- ---- whole contents

-- the trees of a store's tables
pub spares_0 : (more : Schema) → IsTableTree (behind schema_4 more) 0
spares_0 more = (meta_table, inl refl, refl)

pub spares_2 : (more : Schema) → IsTableTree (behind schema_4 more) 2
spares_2 more = (cells_there, inr (inl refl), refl)

pub spares_4 : (more : Schema) → IsTableTree (behind schema_4 more) 4
spares_4 more = (sessions_there, inr (inr (inl refl)), refl)

pub spares_7 : (more : Schema) → IsTableTree (behind schema_4 more) 7
spares_7 more = (notices_there, inr (inr (inr (inl refl))), refl)

pub notices_of : (p : Parts) (rows : List Row) → p.tables ≡ Second → HoldsNotices p.tables p.notices rows → HoldsRows notice_row p.notices rows
notices_of p rows two h = subst (λ v. HoldsNotices v p.notices rows) two h

notices_as : (p : Parts) (notices : List StoredNotice) (rows : List Row) → p.tables ≡ Second → HoldsRows notice_row notices rows → HoldsNotices p.tables notices rows
notices_as p notices rows two h = subst (λ v. HoldsNotices v notices rows) (sym two) h

module _ (p : Parts) (a b : Database) (two : p.tables ≡ Second) (h : HoldsParts p a) where
  abbrev more : Schema
  more = others_in a.schema

  -- the schema that a statement finds
  pub has_own : a.schema ≡ behind schema_4 (others_in a.schema)
  has_own = subst (λ v. IsSchemaOf v a.schema) two h.schema

  now_is : b.schema ≡ behind schema_4 more → IsSchemaOf p.tables b.schema
  now_is e = subst (λ v. IsSchemaOf v b.schema) (sym two) (e ∙ ap (behind schema_4) (sym (ap others_in e)))

  still_apart : b.schema ≡ behind schema_4 more → AreBehind (others_in b.schema)
  still_apart e = subst AreBehind (sym (ap others_in e)) h.apart

  -- a database whose tables have the rows that they had
  pub parts_kept : b.schema ≡ behind schema_4 more → IsDatabase b → b.trees 0 ≡ a.trees 0 → b.trees 2 ≡ a.trees 2 → b.trees 4 ≡ a.trees 4 → b.trees 7 ≡ a.trees 7 → HoldsParts p b
  parts_kept schema sound marks cells sessions notices = record {
    schema = now_is schema;
    apart = still_apart schema;
    sound = sound;
    rows = subst IsTable (sym marks) h.rows;
    numbered = subst (AllByRecursion (λ r. IsTrue (is_int (rowid r)))) (sym marks) h.numbered;
    marks = subst (λ (all : List Row). AllByRecursion (HasMark all) p.marks) (sym marks) h.marks;
    cells = subst (HoldsRows cell_row p.cells) (sym cells) h.cells;
    sessions = subst (HoldsRows session_row p.sessions) (sym sessions) h.sessions;
    notices = subst (HoldsNotices p.tables p.notices) (sym notices) h.notices;
    cells_rise = h.cells_rise;
    sessions_rise = h.sessions_rise;
    notices_rise = h.notices_rise;
  }

  pub parts_cell : (c : StoredCell) → HasPut more cells_tree (hits cells_there (cell_row c)) (cell_row c) a b → HoldsParts (record p { cells = put cell_before c p.cells }) b
  parts_cell c step =
      let meta = sym (step.others 0 (λ e. omega arith) (spares_0 more)) in
      let sessions = sym (step.others 4 (λ e. omega arith) (spares_4 more)) in
      let notices = sym (step.others 7 (λ e. omega arith) (spares_7 more)) in
      record {
        schema = now_is step.schema;
        apart = still_apart step.schema;
        sound = step.sound;
        rows = subst IsTable meta h.rows;
        numbered = subst (AllByRecursion (λ r. IsTrue (is_int (rowid r)))) meta h.numbered;
        marks = subst (λ (all : List Row). AllByRecursion (HasMark all) p.marks) meta h.marks;
        cells = rows_put cell_row cell_before cells_ordered c p.cells (hits cells_there (cell_row c)) (a.trees 2) (b.trees 2) h.cells h.cells_rise step.rows (cell_hit c);
        sessions = subst (HoldsRows session_row p.sessions) sessions h.sessions;
        notices = subst (HoldsNotices p.tables p.notices) notices h.notices;
        cells_rise = put_rises cell_before cells_ordered c p.cells h.cells_rise;
        sessions_rise = h.sessions_rise;
        notices_rise = h.notices_rise;
      }

  pub parts_notice : (c : StoredNotice) → HasPut more notices_tree (hits notices_there (notice_row c)) (notice_row c) a b → HoldsParts (record p { notices = put notice_before c p.notices }) b
  parts_notice c step =
      let meta = sym (step.others 0 (λ e. omega arith) (spares_0 more)) in
      let cells = sym (step.others 2 (λ e. omega arith) (spares_2 more)) in
      let sessions = sym (step.others 4 (λ e. omega arith) (spares_4 more)) in
      record {
        schema = now_is step.schema;
        apart = still_apart step.schema;
        sound = step.sound;
        rows = subst IsTable meta h.rows;
        numbered = subst (AllByRecursion (λ r. IsTrue (is_int (rowid r)))) meta h.numbered;
        marks = subst (λ (all : List Row). AllByRecursion (HasMark all) p.marks) meta h.marks;
        cells = subst (HoldsRows cell_row p.cells) cells h.cells;
        sessions = subst (HoldsRows session_row p.sessions) sessions h.sessions;
        notices = notices_as p (put notice_before c p.notices) (b.trees 7) two
            (rows_put notice_row notice_before notices_ordered c p.notices (hits notices_there (notice_row c)) (a.trees 7) (b.trees 7) (notices_of p (a.trees 7) two h.notices) h.notices_rise step.rows (notice_hit c));
        cells_rise = h.cells_rise;
        sessions_rise = h.sessions_rise;
        notices_rise = put_rises notice_before notices_ordered c p.notices h.notices_rise;
      }

  pub parts_mark : (m : Mark) → HasPut more meta_tree (hits meta_table (mark_row m.name m.value)) (mark_row m.name m.value) a b → HoldsParts (with_mark m p) b
  parts_mark m step =
      let cells = sym (step.others 2 (λ e. omega arith) (spares_2 more)) in
      let sessions = sym (step.others 4 (λ e. omega arith) (spares_4 more)) in
      let notices = sym (step.others 7 (λ e. omega arith) (spares_7 more)) in
      record {
        schema = now_is step.schema;
        apart = still_apart step.schema;
        sound = step.sound;
        rows = step.rows.keyed.keyed;
        numbered = step.rows.keyed.numbered;
        marks = marks_set m (a.trees 0) (b.trees 0) step.rows p.marks h.marks;
        cells = subst (HoldsRows cell_row p.cells) cells h.cells;
        sessions = subst (HoldsRows session_row p.sessions) sessions h.sessions;
        notices = subst (HoldsNotices p.tables p.notices) notices h.notices;
        cells_rise = h.cells_rise;
        sessions_rise = h.sessions_rise;
        notices_rise = h.notices_rise;
      }

  pub parts_dropped : (r k : ℕ) → HasTaken more sessions_tree (session_hits (Int (pos r) ∷ Int (pos k) ∷ [])) a b → HoldsParts (record p { sessions = without r k p.sessions }) b
  parts_dropped r k step =
      let meta = sym (step.others 0 (λ e. omega arith) (spares_0 more)) in
      let cells = sym (step.others 2 (λ e. omega arith) (spares_2 more)) in
      let notices = sym (step.others 7 (λ e. omega arith) (spares_7 more)) in
      record {
        schema = now_is step.schema;
        apart = still_apart step.schema;
        sound = step.sound;
        rows = subst IsTable meta h.rows;
        numbered = subst (AllByRecursion (λ r. IsTrue (is_int (rowid r)))) meta h.numbered;
        marks = subst (λ (all : List Row). AllByRecursion (HasMark all) p.marks) meta h.marks;
        cells = subst (HoldsRows cell_row p.cells) cells h.cells;
        sessions = rows_dropped session_row (is_of r k) p.sessions (session_hits (Int (pos r) ∷ Int (pos k) ∷ [])) (a.trees 4) (b.trees 4) h.sessions step.rows (session_hit r k);
        notices = subst (HoldsNotices p.tables p.notices) notices h.notices;
        cells_rise = h.cells_rise;
        sessions_rise = filter_rises session_before sessions_ordered (λ s. not (is_of r k s)) p.sessions h.sessions_rise;
        notices_rise = h.notices_rise;
      }

  pub parts_added : (s : StoredSession) → ((x : StoredSession) → Has p.sessions x → (x.place == s.place) ≡ false) → HasPut more sessions_tree (λ _. false) (session_row s) a b
      → HoldsParts (record p { sessions = put session_before s p.sessions }) b
  parts_added s free step =
      let meta = sym (step.others 0 (λ e. omega arith) (spares_0 more)) in
      let cells = sym (step.others 2 (λ e. omega arith) (spares_2 more)) in
      let notices = sym (step.others 7 (λ e. omega arith) (spares_7 more)) in
      record {
        schema = now_is step.schema;
        apart = still_apart step.schema;
        sound = step.sound;
        rows = subst IsTable meta h.rows;
        numbered = subst (AllByRecursion (λ r. IsTrue (is_int (rowid r)))) meta h.numbered;
        marks = subst (λ (all : List Row). AllByRecursion (HasMark all) p.marks) meta h.marks;
        cells = subst (HoldsRows cell_row p.cells) cells h.cells;
        sessions = rows_added session_row session_before sessions_ordered s p.sessions (a.trees 4) (b.trees 4) h.sessions h.sessions_rise
            (λ x k. place_ties s x (free x k)) step.rows;
        notices = subst (HoldsNotices p.tables p.notices) notices h.notices;
        cells_rise = h.cells_rise;
        sessions_rise = put_rises session_before sessions_ordered s p.sessions h.sessions_rise;
        notices_rise = h.notices_rise;
      }
