-- What reading a table shows of a store.
use Rattle.std.proofs.Common.{◌≡◌, inl, inr, ℕ, Bool, true, List, [], ◌∷◌, map, drop, suc, Option, Some, None, length, get_or, ◌<◌, Result, Ok, Err, IfOk, IfSome, OnOk, refl, sym, ap, subst, ◌∙◌, arith}
use Rattle.std.specs.List.{AllByRecursion}
use Rattle.std.proofs.lemmas.Bool.{and_parts}
use Rattle.sqlite_value.specs.declared.value.Value.TheVariants.{Text}
use Rattle.sqlite_value.specs.Order.{Row, column}
use Rattle.sqlite_rules.specs.Lists.{Has}
use Rattle.sqlite_rules.proofs.ListLemmas.{all_has, all_from, has_at}
use Rattle.store_rows.specs.declared.content.Stage.{Stage}
use Rattle.store_rows.specs.declared.content.Stage.TheVariants.{Reader, Waiting, Writer}
use Rattle.store_rows.specs.declared.content.StoredCell.{StoredCell}
use Rattle.store_rows.specs.declared.content.StoredSession.{StoredSession}
use Rattle.store_rows.specs.declared.content.StoredNotice.{StoredNotice}
use Rattle.std.specs.Coded.{Coded, Coded-set, code_by, coded×, coded_ℕ, coded_list, coded_option}
use Rattle.store_rows.specs.contracts.content.StoredCell as cell
use Rattle.store_rows.specs.contracts.content.StoredSession as session
use Rattle.store_rows.specs.contracts.content.StoredNotice as notice
use Rattle.store_schema.specs.contracts.Version as version
use Rattle.store_rows.specs.Rows.{Stored, stage_number, mark_row, cell_row, session_row, notice_row}
use Rattle.store_rows.specs.Rows.{cell_before, session_before, notice_before}
use Rattle.store_rows.specs.Texts.{read_marks_text, read_cells_text, read_sessions_text, read_notices_text}
use Rattle.sqlite_sql.specs.Term.{eval_all}
use Rattle.sqlite.specs.State.{State, Shown}
use Rattle.store_schema.specs.declared.Version.{Version}
use Rattle.store_schema.specs.declared.Version.TheVariants.{First, Second}
use Rattle.store_schema.specs.declared.Found.TheVariants.{Store}
use Rattle.store_schema.specs.Found.{found_in}
use Rattle.store_schema.proofs.TableLemmas.{found_first, found_second}
use Rattle.sqlite_schema.specs.declared.schema.Schema.{Schema}
use Rattle.store_schema.specs.Tables.{IsSchemaOf, others_in}
use Rattle.store_rows.proofs.SelectLemmas.{two, mark_names, marks_read, three, four, by_two, by_place, cell_names, session_names, notice_names, cells_read, sessions_read, notices_read}
use Rattle.store_rows.proofs.ContentLemmas.{cells_ordered, sessions_ordered, notices_ordered, notices_of}
use Rattle.store_rows.specs.Sorted.{IsRising}
use Rattle.store_rows.specs.Holding.{HoldsRows, HasMark, Mark, mark, Parts, HoldsParts}
use Rattle.store_rows.proofs.ReadLemmas.{mapped_has, has_mapped, shown_has, has_shown, shown_same}
use Rattle.store_rows.proofs.SortedLemmas.{IsOrder, one_rising}
use Rattle.store_tables.specs.Marking.{ShowsNames}
use Rattle.store_tables.specs.Reads.{is_chain, TellsMark}

module _ {X : Type 0} (before : X → X → Bool) (order : IsOrder before) where
  -- a chain rises
  pub chain_rises : (xs : List X) → is_chain before xs ≡ true → IsRising before xs
  chain_rises [] h = tt
  chain_rises (x ∷ []) h = (tt, tt)
  chain_rises (x ∷ (y ∷ ys)) h =
      let parts = and_parts _ _ h in
      let later = chain_rises (y ∷ ys) parts.1 in
      ((parts.0, all_from _ ys (λ z k. order.through x y z parts.0 (all_has _ ys z later.0 k))), later)

  -- items whose rows were all shown, in rising order, are those of the table
  pub items_are : (row : X → Row) → ((x y : X) → row x ≡ row y → x ≡ y) → (items found : List X) (rows shown : List Row) → HoldsRows row items rows → IsRising before items
      → ((y : Row) → Has shown y → (r : Row) × Has rows r × ((x : X) → drop 1 r ≡ row x → y ≡ row x)) → ((r : Row) (x : X) → Has rows r → drop 1 r ≡ row x → Has shown (row x))
      → map row found ≡ shown → is_chain before found ≡ true → found ≡ items
  items_are row one items found rows shown holds up from each same chain =
      one_rising before order found items (chain_rises found chain) up
      (λ x k.
      let y = subst (λ all. Has all (row x)) same (has_mapped row found x k) in
      let r = from (row x) y in
      let z = holds.sound r.0 r.1 in
      subst (Has items) (sym (one x z.0 (r.2 z.0 z.2))) z.1)
      (λ x k.
      let r = holds.complete x k in
      let y = subst (λ all. Has all (row x)) (sym same) (each r.0 x r.1 r.2) in
      let z = mapped_has row found (row x) y in
      subst (Has found) (sym (one x z.0 z.2)) z.1)

-- ---- rows tell their items

pub one_cell : (c d : StoredCell) → cell_row c ≡ cell_row d → c ≡ d
one_cell c d h =
    let a : c.r ≡ d.r = cc in
    let b : c.slot ≡ d.slot = cc in
    let e : c.n ≡ d.n = cc in
    λ i. record { r = a i; slot = b i; n = e i }

pub one_notice : (c d : StoredNotice) → notice_row c ≡ notice_row d → c ≡ d
one_notice c d h =
    let a : c.r ≡ d.r = cc in
    let b : c.site ≡ d.site = cc in
    let e : c.announced ≡ d.announced = cc in
    let f : c.finished ≡ d.finished = cc in
    λ i. record { r = a i; site = b i; announced = e i; finished = f i }

one_stage : (s t : Stage) → stage_number s ≡ stage_number t → s ≡ t
one_stage Reader Reader h = refl
one_stage Reader Waiting h = absurd (omega arith)
one_stage Reader Writer h = absurd (omega arith)
one_stage Waiting Reader h = absurd (omega arith)
one_stage Waiting Waiting h = refl
one_stage Waiting Writer h = absurd (omega arith)
one_stage Writer Reader h = absurd (omega arith)
one_stage Writer Waiting h = absurd (omega arith)
one_stage Writer Writer h = refl

pub one_session : (c d : StoredSession) → session_row c ≡ session_row d → c ≡ d
one_session c d h =
    let a : c.r ≡ d.r = cc in
    let b : c.h ≡ d.h = cc in
    let n : stage_number c.stage ≡ stage_number d.stage = cc in
    let e = one_stage c.stage d.stage n in
    let f : c.place ≡ d.place = cc in
    λ i. record { r = a i; h = b i; stage = e i; place = f i }

-- ---- the statements

pub cell_shown : (r : Row) (x : StoredCell) → drop 1 r ≡ cell_row x → eval_all three ([] ∷ r ∷ []) ≡ cell_row x
cell_shown [] x h = absurd (cc)
cell_shown (v ∷ r) x h = rw h

pub session_shown : (r : Row) (x : StoredSession) → drop 1 r ≡ session_row x → eval_all four ([] ∷ r ∷ []) ≡ session_row x
session_shown [] x h = absurd (cc)
session_shown (v ∷ r) x h = rw h

pub notice_shown : (r : Row) (x : StoredNotice) → drop 1 r ≡ notice_row x → eval_all four ([] ∷ r ∷ []) ≡ notice_row x
notice_shown [] x h = absurd (cc)
notice_shown (v ∷ r) x h = rw h

module _ (old new : State) (p : Parts) (h : HoldsParts p old.now) (rows : List Row) where
  pub cells_shown : (found : List StoredCell) → Shown read_cells_text [] old new rows → map cell_row found ≡ rows → is_chain cell_before found ≡ true → (found ≡ p.cells) × (new.now ≡ old.now)
  cells_shown found shown same chain =
      let r = cells_read p.tables old.now.schema h.schema in (
        items_are cell_before cells_ordered cell_row one_cell p.cells found (old.now.trees 2) rows h.cells h.cells_rise
            (λ y k. let it = shown_has read_cells_text old new old.now.schema refl 2 three by_two cell_names r.0 r.1 r.2 rows shown y k in (it.0, it.1, λ x e. it.2 ∙ cell_shown it.0 x e))
            (λ s x k e. subst (Has rows) (cell_shown s x e) (has_shown read_cells_text old new old.now.schema refl 2 three by_two cell_names r.0 r.1 r.2 rows shown s k)) same chain,
        (shown_same read_cells_text [] old new rows r.1 shown).0.now_is,
      )

  pub sessions_shown : (found : List StoredSession) → Shown read_sessions_text [] old new rows → map session_row found ≡ rows → is_chain session_before found ≡ true → (found ≡ p.sessions) × (new.now ≡ old.now)
  sessions_shown found shown same chain =
      let r = sessions_read p.tables old.now.schema h.schema in (
        items_are session_before sessions_ordered session_row one_session p.sessions found (old.now.trees 4) rows h.sessions h.sessions_rise
            (λ y k. let it = shown_has read_sessions_text old new old.now.schema refl 4 four by_place session_names r.0 r.1 r.2 rows shown y k in (it.0, it.1, λ x e. it.2 ∙ session_shown it.0 x e))
            (λ s x k e. subst (Has rows) (session_shown s x e) (has_shown read_sessions_text old new old.now.schema refl 4 four by_place session_names r.0 r.1 r.2 rows shown s k)) same chain,
        (shown_same read_sessions_text [] old new rows r.1 shown).0.now_is,
      )

  pub notices_shown : p.tables ≡ Second → (found : List StoredNotice) → Shown read_notices_text [] old new rows → map notice_row found ≡ rows → is_chain notice_before found ≡ true → (found ≡ p.notices) × (new.now ≡ old.now)
  notices_shown second found shown same chain =
      let r = notices_read old.now.schema (subst (λ v. IsSchemaOf v old.now.schema) second h.schema) in (
        items_are notice_before notices_ordered notice_row one_notice p.notices found (old.now.trees 7) rows (notices_of p (old.now.trees 7) second h.notices) h.notices_rise
            (λ y k. let it = shown_has read_notices_text old new old.now.schema refl 7 four by_two notice_names r.0 r.1 r.2 rows shown y k in (it.0, it.1, λ x e. it.2 ∙ notice_shown it.0 x e))
            (λ s x k e. subst (Has rows) (notice_shown s x e) (has_shown read_notices_text old new old.now.schema refl 7 four by_two notice_names r.0 r.1 r.2 rows shown s k)) same chain,
        (shown_same read_notices_text [] old new rows r.1 shown).0.now_is,
      )

-- ---- marks

mark_shown : (r : Row) (name value : List ℕ) → drop 1 r ≡ mark_row name value → eval_all two ([] ∷ r ∷ []) ≡ mark_row name value
mark_shown [] name value h = absurd (cc)
mark_shown (v ∷ r) name value h = rw h

first_shown : (r : Row) (name : List ℕ) → column (eval_all two ([] ∷ r ∷ [])) 0 ≡ Text name → column (drop 1 r) 0 ≡ Text name
first_shown [] name h = absurd (cc)
first_shown (v ∷ r) name h = h

shown_first : (r : Row) (name : List ℕ) → column (drop 1 r) 0 ≡ Text name → column (eval_all two ([] ∷ r ∷ [])) 0 ≡ Text name
shown_first [] name h = absurd (cc)
shown_first (v ∷ r) name h = h

module _ (rows shown : List Row) (from : (y : Row) → Has shown y → (r : Row) × Has rows r × (y ≡ eval_all two ([] ∷ r ∷ []))) (each : (r : Row) → Has rows r → Has shown (eval_all two ([] ∷ r ∷ []))) where
  mark_told : (m : Mark) → HasMark rows m → TellsMark shown m
  mark_told m h = record {
    there = subst (Has shown) (mark_shown h.there.0 m.name m.value h.there.2) (each h.there.0 h.there.1);
    alone = λ y k named. let r = from y k in
        let same = h.alone r.0 r.1 (first_shown r.0 m.name (subst (λ (x : Row). column x 0 ≡ Text m.name) r.2 named)) in
        r.2 ∙ mark_shown r.0 m.name m.value same;
  }

  marks_told : (ms : List Mark) → AllByRecursion (HasMark rows) ms → AllByRecursion (TellsMark shown) ms
  marks_told [] h = tt
  marks_told (m ∷ ms) h = (mark_told m h.0, marks_told ms h.1)

pub marks_shown : (old new : State) (p : Parts) (h : HoldsParts p old.now) (rows : List Row) → Shown read_marks_text [] old new rows → AllByRecursion (TellsMark rows) p.marks × (new.now ≡ old.now)
marks_shown old new p h rows shown =
    let r = marks_read p.tables old.now.schema h.schema in (
      marks_told (old.now.trees 0) rows (shown_has read_marks_text old new old.now.schema refl 0 two [] mark_names r.0 r.1 r.2 rows shown)
          (has_shown read_marks_text old new old.now.schema refl 0 two [] mark_names r.0 r.1 r.2 rows shown) p.marks h.marks,
      (shown_same read_marks_text [] old new rows r.1 shown).0.now_is,
    )

-- the names are those of the rows
pub names_shown : (old new : State) (v : Version) → IsSchemaOf v old.now.schema → (rows : List Row) → Shown read_marks_text [] old new rows → ShowsNames (old.now.trees 0) rows
names_shown old new v has rows shown =
    let r = marks_read v old.now.schema has in
    record {
      from = λ y k name named.
          let it = shown_has read_marks_text old new old.now.schema refl 0 two [] mark_names r.0 r.1 r.2 rows shown y k in
          (it.0, it.1, first_shown it.0 name (subst (λ (x : Row). column x 0 ≡ Text name) it.2 named));
      each = λ s k name named. (eval_all two ([] ∷ s ∷ []), has_shown read_marks_text old new old.now.schema refl 0 two [] mark_names r.0 r.1 r.2 rows shown s k, shown_first s name named);
    }

-- two facts of an answer together
pub if_ok_both : {A E : Type 0} {P Q R : A → Type 0} (r : Result A E) → ((x : A) → P x → Q x → R x) → IfOk r P → IfOk r Q → IfOk r R
if_ok_both (Ok x) f p q = f x p q
if_ok_both (Err e) f p q = tt

pub if_ok_map : {A E : Type 0} {P Q : A → Type 0} (r : Result A E) → ((x : A) → P x → Q x) → IfOk r P → IfOk r Q
if_ok_map (Ok x) f p = f x p
if_ok_map (Err e) f p = tt

pub if_some_map : {A : Type 0} {P Q : A → Type 0} (o : Option A) → ((x : A) → P x → Q x) → IfSome o P → IfSome o Q
if_some_map (Some x) f p = f x p
if_some_map None f p = tt

-- a row with the name of a mark has its value
pub value_told : (rows : List Row) (name value : List ℕ) (row : Row) (at : ℕ) → TellsMark rows (mark name value) → at < length rows → row ≡ get_or rows at row → column row 0 ≡ Text name
    → (items : List ℕ) → column row 1 ≡ Text items → items ≡ value
value_told rows name value row at tells within is named items shown =
    let same = tells.alone row (has_at rows at row within is) named in
    let e : Text value ≡ Text items = sym (ap (λ (r : Row). column r 1) same) ∙ shown in
    cc

-- contents have one way to be the same
stored_coded : Coded Stored
stored_coded =
    code_by (Version × (List ℕ × (List ℕ × (List StoredCell × (List StoredSession × List StoredNotice)))))
    (coded× version.the_row.coded (coded× (coded_list coded_ℕ) (coded× (coded_list coded_ℕ) (coded× (coded_list cell.the_row.coded) (coded× (coded_list session.the_row.coded) (coded_list notice.the_row.coded))))))
    (λ it. (it.version, (it.site, (it.layout, (it.cells, (it.sessions, it.notices))))))
    (λ p. record { version = p.0; site = p.1.0; layout = p.1.1.0; cells = p.1.1.1.0; sessions = p.1.1.1.1.0; notices = p.1.1.1.1.1 })
    (λ _. refl)

pub found_once : {E : Type 0} (r : Result (Option Stored) E) (it : Option Stored) → IsProp (IfOk r (λ found. found ≡ it))
found_once (Ok x) it = Coded-set (coded_option stored_coded) x it
found_once (Err e) it = λ a b. refl

pub row_told : (rows : List Row) (name value : List ℕ) (row : Row) (at : ℕ) → TellsMark rows (mark name value) → at < length rows → row ≡ get_or rows at row → column row 0 ≡ Text name → column row 1 ≡ Text value
row_told rows name value row at tells within is named = ap (λ (r : Row). column r 1) (tells.alone row (has_at rows at row within is) named)

-- the place of an element
pub place_of : (rows : List Row) (row : Row) → Has rows row → (i : ℕ) × (i < length rows) × (get_or rows i [] ≡ row)
place_of [] row h = absurd h
place_of (r ∷ rows) row (inl e) = (0, omega arith, sym e)
place_of (r ∷ rows) row (inr h) = let k = place_of rows row h in let within : k.0 < length rows = k.1 in (suc k.0, omega (arith, within), k.2)

-- what holds of an answer that went well, by what is known of such an answer
pub if_ok_from : {A E : Type 0} {G : A → Type 0} (r : Result A E) → ((x : A) → r ≡ Ok x → G x) → IfOk r G
if_ok_from (Ok x) k = k x refl
if_ok_from (Err e) k = tt

pub on_ok_given : {A E : Type 0} {B C Q : Type 0} (r : Result A E) → ((B → C) → Q) → (B → OnOk r C) → OnOk r Q
on_ok_given (Ok x) f h = f h
on_ok_given (Err e) f h = tt

pub if_ok_given : {A E : Type 0} {C : Type 0} (P : A → Type 0) (r : Result A E) → (C → IfOk r P) → OnOk r C → IfOk r P
if_ok_given P (Ok x) f h = f h
if_ok_given P (Err e) f h = tt

-- the schema of a version is found to be that of a store of the version
pub found_store : (v : Version) (schema : Schema) → IsSchemaOf v schema → found_in schema ≡ Store v
found_store First schema is = ap found_in is ∙ found_first
found_store Second schema is = ap found_in is ∙ found_second (others_in schema)
