-- Changes of several calls, planned one behind the other, and what tables that took them or refused them keep.
use Rattle.std.proofs.Common.{◌≡◌, ◌<◌, ◌^◌, ℕ, inl, inr, Bool, List, [], ◌∷◌, ◌++◌, Option, Some, None, All, refl, sym, ap, subst, ◌∙◌}
use Rattle.std.proofs.lemmas.List.{append-nil}
use Rattle.std.proofs.lemmas.List.Elements.{All-append, All-cons, All-head, All-nil, All-tail}
use Rattle.sqlite_trees.specs.declared.store.Store.{Ghosts}
use Rattle.sqlite.specs.Held.{Held}
use Rattle.merge_core.specs.Layout.{LayoutState}
use Rattle.admission_core.specs.Kept.{ChangeState}
use Rattle.durable_keeper.specs.Keeping.{changed}
use Rattle.round_keeper.specs.Rounds.{ChangesNothing, changed_all as made_all}
use Rattle.round_keeper.proofs.StagedLemmas.{changed_all-push}
use Rattle.store_schema.specs.declared.Version.TheVariants.{Second}
use Rattle.store_rows.specs.declared.content.StoredCell.{StoredCell}
use Rattle.store_rows.specs.declared.content.StoredNotice.{StoredNotice}
use Rattle.store_rows.specs.declared.content.StoredSession.{StoredSession}
use Rattle.store_rows.specs.declared.content.SessionEdit.{SessionEdit}
use Rattle.store_rows.specs.Rows.{Stored, cell_before, notice_before}
use Rattle.store_rows.specs.Sorted.{put, put_all}
use Rattle.store_rows.specs.Changes.{edited}
use Rattle.store_rows.specs.Holding.{Keeps, KeepsEither}
use Rattle.store_rows.specs.Steps.{HasFreePlace, IsStorable}
use Rattle.store_tables.specs.Rounds.{AreStorable, HaveFreePlaces, changed_all, edited_all}
use Rattle.store_tables.proofs.RoundLemmas.{edited_more, free_more}
use Rattle.store_content.specs.declared.index.Index.{Index}
use Rattle.store_content.specs.Content.{IsContent, durable_in}
use Rattle.store_content.specs.Known.{Knows}
use Rattle.store_content.specs.Plan.{IsPlan, Makes, RowsState, after, after_change}
use Rattle.store_content.proofs.LawLemmas.{same_rows}
use Rattle.site_store.specs.Rounds.{AreRows, ChangesAll, ChangesAllOrNone, Plans, after_changes, edits_in}
use Rattle.site_store.specs.Sql.{IsOf, IsOneOf}
use Rattle.site_store.proofs.OpenLemmas.{twice}
use Rattle.site_store.proofs.SqlLemmas.{either_first, nothing_after}

-- ---- one change more

changes_more : (done : List ChangeState) (c : ChangeState) (it : Stored) → after_changes (done ++ c ∷ []) it ≡ after_change c (after_changes done it)
changes_more [] c it = refl
changes_more (x ∷ xs) c it = changes_more xs c (after_change x it)

-- what no change touches
stays_second : (changes : List ChangeState) (it : Stored) → (after_changes changes it).version ≡ it.version
stays_second [] it = refl
stays_second (c ∷ cs) it = stays_second cs (after_change c it)

stays_site : (changes : List ChangeState) (it : Stored) → (after_changes changes it).site ≡ it.site
stays_site [] it = refl
stays_site (c ∷ cs) it = stays_site cs (after_change c it)

stays_layout : (changes : List ChangeState) (it : Stored) → (after_changes changes it).layout ≡ it.layout
stays_layout [] it = refl
stays_layout (c ∷ cs) it = stays_layout cs (after_change c it)

put_all_more : {X : Type 0} (before : X → X → Bool) (some more xs : List X) → put_all before (some ++ more) xs ≡ put_all before more (put_all before some xs)
put_all_more before [] more xs = refl
put_all_more before (x ∷ some) more xs = put_all_more before some more (put before x xs)

edited_after : (edits : List SessionEdit) (edit : Option SessionEdit) (ss : List StoredSession) → edited_all (edits ++ edits_in edit) ss ≡ edited edit (edited_all edits ss)
edited_after edits None ss = ap (λ (es : List SessionEdit). edited_all es ss) (append-nil edits)
edited_after edits (Some edit) ss = edited_more edits edit ss

free_after : (edits : List SessionEdit) (edit : Option SessionEdit) (ss : List StoredSession) → HaveFreePlaces edits ss → HasFreePlace edit (edited_all edits ss) → HaveFreePlaces (edits ++ edits_in edit) ss
free_after edits None ss free last = subst (λ (es : List SessionEdit). HaveFreePlaces es ss) (sym (append-nil edits)) free
free_after edits (Some edit) ss free last = free_more edits edit ss free last

with_rows : List StoredCell → List StoredNotice → List StoredSession → Stored → Stored
with_rows cells notices sessions it = record it { cells = cells; notices = notices; sessions = sessions }

-- the rows of one change more
rows_more : (cells : List StoredCell) (notices : List StoredNotice) (edits : List SessionEdit) (rows : RowsState) (it : Stored)
    → changed_all (cells ++ rows.cells) (notices ++ rows.notices) (edits ++ edits_in rows.edit) it ≡ after rows (changed_all cells notices edits it)
unfolding with_rows
rows_more cells notices edits rows it =
    ap (λ (x : List StoredCell). with_rows x (put_all notice_before (notices ++ rows.notices) it.notices) (edited_all (edits ++ edits_in rows.edit) it.sessions) it) (put_all_more cell_before cells rows.cells it.cells)
    ∙ ap (λ (x : List StoredNotice). with_rows (put_all cell_before rows.cells (put_all cell_before cells it.cells)) x (edited_all (edits ++ edits_in rows.edit) it.sessions) it) (put_all_more notice_before notices rows.notices it.notices)
    ∙ ap (λ (x : List StoredSession). with_rows (put_all cell_before rows.cells (put_all cell_before cells it.cells)) (put_all notice_before rows.notices (put_all notice_before notices it.notices)) x it) (edited_after edits rows.edit it.sessions)

-- before the first change
pub none_planned : (it : Stored) (index : Index) → it.version ≡ Second → IsContent it → Knows index it → Plans [] it [] [] [] index
none_planned it index second is knows = record { rows = refl; takes = record { second = second; free = tt }; durable = refl; content = is; known = knows }

pub one_planned : (done : List ChangeState) (c : ChangeState) (it : Stored) (cells : List StoredCell) (notices : List StoredNotice) (edits : List SessionEdit) (rows : RowsState) (index next : Index)
    → Plans done it cells notices edits index → IsPlan c (after_changes done it) rows → Makes c (after_changes done it) rows → Knows next (after rows (after_changes done it))
    → Plans (done ++ c ∷ []) it (cells ++ rows.cells) (notices ++ rows.notices) (edits ++ edits_in rows.edit) next
one_planned done c it cells notices edits rows index next plans plan makes knows =
    let last = after_changes done it in
    let same : after rows last ≡ after_change c last = ap (λ (r : RowsState). after r last) (same_rows c last rows plan) in
    let all : after rows last ≡ after_changes (done ++ c ∷ []) it = same ∙ sym (changes_more done c it) in
    let free : HasFreePlace rows.edit (edited_all edits it.sessions) = subst (λ (x : Stored). HasFreePlace rows.edit x.sessions) (sym plans.rows) makes.place in
    record {
      rows = rows_more cells notices edits rows it ∙ ap (after rows) plans.rows ∙ all;
      takes = record { second = plans.takes.second; free = free_after edits rows.edit it.sessions plans.takes.free free };
      durable = sym (ap durable_in all) ∙ makes.durable ∙ ap (changed c) plans.durable ∙ sym (changed_all-push done c (durable_in it));
      content = subst IsContent all makes.content;
      known = subst (Knows next) all knows;
    }

-- the numbers of the edit of one change more
edit_storable : (edit : Option SessionEdit) → IsStorable edit → AreStorable (edits_in edit)
edit_storable None small = All-nil (λ (e : SessionEdit). IsStorable (Some e))
edit_storable (Some edit) small = All-cons (λ (e : SessionEdit). IsStorable (Some e)) edit [] small (All-nil (λ (e : SessionEdit). IsStorable (Some e)))

pub rows_storable : (cells : List StoredCell) (notices : List StoredNotice) (edits : List SessionEdit) (rows : RowsState) → AreRows cells notices edits → All (λ c. c.n < 2 ^ 63) rows.cells
    → All (λ n. (n.announced < 2 ^ 63) × (n.finished < 2 ^ 63)) rows.notices → IsStorable rows.edit → AreRows (cells ++ rows.cells) (notices ++ rows.notices) (edits ++ edits_in rows.edit)
rows_storable cells notices edits rows some more told small = record {
  cells = All-append (λ (c : StoredCell). c.n < 2 ^ 63) cells rows.cells some.cells more;
  notices = All-append (λ (n : StoredNotice). (n.announced < 2 ^ 63) × (n.finished < 2 ^ 63)) notices rows.notices some.notices told;
  edits = All-append (λ (e : SessionEdit). IsStorable (Some e)) edits (edits_in rows.edit) some.edits (edit_storable rows.edit small);
}

pub none_storable : AreRows [] [] []
none_storable = record {
  cells = All-nil (λ (c : StoredCell). c.n < 2 ^ 63);
  notices = All-nil (λ (n : StoredNotice). (n.announced < 2 ^ 63) × (n.finished < 2 ^ 63));
  edits = All-nil (λ (e : SessionEdit). IsStorable (Some e));
}

-- ---- what the tables keep

pub changes_own : (layout : LayoutState) (site : List ℕ) (it : Stored) (changes : List ChangeState) → IsOf layout site it → IsContent (after_changes changes it) → IsOf layout site (after_changes changes it)
changes_own layout site it changes own is = record {
  second = stays_second changes it ∙ own.second;
  its_site = stays_site changes it ∙ own.its_site;
  its_layout = stays_layout changes it ∙ own.its_layout;
  content = is;
}

module _ {S : Type 0} (g : Ghosts S) (c : Held S) (layout : LayoutState) (site : List ℕ) (changes : List ChangeState) (it : Stored) (own : IsOf layout site it) where
  is_old : IsOneOf layout site (durable_in it) (made_all changes (durable_in it)) it
  is_old = record { own = own; part = inl refl }

  -- nothing was changed
  pub none_changed : Keeps g c it → ChangesAllOrNone g layout site changes it c
  none_changed keeps = record { second = it; left = twice g c it keeps; which = inl refl; is_first = is_old; is_second = is_old }

  -- all rows were put
  pub all_changed : (cells : List StoredCell) (notices : List StoredNotice) (edits : List SessionEdit) (index : Index) → Plans changes it cells notices edits index → Keeps g c (changed_all cells notices edits it)
      → ChangesAll g layout site changes it c index
  all_changed cells notices edits index plans kept = record {
    stores = record { own = changes_own layout site it changes own plans.content; kept = subst (Keeps g c) plans.rows kept; known = plans.known };
    part = plans.durable;
  }

  -- it is not known whether they were
  pub all_in_doubt : (cells : List StoredCell) (notices : List StoredNotice) (edits : List SessionEdit) (index : Index) → Plans changes it cells notices edits index
      → KeepsEither g c it (changed_all cells notices edits it) → ChangesAllOrNone g layout site changes it c
  all_in_doubt cells notices edits index plans left = record {
    second = after_changes changes it;
    left = subst (KeepsEither g c it) plans.rows left;
    which = inr refl;
    is_first = is_old;
    is_second = record { own = changes_own layout site it changes own plans.content; part = inr plans.durable };
  }

  -- and so the content is left, or that after all of the changes
  pub left_all : ChangesAllOrNone g layout site changes it c → KeepsEither g c it (after_changes changes it)
  left_all e = elim e.which [
    | inl same ↦ either_first g c it (after_changes changes it) (subst (λ (x : Stored). KeepsEither g c it x) same e.left)
    | inr next ↦ subst (λ (x : Stored). KeepsEither g c it x) next e.left
  ]

-- ---- changes that change nothing

pub nothing_stored : (changes : List ChangeState) (it : Stored) → All ChangesNothing changes → after_changes changes it ≡ it
nothing_stored [] it none = refl
nothing_stored (c ∷ cs) it none =
    let first = All-head ChangesNothing c cs none in
    ap (after_changes cs) (nothing_after c it first.0 first.1) ∙ nothing_stored cs it (All-tail ChangesNothing c cs none)
