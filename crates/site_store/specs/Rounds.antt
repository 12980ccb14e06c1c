-- What a keeper over SQLite makes of the changes of several calls, and what it keeps then (group commit).
use Rattle.std.specs.Prelude.{◌≡◌, ◌⊎◌, ◌<◌, ◌^◌, ℕ, All, List, [], ◌∷◌, Option, Some, None}
use Rattle.sqlite_trees.specs.declared.store.Store.{Ghosts}
use Rattle.sqlite.specs.Held.{Held}
use Rattle.merge_core.specs.Layout.{LayoutState}
use Rattle.admission_core.specs.Kept.{ChangeState}
use Rattle.round_keeper.specs.Rounds.{changed_all as made_all}
use Rattle.store_rows.specs.Rows.{Stored}
use Rattle.store_rows.specs.declared.content.StoredCell.{StoredCell}
use Rattle.store_rows.specs.declared.content.StoredNotice.{StoredNotice}
use Rattle.store_rows.specs.declared.content.SessionEdit.{SessionEdit}
use Rattle.store_rows.specs.Holding.{KeepsEither}
use Rattle.store_tables.specs.Rounds.{AreStorable, TakesAll, changed_all}
use Rattle.store_content.specs.declared.index.Index.{Index}
use Rattle.store_content.specs.Content.{IsContent, durable_in}
use Rattle.store_content.specs.Known.{Knows}
use Rattle.store_content.specs.Plan.{after_change}
use Rattle.site_store.specs.Sql.{IsOneOf, Stores}

-- a content after several changes, the first one first
abbrev pub after_changes : List ChangeState → Stored → Stored
after_changes [] it = it
after_changes (c ∷ cs) it = after_changes cs (after_change c it)

-- the edits that rows have
abbrev pub edits_in : Option SessionEdit → List SessionEdit
edits_in None = []
edits_in (Some edit) = edit ∷ []

-- the numbers of rows are such as the tables take
pub record AreRows (cs : List StoredCell) (ns : List StoredNotice) (es : List SessionEdit) : Type 0 where
  pub cells : All (λ c. c.n < 2 ^ 63) cs
  pub notices : All (λ n. (n.announced < 2 ^ 63) × (n.finished < 2 ^ 63)) ns
  pub edits : AreStorable es

-- The rows of several changes, each planned behind those of the ones before it, make these changes of a content, and the
-- tables take them; an index knows the content behind all of them.
pub record Plans (changes : List ChangeState) (it : Stored) (cells : List StoredCell) (notices : List StoredNotice) (edits : List SessionEdit) (index : Index) : Type 0 where
  pub rows : changed_all cells notices edits it ≡ after_changes changes it
  pub takes : TakesAll edits it
  pub durable : durable_in (after_changes changes it) ≡ made_all changes (durable_in it)
  pub content : IsContent (after_changes changes it)
  pub known : Knows index (after_changes changes it)

module _ {S : Type 0} (g : Ghosts S) where
  -- changes were made of a content of a site: the content after all of them is kept, which stands for the durable part after them
  pub record ChangesAll (layout : LayoutState) (site : List ℕ) (changes : List ChangeState) (it : Stored) (c : Held S) (index : Index) : Type 0 where
    pub stores : Stores g layout site c index (after_changes changes it)
    pub part : durable_in (after_changes changes it) ≡ made_all changes (durable_in it)

  -- a crash leaves that content, or the one after all of the changes
  pub record ChangesAllOrNone (layout : LayoutState) (site : List ℕ) (changes : List ChangeState) (it : Stored) (c : Held S) : Type 0 where
    pub second : Stored
    pub left : KeepsEither g c it second
    pub which : (second ≡ it) ⊎ (second ≡ after_changes changes it)
    pub is_first : IsOneOf layout site (durable_in it) (made_all changes (durable_in it)) it
    pub is_second : IsOneOf layout site (durable_in it) (made_all changes (durable_in it)) second
