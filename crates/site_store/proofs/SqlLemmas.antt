-- What a keeper over SQLite makes of a change that the tables refused.
use Rattle.std.proofs.Common.{◌≡◌, ◌≢◌, ℕ, inl, inr, List, [], Option, None, refl, ap, subst, ◌∙◌, arith}
use Rattle.std.proofs.Math.Logic.{∥∥₁_map}
use Rattle.sqlite_trees.specs.declared.store.Store.{Ghosts}
use Rattle.sqlite.specs.Held.{Held}
use Rattle.merge_core.specs.Layout.{LayoutState}
use Rattle.admission_model.specs.declared.durable.DurableCell.{DurableCell}
use Rattle.admission_core.specs.declared.change.SessionChange.{SessionChange}
use Rattle.admission_core.specs.Kept.{ChangeState}
use Rattle.store_rows.specs.Rows.{Stored}
use Rattle.store_rows.specs.Changes.{changed as committed}
use Rattle.store_rows.specs.Holding.{Keeps, KeepsEither}
use Rattle.store_tables.specs.Transacts.{Takes}
use Rattle.store_tables.specs.declared.error.TableError.{TableError}
use Rattle.store_tables.specs.declared.error.TableError.TheVariants as tables
use Rattle.store_content.specs.Content.{durable_in}
use Rattle.durable_keeper.specs.Keeping.{changed}
use Rattle.store_content.specs.declared.index.Index.{Index}
use Rattle.store_content.specs.Known.{Knows}
use Rattle.store_content.specs.Plan.{IsPlan, LacksPlace, RowsState, Makes, after, after_change, cells_of, edit_of, notices_of}
use Rattle.store_content.proofs.LawLemmas.{same_rows}
use Rattle.durable_keeper.specs.declared.error.KeeperError.TheVariants as keeper
use Rattle.site_store.specs.Errors.{keeper_error}
use Rattle.site_store.specs.Sql.{IsOf, IsOneOf, Changes, ChangesEither, Stores}
use Rattle.site_store.proofs.OpenLemmas.{twice}

-- a fault that a keeper tells of tables that are a store is theirs
pub fault_is : (e : TableError) → e ≢ tables.BadStore → keeper_error e ≡ keeper.StoreFault → e ≡ tables.StoreFault
fault_is tables.BadStore own is = absurd (own refl)
fault_is tables.Memory own is = grind (arith, is)
fault_is tables.StoreFault own is = refl

-- a content with rows put is one of the same site
after_own : (layout : LayoutState) (site : List ℕ) (it : Stored) (change : ChangeState) (rows : RowsState) → IsOf layout site it → Makes change it rows → IsOf layout site (after rows it)
after_own layout site it change rows own makes = record { second = own.second; its_site = own.its_site; its_layout = own.its_layout; content = makes.content }

pub takes_rows : (layout : LayoutState) (site : List ℕ) (it : Stored) (change : ChangeState) (rows : RowsState) → IsOf layout site it → Makes change it rows → Takes rows.edit it
takes_rows layout site it change rows own makes = record { second = own.second; free = makes.place }

-- one of two that are the same is one of any two of which it is the first
pub either_first : {S : Type 0} (g : Ghosts S) (c : Held S) (it other : Stored) → KeepsEither g c it it → KeepsEither g c it other
either_first g c it other keeps = record { left = λ clean db left. ∥∥₁_map (keeps.left clean db left) (λ h. elim h [ inl x ↦ inl x | inr y ↦ inl y ]) }

module _ {S : Type 0} (g : Ghosts S) (c : Held S) (layout : LayoutState) (site : List ℕ) (change : ChangeState) (it : Stored) (own : IsOf layout site it) where
  is_old : IsOneOf layout site (durable_in it) (changed change (durable_in it)) it
  is_old = record { own = own; part = inl refl }

  -- nothing was changed
  pub unchanged : Keeps g c it → ChangesEither g layout site change it c
  unchanged keeps = record { second = it; left = twice g c it keeps; which = inl refl; is_first = is_old; is_second = is_old }

  -- the rows of the change were put
  pub made_change : (rows : RowsState) → IsPlan change it rows → Makes change it rows → (index : Index) → Keeps g c (after rows it) → Knows index (after rows it)
      → Changes g layout site change it c index
  made_change rows plan makes index kept knows =
      let same = ap (λ (r : RowsState). after r it) (same_rows change it rows plan) in
      record {
        stores = subst (Stores g layout site c index) same (record { own = after_own layout site it change rows own makes; kept = kept; known = knows });
        part = subst (λ (x : Stored). durable_in x ≡ changed change (durable_in it)) same makes.durable;
      }

  -- it is not known what was
  pub in_doubt : (rows : RowsState) → IsPlan change it rows → Makes change it rows → KeepsEither g c it (after rows it) → ChangesEither g layout site change it c
  in_doubt rows plan makes left = record {
    second = after rows it;
    left = left;
    which = inr (ap (λ (r : RowsState). after r it) (same_rows change it rows plan));
    is_first = is_old;
    is_second = record { own = after_own layout site it change rows own makes; part = inr makes.durable };
  }

  -- and so the content is left, or that after the change
  pub left_or : ChangesEither g layout site change it c → KeepsEither g c it (after_change change it)
  left_or e = elim e.which [
    | inl same ↦ either_first g c it (after_change change it) (subst (λ (x : Stored). KeepsEither g c it x) same e.left)
    | inr next ↦ subst (λ (x : Stored). KeepsEither g c it x) next e.left
  ]

-- where nothing changes, the content stays
after_parts : Stored → List DurableCell → Option SessionChange → Stored
after_parts it cells session = committed (cells_of cells) (notices_of cells it) (edit_of session it) it

pub nothing_after : (c : ChangeState) (it : Stored) → c.cells ≡ [] → c.session ≡ None → after_change c it ≡ it
unfolding after_parts
nothing_after c it none still = ap (λ (x : List DurableCell). after_parts it x c.session) none ∙ ap (λ (s : Option SessionChange). after_parts it [] s) still

-- where no place is left, some session comes
pub lacks_some : (c : ChangeState) (it : Stored) → c.session ≡ None → LacksPlace c.session it → ⊥
lacks_some c it none lacks = subst (λ (s : Option SessionChange). LacksPlace s it) none lacks
