-- What the opening of a store for a service came to.
use Rattle.std.specs.Prelude.{◌≡◌, ◌≢◌, ◌⊎◌, Bool, true, false, Result, IfOk, IfErr}
use Rattle.sqlite_trees.specs.declared.store.Store.{Ghosts as Device}
use Rattle.sqlite.specs.Effect.{Database}
use Rattle.sqlite.specs.State.{HasCleanDisk}
use Rattle.sqlite.specs.Held.{Held, state}
use Rattle.merge_core.specs.Layout.{LayoutState}
use Rattle.store_rows.specs.Rows.{Stored}
use Rattle.store_rows.specs.Holding.{Keeps, KeepsBeside, KeepsEither, KeepsNothing, KeepsNothingOr}
use Rattle.durable_keeper.specs.Keeping.{nothing_kept}
use Rattle.site_store.specs.declared.error.ServedError.{ServedError}
use Rattle.site_store.specs.declared.error.ServedError.TheVariants.{Outdated}
use Rattle.site_store.specs.declared.sql.SqlKeeper.{SqlKeeper}
use Rattle.site_store.specs.Sql.{KeepsPart, is_honest}
use Rattle.site_store.specs.Opened.{CommitsNothing, IsCurrent, Settles, SettlesOr}
use Rattle.site_store.specs.Served.{AnswersBySchema, IsLeftOfDoubt, IsLeftOfEither, IsServedByDevice, IsServedFault, IsServedJudgedFirst, IsTaken, KeepsMark, KeepsNoMark, ServesNothing, ServesStore, left_served}
use Rattle.live_databases.specs.Services.{Served}

module _ {S : Type 0} (g : Device S) where
  -- A keeper, and whether this opening made its store; or a refusal with the database. A store is made only where that was
  -- permitted and the database held nothing, and none is opened where one was to be made. It is a keeper of what was kept, or
  -- of one of two contents where a crash left one of them, and never of a store that is marked as outdated. Nothing is committed
  -- before all is judged, nor where nothing is due; a fault of an honest device has its cause; and other tables, which were made behind those of the store, keep
  -- their rows.
  pub record OpensServed (layout : LayoutState) (s : Served) (c : Held S) (opened : Result (SqlKeeper S g × Bool) (ServedError × Held S)) : Type 0 where
    pub stored : (it : Stored) → Keeps g c it → ServesStore {g = g} s.permission layout s.site s.group it opened
    pub blank : KeepsNothing g c → ServesNothing {g = g} s.permission layout s.site s.group opened
    pub by_schema : HasCleanDisk (state g (left_served opened)) → AnswersBySchema s.permission (state g c).now.schema opened
    pub created : IfOk opened (λ x. x.1 ≡ true → KeepsPart x.0 nothing_kept)
    pub judged : IfErr opened (IsServedJudgedFirst g c)
    pub marked : (it : Stored) → Keeps g c it → KeepsMark g c → IfOk opened (λ x. ¬ is_honest x.0)
    pub unmarked : (it : Stored) → Keeps g c it → KeepsNoMark g c → IfErr opened (λ x. HasCleanDisk (state g x.1) → x.0 ≢ Outdated)
    pub settles : (a b : Stored) → KeepsEither g c a b → IfOk opened (λ x. Settles a b x.0)
    pub own : s.permission.create ≡ false → (a b : Stored) → IsTaken s.permission.grow layout s.site s.group a → IsTaken s.permission.grow layout s.site s.group b
        → KeepsEither g c a b → IfErr opened (IsServedByDevice g)
    pub settles_or : (it : Stored) → KeepsNothingOr g c it → IfOk opened (λ x. SettlesOr it x.0)
    pub left : (a b : Stored) → KeepsEither g c a b → IfErr opened (λ x. IsLeftOfEither g layout a b x.1 x.0)
    pub left_or : (it : Stored) → KeepsNothingOr g c it → IfErr opened (λ x. IsLeftOfDoubt g layout s.site s.group it x.1 x.0)
    pub fault : (it : Stored) → Keeps g c it → IfErr opened (IsServedFault g layout s.site s.group it c)
    pub current : (it : Stored) → IsCurrent layout it → Keeps g c it → HasCleanDisk (state g (left_served opened)) → CommitsNothing g c (left_served opened)
    pub beside : (a b : Stored) → (others : Database) → KeepsEither g c a b → KeepsBeside g c others → KeepsBeside g (left_served opened) others
