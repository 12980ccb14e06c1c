-- What is done with a site over a database.
use Rattle.std.specs.Prelude.{◌≡◌, ℕ, ◌⊎◌, List, Option, None, Result, Ok, Err, IfOk, IfErr}
use Rattle.sqlite_trees.specs.declared.store.Store.{Ghosts as Device}
use Rattle.sqlite.specs.Effect.{Database}
use Rattle.sqlite.specs.Held.{Held, state}
use Rattle.sqlite.specs.State.{HasCleanDisk}
use Rattle.merge_core.specs.Layout.{LayoutState}
use Rattle.store_rows.specs.Rows.{Stored}
use Rattle.store_rows.specs.Holding.{Keeps, KeepsBeside, KeepsEither, KeepsNothing, KeepsNothingOr}
use Rattle.durable_keeper.specs.declared.keeper.Keeper.{Ghosts}
use Rattle.site_store.specs.declared.error.StoreOpenError.{StoreOpenError}
use Rattle.site_store.specs.declared.error.StoreOpenError.TheVariants as opening
use Rattle.site_store.specs.declared.sql.SqlKeeper.{SqlKeeper}
use Rattle.site_store.specs.Sql.{below}
use Rattle.site_store.specs.Opened.{CommitsNothing, IsByDevice, IsCurrent, IsFault, IsJudgedFirst, IsLeftEither, IsLeftOr, IsOwn, Opens, OpensBlank, Settles, SettlesOr, left_by}
use Rattle.text_input.specs.Source.{SourceState}
use Rattle.text_input.specs.Sink.{SinkState}
use Rattle.exit_status.specs.declared.store_refusal.StoreRefusal.TheVariants.{BadStore, WrongSite, WrongLayout, StoreFault}
use Rattle.exit_status.specs.declared.status.Status.{Status}
use Rattle.exit_status.specs.declared.status.Status.TheVariants.{NoStore, Memory}
use Rattle.site_engine.specs.Sites.{EndsSite}

-- the end where the store in a database is refused
abbrev pub refusal_status : StoreOpenError → Status
refusal_status opening.BadStore = NoStore BadStore
refusal_status opening.WrongSite = NoStore WrongSite
-- the names of these refusals are fixed and none of them is for a group: a store of another group counts as another site's
refusal_status opening.WrongGroup = NoStore WrongSite
refusal_status opening.WrongLayout = NoStore WrongLayout
refusal_status opening.StoreFault = NoStore StoreFault
refusal_status opening.Memory = Memory

module _ {S : Type 0} (g : Device S) where
  -- What an opening of the store in a database came to, for a site that is in this group or in none: a keeper, or a
  -- refusal with the database. Where a crash left one of two contents, it is a keeper of one of them; where both were
  -- this site's own, an honest device is the only cause of a refusal, and after any refusal the database still keeps one of
  -- them, or what the renewal of one makes of it. The same holds where a crash left a store or none, as an interrupted
  -- creation does, be it of an earlier layout. A fault of an honest device has its cause; nothing is committed before all
  -- is judged, nor where nothing is due; and other tables, which were made behind those of the store, keep their rows.
  pub record OpensStore (layout : LayoutState) (i : ℕ) (group : Option (List ℕ)) (c : Held S) (opened : Result (SqlKeeper S g) (StoreOpenError × Held S)) : Type 0 where
    pub stored : (it : Stored) → Keeps g c it → Opens {g = g} layout i group it opened
    pub blank : KeepsNothing g c → OpensBlank {g = g} layout i group opened
    pub settles : (a b : Stored) → KeepsEither g c a b → IfOk opened (Settles a b)
    pub own : (a b : Stored) → IsOwn layout i group a → IsOwn layout i group b → KeepsEither g c a b → IfErr opened (IsByDevice g)
    pub settles_or : (it : Stored) → KeepsNothingOr g c it → IfOk opened (SettlesOr it)
    pub own_or : (it : Stored) → IsOwn layout i group it → KeepsNothingOr g c it → IfErr opened (IsByDevice g)
    pub left : (a b : Stored) → KeepsEither g c a b → IfErr opened (λ x. IsLeftEither g layout a b x.1 x.0)
    pub left_or : (it : Stored) → KeepsNothingOr g c it → IfErr opened (λ x. IsLeftOr g layout i group it x.1 x.0)
    pub fault : (it : Stored) → Keeps g c it → IfErr opened (IsFault g layout i group it c)
    pub judged : IfErr opened (IsJudgedFirst g c)
    pub current : (it : Stored) → IsCurrent layout it → Keeps g c it → HasCleanDisk (state g (left_by opened)) → CommitsNothing g c (left_by opened)
    pub beside : (a b : Stored) → (others : Database) → KeepsEither g c a b → KeepsBeside g c others → KeepsBeside g (left_by opened) others

  -- the store was opened, the engine ended over it, and the database below is handed back
  pub record RunsOver (k : Ghosts (SqlKeeper S g)) (layout : LayoutState) (i : ℕ) (c after : Held S)
      (source source_after : SourceState) (sink sink_after : SinkState) (ended : Status) : Type 0 where
    pub keeper : SqlKeeper S g
    pub keeper_after : SqlKeeper S g
    pub opened : OpensStore layout i None c (Ok keeper)
    pub ends : EndsSite k layout i keeper keeper_after source source_after sink sink_after ended
    pub handed : after ≡ below keeper_after

  -- the store was refused: nothing was read or written
  pub record IsRefusedOver (layout : LayoutState) (i : ℕ) (c after : Held S) (source source_after : SourceState) (sink sink_after : SinkState) (ended : Status) : Type 0 where
    pub error : StoreOpenError
    pub opened : OpensStore layout i None c (Err (error, after))
    pub unread : source_after ≡ source
    pub silent : sink_after ≡ sink
    pub status : ended ≡ refusal_status error

  -- one of the two
  abbrev pub EndsOver : Ghosts (SqlKeeper S g) → LayoutState → ℕ → Held S → Held S → SourceState → SourceState → SinkState → SinkState → Status → Type 0
  EndsOver k layout i c after source source_after sink sink_after ended =
      RunsOver k layout i c after source source_after sink sink_after ended
      ⊎ IsRefusedOver layout i c after source source_after sink sink_after ended
