-- A move or a rebuild that gives no text ends as one that is told so.
use Rattle.std.proofs.Common.{◌≡◌, ◌⊎◌, inl, inr, ℕ, ◌<◌, Bool, true, false, List, Result, Ok, Err, refl, sym, subst}
use Rattle.sqlite_trees.specs.declared.store.Store.{Ghosts as Device}
use Rattle.sqlite_disk.specs.declared.Disk as disk
use Rattle.sqlite_wal.specs.Recovery.{Image}
use Rattle.sqlite.specs.Files.{over_files}
use Rattle.sqlite.specs.Held.{Held}
use Rattle.merge_core.specs.Layout.{LayoutState}
use Rattle.admission_model.specs.declared.durable.DurableCell.{DurableCell}
use Rattle.admission_core.specs.Core.{Core}
use Rattle.admission_core.specs.Kept.{DurableState}
use Rattle.admission_core.specs.Restored.{IsRestored}
use Rattle.rebuild_engine.specs.Parts.{IsBuiltOf}
use Rattle.admission_core.specs.declared.restoring.RestoreError.{RestoreError}
use Rattle.admission_core.specs.declared.restoring.RestoreError.TheVariants as restoring
use Rattle.durable_keeper.specs.declared.error.KeeperError.{KeeperError}
use Rattle.durable_keeper.specs.declared.error.KeeperError.TheVariants as keeping
use Rattle.exit_status.specs.declared.status.Status.TheVariants.{Done, Usage, NoLayout, NoStore, Fault, Refused, Memory, Io}
use Rattle.store_tables.specs.declared.error.TableError.{TableError}
use Rattle.store_tables.specs.declared.error.TableError.TheVariants as tables
use Rattle.site_store.specs.declared.error.ServedError.{ServedError}
use Rattle.site_store.specs.declared.error.ServedError.TheVariants as opening
use Rattle.site_store.specs.declared.sql.SqlKeeper.{SqlKeeper}
use Rattle.live_databases.specs.declared.rebuilding.RebuildEnd.{RebuildEnd}
use Rattle.live_databases.specs.declared.rebuilding.RebuildEnd.TheVariants as rebuilding
use Rattle.live_databases.specs.declared.service_end.ServiceEnd.{ServiceEnd}
use Rattle.live_databases.specs.declared.service_end.ServiceEnd.TheVariants.{Ended, Absent, NoLog, LogIsStore, Unlogged, Outdated}
use Rattle.live_databases.specs.Endings.{refused_store}
use Rattle.live_databases.specs.LiveMoves.{EndsUnmade, EndsUntold, MovesSome, RebuildsNone, RebuildsSome}
use Rattle.live_databases.specs.LiveStores.{IsUnopened, unloaded_end}
use Rattle.live_databases.specs.Moves.{EndsRefused, EndsUnmoved, FindsMoved, IsNotMoved, TellsNone, foreign_end, unfit_end}
use Rattle.live_databases.specs.Rebuilds.{EndsNotRebuilt, FindsRebuilt, HasNotMadeAnew}

module _ (layout : LayoutState) (i : ℕ) (there : i < layout.sites) where
  untold_unopened : (create : Bool) (e : ServiceEnd) → IsUnopened create e → EndsUntold layout i e
  untold_unopened create (Ended Memory) is = there
  untold_unopened create (Ended (NoStore refusal)) is = there
  untold_unopened create (Absent a) is = there
  untold_unopened create LogIsStore is = absurd is
  untold_unopened create (Ended Done) is = absurd is
  untold_unopened create (Ended Usage) is = absurd is
  untold_unopened create (Ended (NoLayout fault)) is = absurd is
  untold_unopened create (Ended Fault) is = absurd is
  untold_unopened create (Ended Refused) is = absurd is
  untold_unopened create (Ended Io) is = absurd is
  untold_unopened create (NoLog refusal) is = absurd is
  untold_unopened create Unlogged is = absurd is
  untold_unopened create Outdated is = absurd is

  untold_store : (e : ServedError) → EndsUntold layout i (refused_store e)
  untold_store opening.NotAStore = there
  untold_store opening.NoStore = there
  untold_store opening.Exists = there
  untold_store opening.BadStore = there
  untold_store opening.WrongSite = there
  untold_store opening.WrongGroup = there
  untold_store opening.Outdated = there
  untold_store opening.WrongLayout = there
  untold_store opening.StoreFault = there
  untold_store opening.Memory = there

  untold_foreign : (found : Result Bool TableError) → EndsUntold layout i (foreign_end found)
  untold_foreign (Ok true) = there
  untold_foreign (Ok false) = there
  untold_foreign (Err tables.BadStore) = there
  untold_foreign (Err tables.Memory) = there
  untold_foreign (Err tables.StoreFault) = there

  untold_unloaded : (e : KeeperError) → EndsUntold layout i (unloaded_end e)
  untold_unloaded keeping.Memory = there
  untold_unloaded keeping.StoreFault = there

  -- a durable part begins no site, though the layout has it
  untold_unfit : (d : DurableState) (e : RestoreError) → IsRestored layout i d (Err e) → EndsUntold layout i (unfit_end e)
  untold_unfit d restoring.BadSite none = absurd (none there)
  untold_unfit d restoring.WrongCounters unfit = there
  untold_unfit d restoring.WrongSessions unfit = there
  untold_unfit d restoring.Memory unfit = there

  -- an end that is one of these
  is_untold : (e f : ServiceEnd) → e ≡ f → EndsUntold layout i f → EndsUntold layout i e
  is_untold e f is untold = subst (λ (x : ServiceEnd). EndsUntold layout i x) (sym is) untold

  untold_refused : {S : Type 0} (g : Device S) (left after : Held S) (ended : ServiceEnd) (e : ServedError) → EndsRefused g i e left after ended → EndsUntold layout i ended
  untold_refused g left after ended opening.WrongGroup ends =
      let foreign = ends.foreign refl in is_untold ended (foreign_end foreign.found) foreign.is_ended (untold_foreign foreign.found)
  untold_refused g left after ended opening.NotAStore ends = is_untold ended _ (ends.other (λ is. cc)).0 (untold_store opening.NotAStore)
  untold_refused g left after ended opening.NoStore ends = is_untold ended _ (ends.other (λ is. cc)).0 (untold_store opening.NoStore)
  untold_refused g left after ended opening.Exists ends = is_untold ended _ (ends.other (λ is. cc)).0 (untold_store opening.Exists)
  untold_refused g left after ended opening.BadStore ends = is_untold ended _ (ends.other (λ is. cc)).0 (untold_store opening.BadStore)
  untold_refused g left after ended opening.WrongSite ends = is_untold ended _ (ends.other (λ is. cc)).0 (untold_store opening.WrongSite)
  untold_refused g left after ended opening.Outdated ends = is_untold ended _ (ends.other (λ is. cc)).0 (untold_store opening.Outdated)
  untold_refused g left after ended opening.WrongLayout ends = is_untold ended _ (ends.other (λ is. cc)).0 (untold_store opening.WrongLayout)
  untold_refused g left after ended opening.StoreFault ends = is_untold ended _ (ends.other (λ is. cc)).0 (untold_store opening.StoreFault)
  untold_refused g left after ended opening.Memory ends = is_untold ended _ (ends.other (λ is. cc)).0 (untold_store opening.Memory)

  untold_why : {S : Type 0} {g : Device S} (k m : SqlKeeper S g) (ended : ServiceEnd) → TellsNone layout i k m ended → EndsUntold layout i ended
  untold_why k m ended (inl loads) = is_untold ended _ loads.is_ended (untold_unloaded loads.error)
  untold_why k m ended (inr begins) = is_untold ended _ begins.is_ended (untold_unfit begins.first begins.error begins.unfit)

  pub untold_move : {S : Type 0} (g : Device S) (group : List ℕ) (c after : Held S) (ended : ServiceEnd)
      → IsNotMoved g layout i group c after ended → EndsUntold layout i ended
  untold_move g group c after ended (inl (same, inl (bad, is))) = is_untold ended _ is there
  untold_move g group c after ended (inl (same, inr (inl (none, is)))) = is_untold ended _ is there
  untold_move g group c after ended (inl (same, inr (inr is))) = is_untold ended _ is there
  untold_move g group c after ended (inr (inl refuses)) = untold_refused g refuses.left after ended refuses.error refuses.ends
  untold_move g group c after ended (inr (inr found)) = untold_why found.keeper found.left ended found.moves_not.why

  pub untold_unmoved : {D : Type 0} (d : disk.Ghosts D) (group : List ℕ) (image : Image) (ended : ServiceEnd) → EndsUnmoved d layout i group image ended → EndsUntold layout i ended
  untold_unmoved d group image ended (inl unopened) = untold_unopened false ended unopened
  untold_unmoved d group image ended (inr found) = untold_move over_files group found.c found.after ended found.unmoved

  -- the same of a site that was built again
  unmade_unopened : (create : Bool) (e : ServiceEnd) → IsUnopened create e → EndsUnmade layout i e
  unmade_unopened create (Ended Memory) is = tt
  unmade_unopened create (Ended (NoStore refusal)) is = there
  unmade_unopened create (Absent a) is = there
  unmade_unopened create LogIsStore is = absurd is
  unmade_unopened create (Ended Done) is = absurd is
  unmade_unopened create (Ended Usage) is = absurd is
  unmade_unopened create (Ended (NoLayout fault)) is = absurd is
  unmade_unopened create (Ended Fault) is = absurd is
  unmade_unopened create (Ended Refused) is = absurd is
  unmade_unopened create (Ended Io) is = absurd is
  unmade_unopened create (NoLog refusal) is = absurd is
  unmade_unopened create Unlogged is = absurd is
  unmade_unopened create Outdated is = absurd is

  unmade_store : (e : ServedError) → EndsUnmade layout i (refused_store e)
  unmade_store opening.NotAStore = there
  unmade_store opening.NoStore = there
  unmade_store opening.Exists = there
  unmade_store opening.BadStore = there
  unmade_store opening.WrongSite = there
  unmade_store opening.WrongGroup = there
  unmade_store opening.Outdated = there
  unmade_store opening.WrongLayout = there
  unmade_store opening.StoreFault = there
  unmade_store opening.Memory = tt

module _ {D : Type 0} (d : disk.Ghosts D) (layout : LayoutState) (i : ℕ) (group : List ℕ) (image : Image) where
  pub moves_some : (text : List ℕ) → FindsMoved d layout i group image text → MovesSome layout i group text
  moves_some text found =
      let has = found.moved in
      let tells = has.moves.tells in
      record { name = has.name; is_next = has.is_next; first = tells.first; cells = tells.cells; sessions = tells.sessions; is_text = tells.is_text }

module _ (layout : LayoutState) (i : ℕ) (lost name bytes : List ℕ) where
  -- a site that was built again is one of the layout
  pub built_there : (core : Core) (cells : List DurableCell) (text : List ℕ) → IsBuiltOf layout i lost name bytes core cells text → i < layout.sites
  built_there core cells text built = built.rebuilt.0.there

  pub unmade_over : {S : Type 0} (g : Device S) (core : Core) (cells : List DurableCell) (text : List ℕ) (c after : Held S) (ended : ServiceEnd)
      → IsBuiltOf layout i lost name bytes core cells text → HasNotMadeAnew g core.layout i name cells c after ended → EndsUnmade layout i ended
  unmade_over g core cells text c after ended built refused =
      subst (λ (e : ServiceEnd). EndsUnmade layout i e) (sym refused.is_ended) (unmade_store layout i (built_there core cells text built) refused.error)

  pub rebuilds_some : {D : Type 0} (d : disk.Ghosts D) (image : Image) (text : List ℕ) → FindsRebuilt d layout i lost name bytes image text → RebuildsSome layout i lost name bytes text
  rebuilds_some d image text found = record { core = found.core; cells = found.cells; built = found.built }

  pub rebuilds_none : {D : Type 0} (d : disk.Ghosts D) (image : Image) (ended : RebuildEnd) → EndsNotRebuilt d layout i lost name bytes image ended → RebuildsNone layout i lost name bytes ended
  rebuilds_none d image (rebuilding.Unbuilt stop) is = is
  rebuilds_none d image (rebuilding.Ended ended) (inl none) =
      unmade_unopened layout i (built_there none.core none.cells none.text none.built) true ended none.unopened
  rebuilds_none d image (rebuilding.Ended ended) (inr found) =
      unmade_over over_files found.core found.cells found.text found.c found.after ended found.built found.refused
