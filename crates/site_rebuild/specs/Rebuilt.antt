-- The answer to deltas of which a lost site is to be built again.
use Rattle.std.specs.Prelude.{◌≡◌, ◌≢◌, ◌==◌, Bool, true, false, if◌then◌else◌, ℕ, ◌<◌, ◌≤◌, List, [], ◌∷◌, All, length, get_or, Result, Ok, Err}
use Rattle.std.specs.List.{list_any}
use Rattle.merge_core.specs.Counts.{counter_limit}
use Rattle.merge_core.specs.Delta.{DeltaState}
use Rattle.merge_core.specs.Layout.{LayoutState, Shape, shape_of}
use Rattle.merge_core.specs.declared.cell.Cell.{Cell}
use Rattle.merge_core.specs.declared.cell.Cell.TheVariants.{Out, Taken}
use Rattle.merge_core.specs.Rows.{grant, start_counter}
use Rattle.merge_core.specs.Book.{BookState, counter_of}
use Rattle.merge_core.specs.Check.{IsChecked}
use Rattle.admission_model.specs.Account.{Origin, begin}
use Rattle.admission_model.specs.Knowledge.{restarted}
use Rattle.admission_model.specs.Sound.{IsOrigin}
use Rattle.admission_model.specs.Durable.{at_slot, places, kept_cells}
use Rattle.admission_model.specs.Restoring.{AreCells, AreSessions}
use Rattle.admission_core.specs.Core.{Core, Stands}
use Rattle.admission_core.specs.Kept.{DurableState}
use Rattle.admission_core.specs.Restored.{IsCoreFrom}
use Rattle.multi_site_world.specs.declared.event.Event.TheVariants.{Restart}
use Rattle.multi_site_world.specs.World.{World, account_at, happens}
use Rattle.rebuild_laws.specs.Groups.{Losing, IsTeller, told_most, told_settled, rebuilt_counters, rebuilt_origin, Stage, world_rebuilt}
use Rattle.rebuild_laws.specs.Settling.{lacking, settlement}
use Rattle.site_rebuild.specs.declared.rebuilding.RebuildError.{RebuildError}
use Rattle.site_rebuild.specs.declared.rebuilding.RebuildError.TheVariants.{BadSite, NoDelta, BadDelta, CounterFull, Acted, Apart, Memory}

-- whether a list names a site as lost
abbrev pub gone_of : List ℕ → ℕ → Bool
gone_of lost i = list_any (λ s. s == i) lost

-- the lost sites are the layout's, and the site is one of them
pub record IsLost (sites : ℕ) (lost : List ℕ) (d : ℕ) : Type 0 where
  pub there : d < sites
  pub named : gone_of lost d ≡ true
  pub all : All (λ s. s < sites) lost

-- one of the deltas is of each site below n that is left
abbrev pub AreTellers : ℕ → (ℕ → Bool) → List DeltaState → Type 0
AreTellers n gone ds = (i : ℕ) → i < n → gone i ≡ false → IsTeller i ds

-- of site i, the least one below n that is left, there is none
pub record IsFirstWithout (n : ℕ) (gone : ℕ → Bool) (ds : List DeltaState) (i : ℕ) : Type 0 where
  pub there : i < n
  pub is_left : gone i ≡ false
  pub none : ¬ IsTeller i ds
  pub before : AreTellers i gone ds

-- a delta is of a site of this shape, and its books take it
pub record IsFit (shape : Shape) (m : DeltaState) : Type 0 where
  pub from_there : m.from < shape.sites
  pub checked : IsChecked shape m.rows

abbrev pub AreFit : Shape → List DeltaState → Type 0
AreFit shape ds = All (IsFit shape) ds

-- delta k is the first one of which this is not so
pub record IsFirstUnfit (shape : Shape) (ds : List DeltaState) (k : ℕ) : Type 0 where
  pub there : k < length ds
  pub unfit : (m : DeltaState) → ¬ IsFit shape (get_or ds k m)
  pub before : (j : ℕ) (m : DeltaState) → j < k → IsFit shape (get_or ds j m)

-- the deltas of site j, and what these tell
abbrev pub of_site : ℕ → List DeltaState → List DeltaState
of_site j [] = []
of_site j (d ∷ ds) = if d.from == j then d ∷ of_site j ds else of_site j ds

abbrev pub told_from : Shape → List DeltaState → ℕ → ℕ → ℕ → Cell → ℕ
told_from shape ds j = told_most shape (of_site j ds)

-- what site d gave to site j of record r, if that one is lost too, was settled
abbrev pub AreSettledAt : LayoutState → (ℕ → Bool) → ℕ → (ℕ → ℕ → Cell → ℕ) → ℕ → ℕ → Type 0
AreSettledAt layout gone d told r j = gone j ≡ true → j ≢ d → told r d (Out j) ≤ settlement (shape_of layout) gone layout.sites told r d j

-- .. and to site j, if that one is left, is what its own deltas show
abbrev pub AreShown : LayoutState → ℕ → List DeltaState → (ℕ → ℕ → Cell → ℕ) → ℕ → Type 0
AreShown layout d ds told j = (r : ℕ) → r < length layout.records → told r d (Out j) ≤ told_from (shape_of layout) ds j r d (Out j)

-- of record r it took no seat, gave none back, and gave lost ones no more than was settled
pub record IsUnusedAt (layout : LayoutState) (gone : ℕ → Bool) (d : ℕ) (told : ℕ → ℕ → Cell → ℕ) (r : ℕ) : Type 0 where
  pub none_taken : told r d Taken ≡ 0
  pub none_returned : told r d (Out d) ≤ grant (shape_of layout) r d
  pub settled : (j : ℕ) → j < layout.sites → AreSettledAt layout gone d told r j

-- the deltas show nothing that site d did in this group, and none is of a lost site
pub record IsUnused (layout : LayoutState) (gone : ℕ → Bool) (d : ℕ) (ds : List DeltaState) (told : ℕ → ℕ → Cell → ℕ) : Type 0 where
  pub none_of_lost : All (λ m. gone m.from ≡ false) ds
  pub rows : (r : ℕ) → r < length layout.records → IsUnusedAt layout gone d told r
  pub shown : (j : ℕ) → j < layout.sites → gone j ≡ false → AreShown layout d ds told j

-- no lost site lacks more seats of a record than a counter holds
abbrev pub IsWithinAt : LayoutState → (ℕ → Bool) → (ℕ → ℕ → Cell → ℕ) → ℕ → Type 0
IsWithinAt layout gone told r = (d : ℕ) → d < layout.sites → gone d ≡ true → lacking (shape_of layout) gone layout.sites told r d ≤ counter_limit

abbrev pub IsWithin : LayoutState → (ℕ → Bool) → (ℕ → ℕ → Cell → ℕ) → Type 0
IsWithin layout gone told = (r : ℕ) → r < length layout.records → IsWithinAt layout gone told r

-- what is settled between the lost sites by what is told
abbrev pub settled_by : LayoutState → (ℕ → Bool) → (ℕ → ℕ → Cell → ℕ) → ℕ → ℕ → ℕ → ℕ
settled_by layout gone told = settlement (shape_of layout) gone layout.sites told

-- the counters with which site d begins, by what is told
unfoldable pub counters_by : LayoutState → (ℕ → Bool) → ℕ → (ℕ → ℕ → Cell → ℕ) → ℕ → ℕ → Cell → ℕ
counters_by layout gone d told = rebuilt_counters (shape_of layout) d (told_settled (settled_by layout gone told) told)

-- .. as the durable part of a site without sessions
abbrev pub part_by : LayoutState → (ℕ → Bool) → ℕ → (ℕ → ℕ → Cell → ℕ) → DurableState
part_by layout gone d told = record {
  cells = kept_cells (at_slot layout.sites d (start_counter (shape_of layout))) (at_slot layout.sites d (counters_by layout gone d told)) (places layout);
  sessions = [];
}

-- which may be none that a site can have
abbrev pub IsPart : LayoutState → ℕ → DurableState → Type 0
IsPart layout d part = AreCells layout d part.cells × AreSessions layout d part.cells part.sessions

-- where the site begins again
abbrev pub origin_of : LayoutState → (ℕ → Bool) → ℕ → List DeltaState → Origin
origin_of layout gone d ds = rebuilt_origin layout (settled_by layout gone (told_most (shape_of layout) ds)) d ds

-- a book tells what deltas tell
abbrev pub TellsMost : LayoutState → List DeltaState → BookState → Type 0
TellsMost layout ds b = (r s : ℕ) (cell : Cell) → counter_of b r s cell ≡ told_most (shape_of layout) ds r s cell

-- the answer to a book that does
abbrev pub IsCoreOf : LayoutState → (ℕ → Bool) → ℕ → List DeltaState → Result Core RebuildError → Type 0
IsCoreOf layout gone d ds (Ok core) =
    IsCoreFrom layout d (part_by layout gone d (told_most (shape_of layout) ds)) core
    × (IsOrigin (origin_of layout gone d ds) → Stands (restarted (begin (origin_of layout gone d ds))) core)
IsCoreOf layout gone d ds (Err Apart) =
    (¬ IsPart layout d (part_by layout gone d (told_most (shape_of layout) ds))) × (¬ IsOrigin (origin_of layout gone d ds))
IsCoreOf layout gone d ds (Err Memory) = Unit {0}
IsCoreOf layout gone d ds (Err _) = ⊥

-- The answer: a core, or the first reason why there is none. The core is the one of the durable part that the deltas tell,
-- and stands for the account that begins so.
abbrev pub IsRebuilt : LayoutState → List ℕ → ℕ → List DeltaState → Result Core RebuildError → Type 0
IsRebuilt layout lost d ds (Ok core) =
    IsLost layout.sites lost d × (AreTellers layout.sites (gone_of lost) ds × (AreFit (shape_of layout) ds
    × (IsWithin layout (gone_of lost) (told_most (shape_of layout) ds) × (IsUnused layout (gone_of lost) d ds (told_most (shape_of layout) ds)
    × IsCoreOf layout (gone_of lost) d ds (Ok core)))))
IsRebuilt layout lost d ds (Err BadSite) = ¬ IsLost layout.sites lost d
IsRebuilt layout lost d ds (Err (NoDelta i)) =
    IsLost layout.sites lost d × IsFirstWithout layout.sites (gone_of lost) ds i
IsRebuilt layout lost d ds (Err (BadDelta k)) =
    IsLost layout.sites lost d × (AreTellers layout.sites (gone_of lost) ds × IsFirstUnfit (shape_of layout) ds k)
IsRebuilt layout lost d ds (Err CounterFull) =
    IsLost layout.sites lost d × (AreTellers layout.sites (gone_of lost) ds × (AreFit (shape_of layout) ds
    × (¬ IsWithin layout (gone_of lost) (told_most (shape_of layout) ds))))
IsRebuilt layout lost d ds (Err Acted) =
    IsLost layout.sites lost d × (AreTellers layout.sites (gone_of lost) ds × (AreFit (shape_of layout) ds
    × (IsWithin layout (gone_of lost) (told_most (shape_of layout) ds) × (¬ IsUnused layout (gone_of lost) d ds (told_most (shape_of layout) ds)))))
IsRebuilt layout lost d ds (Err Apart) =
    IsLost layout.sites lost d × (AreTellers layout.sites (gone_of lost) ds × (AreFit (shape_of layout) ds
    × (IsWithin layout (gone_of lost) (told_most (shape_of layout) ds) × (IsUnused layout (gone_of lost) d ds (told_most (shape_of layout) ds)
    × IsCoreOf layout (gone_of lost) d ds (Err Apart)))))
IsRebuilt layout lost d ds (Err Memory) = IsLost layout.sites lost d × AreTellers layout.sites (gone_of lost) ds

-- the core stands for the lost site's account in the world in which it was built again, once it is started; or memory was
-- wanting, or the lost sites lack more seats than a counter holds
abbrev pub IsBuiltAgain : LayoutState → (ℕ → ℕ → ℕ → ℕ) → World → Stage → List ℕ → Result Core RebuildError → Type 0
IsBuiltAgain layout settled v stage lost (Ok core) = Stands (account_at (happens (world_rebuilt layout settled v stage) (Restart stage.lost)) stage.lost) core
IsBuiltAgain layout settled v stage lost (Err CounterFull) = ¬ IsWithin layout (gone_of lost) (told_most (shape_of layout) stage.told)
IsBuiltAgain layout settled v stage lost (Err Memory) = Unit {0}
IsBuiltAgain layout settled v stage lost (Err _) = ⊥

-- a list names the sites that are lost, and what its deltas tell settles what was settled
pub record AreSettledBy (layout : LayoutState) (l : Losing) (lost : List ℕ) (ds : List DeltaState) : Type 0 where
  pub same_lost : (i : ℕ) → gone_of lost i ≡ l.gone i
  pub same_settled : (r d j : ℕ) → settled_by layout (gone_of lost) (told_most (shape_of layout) ds) r d j ≡ l.settled r d j
