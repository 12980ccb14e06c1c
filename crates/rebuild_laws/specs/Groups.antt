-- A new group without sites that lost their stores: what the sites that are left know of them, and where each may
-- begin again, from a delta of each that is left.
use Rattle.std.specs.Prelude.{◌≡◌, ℕ, zero, suc, ◌+◌, ◌<◌, ◌≤◌, ◌==◌, ◌&&◌, not, ◌⊎◌, Bool, true, false, max, List, [], ◌∷◌, ◌++◌, length, slice_get, if◌then◌else◌, Some}
use Rattle.std.specs.List.{AllByRecursion}
use Rattle.merge_core.specs.Counts.{counter_limit}
use Rattle.merge_core.specs.declared.cell.Cell.{Cell}
use Rattle.merge_core.specs.declared.cell.Cell.TheVariants.{Out, Taken, Ann, Fin}
use Rattle.merge_core.specs.Delta.{DeltaState}
use Rattle.merge_core.specs.Layout.{LayoutState, Shape, shape_of, at_sites}
use Rattle.merge_core.specs.Rows.{grant, start_counter}
use Rattle.merge_core.specs.Sums.{total_others}
use Rattle.merge_core.specs.Naming.{greatest_shown}
use Rattle.admission_model.specs.Account.{Account, Origin, begin, own}
use Rattle.admission_model.specs.Knowledge.{known, restarted}
use Rattle.multi_site_world.specs.declared.event.Event.{Event}
use Rattle.multi_site_world.specs.World.{World, account_at, with_account, place_of, run}
use Rattle.multi_site_world.specs.Laws.{IsReachedWorld}

-- the greatest of f 0, .., f (n - 1); of none it is 0
abbrev pub greatest : ℕ → (ℕ → ℕ) → ℕ
greatest zero f = 0
greatest (suc n) f = max (greatest n f) (f n)

-- the writers that the sites that are left know to be announced at site d
abbrev pub writers_told : World → (ℕ → Bool) → ℕ → ℕ → ℕ
writers_told w gone d r = greatest w.layout.sites (λ i. if gone i then 0 else known (account_at w i) r d Ann)

-- Which sites are lost, and how many seats of record r lost site d gives to lost site j as the new group begins: where
-- they gave seats on to one another, one of them alone may have given more than anybody knows that it had.
pub record Losing : Type 0 where
  pub gone : ℕ → Bool
  pub settled : ℕ → ℕ → ℕ → ℕ

-- one site alone is lost
abbrev pub lost_alone : ℕ → Losing
lost_alone d = record { gone = λ i. i == d; settled = λ r i j. 0 }

-- seats are given so between lost sites alone, of records that are there, and no more than a counter holds
pub record IsSettled (layout : LayoutState) (l : Losing) : Type 0 where
  pub by_lost : (r d j : ℕ) → l.gone d ≡ false → l.settled r d j ≡ 0
  pub to_lost : (r d j : ℕ) → l.gone j ≡ false → l.settled r d j ≡ 0
  pub to_others : (r d : ℕ) → l.settled r d d ≡ 0
  pub of_records : (r d j : ℕ) → length layout.records ≤ r → l.settled r d j ≡ 0
  pub few : (r d j : ℕ) → l.settled r d j ≤ counter_limit

-- What is held of the row of a lost site d: to each site that is left the seats that this one knows it was sent, to a
-- lost one those that are settled, and no seat taken; each writer that is known was finished by the loss.
abbrev pub left_row : World → Losing → ℕ → ℕ → Cell → ℕ
left_row w l d r (Out j) =
    if j == d then grant (shape_of w.layout) r d else (if l.gone j then l.settled r d j else known (account_at w j) r d (Out j))
left_row w l d r Taken = 0
left_row w l d r Ann = writers_told w l.gone d r
left_row w l d r Fin = writers_told w l.gone d r

-- where a silent site would begin that has this row, and knows what each site that is left has done
abbrev pub left_origin : World → Losing → ℕ → Origin
left_origin w l d = record {
  layout = w.layout;
  site = d;
  base = record {
    counters = λ r s cell. if l.gone s then left_row w l s r cell else known (account_at w s) r s cell;
    sessions = [];
  };
}

-- the seats that a lost site gave are no more than it was granted and was given
abbrev pub CanSpare : World → Losing → ℕ → Type 0
CanSpare w l d =
    (r : ℕ) → total_others w.layout.sites d (λ j. left_row w l d r (Out j))
    ≤ grant (shape_of w.layout) r d + total_others w.layout.sites d (λ j. if l.gone j then l.settled r j d else own (account_at w j) r (Out d))

-- each site that is left is started again
abbrev pub moved_account : World → Losing → ℕ → Account
moved_account w l i = if l.gone i then begin (left_origin w l i) else restarted (account_at w i)

abbrev pub moved_accounts : World → Losing → ℕ → List Account
moved_accounts w l zero = []
moved_accounts w l (suc n) = moved_accounts w l n ++ moved_account w l n ∷ []

-- the new group: it knows no message of the old one
abbrev pub new_group : World → Losing → World
new_group w l = record { layout = w.layout; sites = moved_accounts w l w.layout.sites; sent = [] }

-- the greatest that deltas show of a counter, or its start
abbrev pub told_most : Shape → List DeltaState → ℕ → ℕ → Cell → ℕ
told_most shape ds r s cell = greatest_shown shape (start_counter shape r s cell) ds r s cell

-- .. and the seats that were settled
abbrev pub told_settled : (ℕ → ℕ → ℕ → ℕ) → (ℕ → ℕ → Cell → ℕ) → ℕ → ℕ → Cell → ℕ
told_settled settled told r s (Out j) = max (told r s (Out j)) (settled r s j)
told_settled settled told r s cell = told r s cell

-- the row of site d that is built again from what was told
abbrev pub rebuilt_row : Shape → ℕ → (ℕ → ℕ → Cell → ℕ) → ℕ → Cell → ℕ
rebuilt_row shape d told r (Out j) = if j == d then grant shape r d else told r d (Out j)
rebuilt_row shape d told r Taken = 0
rebuilt_row shape d told r Ann = told r d Ann
rebuilt_row shape d told r Fin = told r d Ann

-- the counters with which it begins: what it knows of others was told
abbrev pub rebuilt_counters : Shape → ℕ → (ℕ → ℕ → Cell → ℕ) → ℕ → ℕ → Cell → ℕ
rebuilt_counters shape d told r s cell = if s == d then rebuilt_row shape d told r cell else told r s cell

-- where site d begins again: of what deltas tell and was settled, and without sessions
abbrev pub rebuilt_origin : LayoutState → (ℕ → ℕ → ℕ → ℕ) → ℕ → List DeltaState → Origin
rebuilt_origin layout settled d ds = record {
  layout = layout;
  site = d;
  base = record { counters = rebuilt_counters (shape_of layout) d (told_settled settled (told_most (shape_of layout) ds)); sessions = [] };
}

-- a delta was sent
abbrev pub IsSentDelta : List DeltaState → DeltaState → Type 0
IsSentDelta sent d = (k : ℕ) × (slice_get sent k ≡ Some d)

-- one of the deltas is site i's
abbrev pub IsTeller : ℕ → List DeltaState → Type 0
IsTeller i [] = ⊥
IsTeller i (d ∷ ds) = (d.from ≡ i) ⊎ IsTeller i ds

-- the deltas were sent in this world, whole, by those of the first n sites that are left, and one is of each of these
pub record AreTold (v : World) (gone : ℕ → Bool) (n : ℕ) (ds : List DeltaState) : Type 0 where
  pub sent : AllByRecursion (IsSentDelta v.sent) ds
  pub others : AllByRecursion (λ m. (m.from < n) × (gone m.from ≡ false)) ds
  pub each : (i : ℕ) → i < n → gone i ≡ false → IsTeller i ds

-- a site that has not begun: it has done and was told nothing
abbrev pub IsUnbegun : World → ℕ → Type 0
IsUnbegun w i = (r s : ℕ) (cell : Cell) → known (account_at w i) r s cell ≤ start_counter (shape_of w.layout) r s cell

-- one lost site is built again: what the others do before, which site it is, and the deltas of which it is built
pub record Stage : Type 0 where
  pub waiting : List Event
  pub lost : ℕ
  pub told : List DeltaState

-- a loss: which sites are lost, what is settled between them, how many sites the group has, how the lost ones are built
-- again, one after the other, and what all do then
pub record Loss : Type 0 where
  pub lost : Losing
  pub sites : ℕ
  pub stages : List Stage
  pub events : List Event

-- the world before a lost site is built again, and with it
abbrev pub world_waiting : World → Stage → World
world_waiting v stage = run stage.waiting v

abbrev pub world_rebuilt : LayoutState → (ℕ → ℕ → ℕ → ℕ) → World → Stage → World
world_rebuilt layout settled v stage =
    with_account (world_waiting v stage) stage.lost (begin (rebuilt_origin layout settled stage.lost stage.told))

-- .. after several
abbrev pub after_stages : LayoutState → (ℕ → ℕ → ℕ → ℕ) → World → List Stage → World
after_stages layout settled v [] = v
after_stages layout settled v (stage ∷ stages) = after_stages layout settled (world_rebuilt layout settled v stage) stages

-- the lost sites that are still silent, once d is built again
abbrev pub silent_but : ℕ → (ℕ → Bool) → ℕ → Bool
silent_but d silent i = silent i && not (i == d)

abbrev pub still_silent : (ℕ → Bool) → List Stage → ℕ → Bool
still_silent silent [] = silent
still_silent silent (stage ∷ stages) = still_silent (silent_but stage.lost silent) stages

-- A lost site may be built again so: it was silent, no silent site and none past the group's does anything before, no
-- other site knows of more sites, and it is built of a delta of each site that is left.
pub record MayRebuild (gone : ℕ → Bool) (n : ℕ) (silent : ℕ → Bool) (v : World) (stage : Stage) : Type 0 where
  pub there : stage.lost < n
  pub is_lost : gone stage.lost ≡ true
  pub was_silent : silent stage.lost ≡ true
  pub quiet : AllByRecursion (λ event. (place_of event < n) × (silent (place_of event) ≡ false)) stage.waiting
  pub none_more : (i : ℕ) → i < n → silent i ≡ false → (account_at (world_waiting v stage) i).sites ≤ n
  pub told : AreTold (world_waiting v stage) gone n stage.told

abbrev pub AreStages : Losing → ℕ → LayoutState → (ℕ → Bool) → World → List Stage → Type 0
AreStages l n layout silent v [] = Unit {0}
AreStages l n layout silent v (stage ∷ stages) =
    MayRebuild l.gone n silent v stage × AreStages l n layout (silent_but stage.lost silent) (world_rebuilt layout l.settled v stage) stages

-- A new group may begin so without lost sites: it has so many sites, no further one has begun, and with what is settled
-- each lost one can spare what it gave.
pub record MayMove (w : World) (l : Losing) (n : ℕ) : Type 0 where
  pub few : n ≤ w.layout.sites
  pub lost_there : (i : ℕ) → l.gone i ≡ true → i < n
  pub unbegun : (i : ℕ) → n ≤ i → i < w.layout.sites → IsUnbegun w i
  pub settled : IsSettled w.layout l
  pub can_spare : (i : ℕ) → l.gone i ≡ true → CanSpare w l i

pub record MayLose (w : World) (loss : Loss) : Type 0 where
  pub moves : MayMove w loss.lost loss.sites
  pub stages : AreStages loss.lost loss.sites (at_sites loss.sites w.layout) loss.lost.gone (new_group w loss.lost) loss.stages

-- the world once all lost sites of a loss are built again
abbrev pub world_settled : World → Loss → World
world_settled w loss = after_stages (at_sites loss.sites w.layout) loss.lost.settled (new_group w loss.lost) loss.stages

-- the world after a loss, and after losses, one after the other, of which each leads to a new group
abbrev pub world_after : World → Loss → World
world_after w loss = run loss.events (world_settled w loss)

abbrev pub after_losses : World → List Loss → World
after_losses w [] = w
after_losses w (loss ∷ losses) = after_losses (world_after w loss) losses

abbrev pub AreRebuilt : World → List Loss → Type 0
AreRebuilt w [] = Unit {0}
AreRebuilt w (loss ∷ losses) = MayLose w loss × AreRebuilt (world_after w loss) losses

-- a world that losses and then events lead to from one that events lead to; there may be no losses
pub record IsRebuiltWorld (w : World) : Type 0 where
  pub first : World
  pub is_first : IsReachedWorld first
  pub losses : List Loss
  pub are : AreRebuilt first losses
  pub since : List Event
  pub leads : w ≡ run since (after_losses first losses)
