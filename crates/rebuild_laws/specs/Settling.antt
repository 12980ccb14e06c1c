-- What is settled between lost sites: which of them gave more to the sites that are left than it was granted and these
-- gave to it, and which others had the seats over. Those that lack seats get them from those that can spare some, each in
-- order of sites. The project's own.
use Rattle.std.specs.Prelude.{◌≡◌, ℕ, ◌+◌, ◌-◌, ◌<◌, ◌&&◌, Bool, true, false, max, List, if◌then◌else◌}
use Rattle.std.specs.List.{AllByRecursion}
use Rattle.merge_core.specs.declared.cell.Cell.{Cell}
use Rattle.merge_core.specs.declared.cell.Cell.TheVariants.{Out}
use Rattle.merge_core.specs.Delta.{DeltaState}
use Rattle.merge_core.specs.Layout.{Shape}
use Rattle.merge_core.specs.Rows.{grant}
use Rattle.merge_core.specs.Sums.{total}
use Rattle.admission_model.specs.Account.{own}
use Rattle.admission_model.specs.Knowledge.{known, restarted}
use Rattle.admission_model.specs.View.{view_of}
use Rattle.admission_model.specs.Merging.{snapshot_of}
use Rattle.multi_site_world.specs.World.{World, account_at}
use Rattle.rebuild_laws.specs.Groups.{Losing, IsTeller}

-- sums over the sites that are left, and over the lost ones, of the first n
abbrev pub total_left : (ℕ → Bool) → ℕ → (ℕ → ℕ) → ℕ
total_left gone n f = total n (λ j. if gone j then 0 else f j)

abbrev pub total_lost : (ℕ → Bool) → ℕ → (ℕ → ℕ) → ℕ
total_lost gone n f = total n (λ j. if gone j then f j else 0)

-- the seats of record r that site d gave to sites that are left, by what is told of each counter
abbrev pub given_left : (ℕ → Bool) → ℕ → (ℕ → ℕ → Cell → ℕ) → ℕ → ℕ → ℕ
given_left gone n told r d = total_left gone n (λ j. told r d (Out j))

-- .. and those that it was granted, or that these gave to it
abbrev pub had_left : Shape → (ℕ → Bool) → ℕ → (ℕ → ℕ → Cell → ℕ) → ℕ → ℕ → ℕ
had_left shape gone n told r d = grant shape r d + total_left gone n (λ j. told r j (Out d))

-- the seats that it gave too many, and those that it has over
abbrev pub lacking : Shape → (ℕ → Bool) → ℕ → (ℕ → ℕ → Cell → ℕ) → ℕ → ℕ → ℕ
lacking shape gone n told r d = given_left gone n told r d - had_left shape gone n told r d

abbrev pub sparing : Shape → (ℕ → Bool) → ℕ → (ℕ → ℕ → Cell → ℕ) → ℕ → ℕ → ℕ
sparing shape gone n told r d = had_left shape gone n told r d - given_left gone n told r d

-- how many numbers are both among the m from a on, and among the k from b on
abbrev pub shared : ℕ → ℕ → ℕ → ℕ → ℕ
shared a m b k = ((a + m) - ((a + m) - (b + k))) - max a b

-- The seats that can be spared are numbered in order of sites, and so are those that are lacking: a lost site gives to
-- another one the seats whose numbers are both its own to spare and the other's to get.
abbrev pub settlement : Shape → (ℕ → Bool) → ℕ → (ℕ → ℕ → Cell → ℕ) → ℕ → ℕ → ℕ → ℕ
settlement shape gone n told r d j =
    if gone d && gone j
    then shared (total_lost gone d (sparing shape gone n told r)) (sparing shape gone n told r d) (total_lost gone j (lacking shape gone n told r)) (lacking shape gone n told r j)
    else 0

abbrev pub settling : Shape → (ℕ → Bool) → ℕ → (ℕ → ℕ → Cell → ℕ) → Losing
settling shape gone n told = record { gone = gone; settled = settlement shape gone n told }

-- what is told, of the first n sites, is what the sites that are left know of the lost ones' rows and did themselves
pub record IsToldOf (w : World) (gone : ℕ → Bool) (n : ℕ) (told : ℕ → ℕ → Cell → ℕ) : Type 0 where
  pub sent : (r d j : ℕ) → gone d ≡ true → j < n → gone j ≡ false → told r d (Out j) ≡ known (account_at w j) r d (Out j)
  pub column : (r d j : ℕ) → gone d ≡ true → j < n → gone j ≡ false → told r j (Out d) ≡ own (account_at w j) r (Out d)

-- deltas that the sites that are left made as they were moved, before any of them did anything: one of each of the first n
pub record AreMoved (w : World) (gone : ℕ → Bool) (n : ℕ) (ds : List DeltaState) : Type 0 where
  pub made : AllByRecursion (λ m. (m.from < n) × ((gone m.from ≡ false) × (m ≡ snapshot_of (view_of (restarted (account_at w m.from)))))) ds
  pub each : (i : ℕ) → i < n → gone i ≡ false → IsTeller i ds
