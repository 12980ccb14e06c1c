-- Sums over sites, and how many counters of a row pass a test.
use Rattle.std.specs.Prelude.{ℕ, zero, suc, ◌+◌, ◌==◌, Bool, if◌then◌else◌, Option, Some, None}
use Rattle.merge_core.specs.declared.cell.Cell.{Cell}
use Rattle.merge_core.specs.declared.cell.Cell.TheVariants.{Out, Taken, Ann, Fin}

-- f 0 + .. + f (n - 1): the sum over the first n sites
abbrev pub total : ℕ → (ℕ → ℕ) → ℕ
total zero f = 0
total (suc n) f = total n f + f n

-- the same sum without site i
abbrev pub total_others : ℕ → ℕ → (ℕ → ℕ) → ℕ
total_others n i f = total n (λ j. if j == i then 0 else f j)

-- 1 for true, 0 for false
abbrev pub one_if : Bool → ℕ
one_if b = if b then 1 else 0

-- how many of a row's counters, at n sites, pass the test
abbrev pub number_of_cells : ℕ → (Cell → Bool) → ℕ
number_of_cells n test = total n (λ j. one_if (test (Out j))) + (one_if (test Taken) + (one_if (test Ann) + one_if (test Fin)))

-- the first of two that is there
abbrev pub first_of_two : Option ℕ → Option ℕ → Option ℕ
first_of_two (Some k) later = Some k
first_of_two None later = later

-- the least number below n that passes the test
abbrev pub least_below : ℕ → (ℕ → Bool) → Option ℕ
least_below zero test = None
least_below (suc n) test = first_of_two (least_below n test) (if test n then Some n else None)
