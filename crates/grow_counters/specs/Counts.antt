-- Grow-only counters: the state of a G-Counter, one number for each place (Shapiro, Preguica, Baquero
-- and Zawirski, "A comprehensive study of convergent and commutative replicated data types", 2011).
use Rattle.std.specs.Prelude.{ℕ, ◌+◌, ◌≤◌, max, List, [], ◌∷◌, ◌==◌, ◌||◌, nat_lt, nat_le, if◌then◌else◌, slice_index}

-- the merge of two states: at each place of the first, the greater of the two counters; a place that the
-- second lacks keeps the first's (the least upper bound of Shapiro et al.)
abbrev pub maxima : List ℕ → List ℕ → List ℕ
maxima xs [] = xs
maxima [] (y ∷ ys) = []
maxima (x ∷ xs) (y ∷ ys) = max x y ∷ maxima xs ys

-- how many counters of the new state are above those of the old one
abbrev pub rise_count : List ℕ → List ℕ → ℕ
rise_count [] new = 0
rise_count (x ∷ xs) [] = 0
rise_count (x ∷ xs) (y ∷ ys) = (if nat_lt x y then 1 else 0) + rise_count xs ys

-- no counter of the first is above the second's; a counter that is not there counts as 0
-- (the partial order of Shapiro et al., place by place)
abbrev pub IsWithin : List ℕ → List ℕ → Type 0
IsWithin xs ys = (k : ℕ) → slice_index xs k ≤ slice_index ys k

-- the third is the least of the states that are above the first and the second (the least upper bound of
-- Shapiro et al.)
pub record IsLeastAbove (xs ys zs : List ℕ) : Type 0 where
  pub above_first : IsWithin xs zs
  pub above_second : IsWithin ys zs
  pub least : (other : List ℕ) → IsWithin xs other → IsWithin ys other → IsWithin zs other

-- the counter at k where all counters at `from` and after it, up to `until`, but the one at `kept` were set
-- back to 0 (this project's own: a restart forgets what was heard of others)
abbrev pub kept_count : List ℕ → ℕ → ℕ → ℕ → ℕ → ℕ
kept_count xs from until kept k =
    if (k == kept) || (nat_lt k from || nat_le until k) then slice_index xs k else 0

-- the greatest value that a counter of a record takes, where a rule names no other (this project's own)
abbrev pub counter_limit : ℕ
counter_limit = 1000000000000
