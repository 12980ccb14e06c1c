-- Refusals and how often each was met, in the order in which they were met first (this project's own).
use Rattle.std.specs.Prelude.{ℕ, ◌+◌, List, [], ◌∷◌, if◌then◌else◌, sum_by}
use Rattle.exchange_threads.specs.declared.names.RefusalName.{RefusalName}
use Rattle.exchange_threads.specs.Names.{same_name}

-- names with their counts, and how many further names fit without taking memory
pub record Counted : Type 0 where
  pub names : List (RefusalName × ℕ)
  pub room : ℕ

-- how often the name was met
abbrev pub count_of : List (RefusalName × ℕ) → RefusalName → ℕ
count_of [] name = 0
count_of (e ∷ es) name = if same_name name e.0 then e.1 else count_of es name

-- the counts after the name was met once more: one that is there keeps its place, and a new one goes last
abbrev pub count_name : List (RefusalName × ℕ) → RefusalName → List (RefusalName × ℕ)
count_name [] name = (name, 1) ∷ []
count_name (e ∷ es) name = if same_name name e.0 then (e.0, e.1 + 1) ∷ es else e ∷ count_name es name

-- the counts after these names were met, one after another
abbrev pub count_names : List (RefusalName × ℕ) → List RefusalName → List (RefusalName × ℕ)
count_names es [] = es
count_names es (name ∷ names) = count_names (count_name es name) names

-- all counts together
abbrev pub count_total : List (RefusalName × ℕ) → ℕ
count_total es = sum_by (λ e. e.1) es
