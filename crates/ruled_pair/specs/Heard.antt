-- What the report of a receiving end says of the texts that it took (this project's own).
use Rattle.std.specs.Prelude.{◌≡◌, ℕ, ◌+◌, ◌≤◌, ◌⊎◌, Bool, true, false, List, [], ◌∷◌, ◌++◌, length, drop, count_by, ◌||◌}
use Rattle.ordered_link.specs.Ends.{TakerState}
use Rattle.session_book.specs.declared.pass.Receipt.{Receipt}
use Rattle.exchange_threads.specs.declared.fate.Fate.{Fate}
use Rattle.exchange_threads.specs.declared.fate.Fate.TheVariants.{Memory}
use Rattle.exchange_threads.specs.Fates.{IsFateOf, is_ended}

-- Each text has its fate, and these are all receipts that they left: the next one's place is n. A text that ended the run
-- is the last.
abbrev pub AreFated : ℕ → List (List ℕ) → List Fate → List Receipt → Type 0
AreFated n [] [] rs = rs ≡ []
AreFated n (t ∷ ts) (f ∷ fs) rs =
    (added : List Receipt) × (rest : List Receipt) × (rs ≡ added ++ rest) × IsFateOf t f n added × (is_ended f ≡ true → fs ≡ []) × AreFated (n + length added) ts fs rest
AreFated n [] (f ∷ fs) rs = ⊥
AreFated n (t ∷ ts) [] rs = ⊥

-- An end at which texts are taken has its receiver until a take finds that no text will come: nothing else closes it while
-- its runner runs.
abbrev pub IsOpenOrEnded : TakerState → Type 0
IsOpenOrEnded t = (t.receives ≡ true) ⊎ (t.ended ≡ true)

-- memory ran out over the text
abbrev pub is_lacking : Fate → Bool
is_lacking Memory = true
is_lacking _ = false

-- some text ended the run
abbrev pub any_ended : List Fate → Bool
any_ended [] = false
any_ended (f ∷ fs) = is_ended f || any_ended fs

-- Of a pass with these receipts, of which those from the first place on are new: what came of each of these texts that were
-- taken; memory ran out over at most m; and whether the last text ended the run.
pub record AreHeard (rs : List Receipt) (first : ℕ) (texts : List (List ℕ)) (fates : List Fate) (m : ℕ) (ended : Bool) : Type 0 where
  pub begun : first ≤ length rs
  pub fated : AreFated first texts fates (drop first rs)
  pub lacking : count_by is_lacking fates ≤ m
  pub ends : any_ended fates ≡ ended
