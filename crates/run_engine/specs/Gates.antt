-- The gates of the links of a run (this project's own).
use Rattle.std.specs.Prelude.{◌≡◌, ℕ, Bool, true}
use Rattle.run_engine.specs.declared.tasks.AlwaysOpen.{AlwaysOpen}

-- it is open whenever it is asked, and stays as it is
abbrev pub always_answers : AlwaysOpen → ℕ → Bool → AlwaysOpen → Type 0
always_answers old turn answer new = (answer ≡ true) × (new ≡ old)
