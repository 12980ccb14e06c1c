-- A file that keeps its first bytes, with a text behind them.
use Rattle.std.proofs.Common.{◌≡◌, ℕ, Bool, true, false, List, [], ◌∷◌, ◌++◌, refl, ap, ◌∙◌}
use Rattle.std.specs.Prelude.{MatchBool}
use Rattle.log_file.specs.declared.file.LogFile.{Ghosts}
use Rattle.log_file.specs.Steps.{FileStep, Append, Cut}
use Rattle.log_file.specs.Opening.{Puts}
use Rattle.log_file.specs.Errors.{Cuts}
use Rattle.log_file.proofs.StepLemmas.{after_append, appended_behind}

module _ {F : Type 0} (g : Ghosts F) (old new : F) (size kept : ℕ) where
  pub cuts : (result : Bool) → (result ≡ true → g.did old (Cut kept ∷ []) new) → (result ≡ false → g.has_failed new)
      → MatchBool result (Cuts g old new size kept) (g.has_failed new)
  cuts true did failed = record {
    steps = Cut kept ∷ [];
    did = did refl;
    leaves = λ bytes few. refl;
    appended = refl;
  }
  cuts false did failed = failed refl

  pub puts : (mid : F) (text : List ℕ) (result : Bool) → Cuts g old mid size kept
      → ((steps : List FileStep) → g.did old steps mid → result ≡ true → g.did old (steps ++ Append text ∷ []) new) → (result ≡ false → g.has_failed new)
      → MatchBool result (Puts g old new size kept text) (g.has_failed new)
  puts mid text true cut did failed = record {
    steps = cut.steps ++ Append text ∷ [];
    did = did cut.steps cut.did refl;
    leaves = λ bytes few. after_append bytes cut.steps text ∙ ap (λ (xs : List ℕ). xs ++ text) (cut.leaves bytes few);
    appended = appended_behind cut.steps text ∙ ap (λ (xs : List ℕ). xs ++ text) cut.appended;
  }
  puts mid text false cut did failed = failed refl
