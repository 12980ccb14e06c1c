-- The cut at the end of each transcript is a cut.
use Rattle.std.proofs.Common.{◌≡◌, ℕ, zero, suc, ◌<◌, List, [], ◌∷◌, ◌++◌, length, get_or, refl, sym, ap, ◌∙◌, ◌⊎◌, inl, inr, length-append, arith}
use Rattle.std.proofs.lemmas.Bool.{cases_eq}
use Rattle.std.proofs.lemmas.List.{get_or_append_left, get_or_push}
use Rattle.desk_log.specs.declared.transcript.Transcript.{Transcript}
use Rattle.log_judge.specs.Cut.{entries_in, full_cut, lengths_below, runs_at}
use Rattle.log_judge.specs.Verdict.{IsCut}

length_below : (ts : List Transcript) (n : ℕ) → length (lengths_below ts n) ≡ n
length_below ts zero = refl
length_below ts (suc n) = grind (arith, length-append (lengths_below ts n) (entries_in (runs_at ts n) ∷ []), length_below ts n)

pub length_at : (ts : List Transcript) (n i : ℕ) → i < n → get_or (lengths_below ts n) i 0 ≡ entries_in (runs_at ts i)
length_at ts zero i below = absurd (omega arith)
length_at ts (suc n) i below = at (cases_eq i n) (λ lower. length_at ts n i lower)
  where
    last : ℕ
    last = entries_in (runs_at ts n)

    at : (i ≡ n) ⊎ (i ≡ n → ⊥) → (i < n → get_or (lengths_below ts n) i 0 ≡ entries_in (runs_at ts i))
        → get_or (lengths_below ts n ++ last ∷ []) i 0 ≡ entries_in (runs_at ts i)
    at (inl same) earlier =
        get_or_push (lengths_below ts n) last 0 i (length_below ts n ∙ sym same) ∙ ap (λ (k : ℕ). entries_in (runs_at ts k)) (sym same)
    at (inr apart) earlier =
        get_or_append_left (lengths_below ts n) (last ∷ []) 0 i (omega (arith, apart, length_below ts n)) ∙ earlier (omega (arith, apart))

pub full_is_cut : (ts : List Transcript) → IsCut ts (full_cut ts)
full_is_cut ts = record {
  number = length_below ts (length ts);
  within = λ i below. omega (arith, length_at ts (length ts) i below);
}
