-- One step more at a file.
use Rattle.std.proofs.Common.{◌≡◌, ℕ, List, [], ◌∷◌, ◌++◌, take, Option, None, Some, refl, sym, ap, subst, ◌∙◌, append_assoc, append-nil}
use Rattle.std.specs.Io.KnownBytes.{Appends, Keeps}
use Rattle.log_file.specs.Steps.{FileStep, Append, Cut, appended_in, bytes_after}

pub appended_behind : (steps : List FileStep) (text : List ℕ) → appended_in (steps ++ Append text ∷ []) ≡ appended_in steps ++ text
appended_behind [] text = append-nil text
appended_behind (Append t ∷ steps) text = ap (λ (xs : List ℕ). t ++ xs) (appended_behind steps text) ∙ sym (append_assoc t (appended_in steps) text)
appended_behind (Cut n ∷ steps) text = appended_behind steps text

appended_past : (steps : List FileStep) (n : ℕ) → appended_in (steps ++ Cut n ∷ []) ≡ appended_in steps
appended_past [] n = refl
appended_past (Append t ∷ steps) n = ap (λ (xs : List ℕ). t ++ xs) (appended_past steps n)
appended_past (Cut m ∷ steps) n = appended_past steps n

-- what a file took, and then a text, which was handed on
pub appends_then : (a b c d : Option (List ℕ)) (steps : List FileStep) (text : List ℕ) → Appends a b (appended_in steps) → Appends b c text → Keeps c d
    → Appends a d (appended_in (steps ++ Append text ∷ []))
appends_then None b c d steps text before then kept = tt
appends_then (Some xs) None c d steps text before then kept = absurd before
appends_then (Some xs) (Some ys) None d steps text before then kept = absurd then
appends_then (Some xs) (Some ys) (Some zs) None steps text before then kept = absurd kept
appends_then (Some xs) (Some ys) (Some zs) (Some ws) steps text before then kept =
    kept ∙ (then ∙ (ap (λ (l : List ℕ). l ++ text) before
    ∙ (append_assoc xs (appended_in steps) text ∙ ap (λ (l : List ℕ). xs ++ l) (sym (appended_behind steps text)))))

-- a file that was cut took no more
pub cut_then : (a b : Option (List ℕ)) (steps : List FileStep) (n : ℕ) → Appends a b (appended_in steps) → Appends a b (appended_in (steps ++ Cut n ∷ []))
cut_then a b steps n before = subst (Appends a b) (sym (appended_past steps n)) before

-- ---- what a file has then

pub after_append : (bytes : List ℕ) (steps : List FileStep) (text : List ℕ) → bytes_after bytes (steps ++ Append text ∷ []) ≡ bytes_after bytes steps ++ text
after_append bytes [] text = refl
after_append bytes (Append t ∷ steps) text = after_append (bytes ++ t) steps text
after_append bytes (Cut n ∷ steps) text = after_append (take n bytes) steps text

pub after_cut : (bytes : List ℕ) (steps : List FileStep) (n : ℕ) → bytes_after bytes (steps ++ Cut n ∷ []) ≡ take n (bytes_after bytes steps)
after_cut bytes [] n = refl
after_cut bytes (Append t ∷ steps) n = after_cut (bytes ++ t) steps n
after_cut bytes (Cut m ∷ steps) n = after_cut (take m bytes) steps n
