-- One text said behind another is the whole that was said.
use Rattle.std.proofs.Common.{◌≡◌, ◌∙◌, ℕ, List, [], ◌∷◌, ◌++◌, inl, inr, sym, subst}
use Rattle.std.proofs.lemmas.List.{append-nil}
use Rattle.std.proofs.KnownBytes.{Appends-trans}
use Rattle.text_input.specs.Source.{HasFault}
use Rattle.text_input.specs.Sink.{SinkState, Writes}
use Rattle.exit_status.specs.Endings.{Says}

writes_both : (a b c : SinkState) (t u : List ℕ) → Writes a b t → Writes b c u → Writes a c (t ++ u)
writes_both a b c t u first then = record {
  appended = Appends-trans a.contents b.contents c.contents t u first.appended then.appended;
  handed_on = then.handed_on;
  kept = then.kept ∙ first.kept;
}

-- a fault that was met before stays where nothing more is written
fault_stays : (b c : SinkState) → (HasFault b.fault → c ≡ b) → HasFault b.fault → HasFault c.fault
fault_stays b c ended fault = subst (λ (s : SinkState). HasFault s.fault) (sym (ended fault)) fault

pub says_both : (a b c : SinkState) (t u : List ℕ) → Says a b t → Says b c u → (HasFault b.fault → c ≡ b) → Says a c (t ++ u)
says_both a b c [] u first then ended = subst (λ (s : SinkState). Says s c u) first then
says_both a b c (x ∷ xs) [] first then ended =
    subst (λ (t : List ℕ). Says a c t) (sym (append-nil (x ∷ xs))) (subst (λ (s : SinkState). Says a s (x ∷ xs)) (sym then) first)
says_both a b c (x ∷ xs) (y ∷ ys) (inl first) (inl then) ended = inl (writes_both a b c (x ∷ xs) (y ∷ ys) first then)
says_both a b c (x ∷ xs) (y ∷ ys) (inl first) (inr fault) ended = inr fault
says_both a b c (x ∷ xs) (y ∷ ys) (inr fault) then ended = inr (fault_stays b c ended fault)
