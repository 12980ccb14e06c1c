-- The conversation with a reader and a writer before any turn.
use Rattle.std.proofs.Common.{◌≡◌, ◌∙◌, ℕ, Bool, true, false, List, [], Option, Some, None, refl, sym, subst, append-nil}
use Rattle.std.specs.Prelude.{MatchBool}
use Rattle.std.specs.Io.KnownBytes.{Appends, Consumes}
use Rattle.line_conversation.specs.Stream.{StreamState, TookPlace}

pub nothing_lost : (known : Option (List ℕ)) → Consumes known known []
nothing_lost None = tt
nothing_lost (Some xs) = refl

pub nothing_written : (known : Option (List ℕ)) → Appends known known []
nothing_written None = tt
nothing_written (Some xs) = sym (append-nil xs)

not_both : (b : Bool) → b ≡ false → b ≡ true → ⊥
not_both b is_false is_true = subst (λ (x : Bool). MatchBool x (Unit {0}) ⊥) (sym is_true ∙ is_false) tt

-- before any turn nothing took place
pub took_nothing : (s : StreamState) → TookPlace s [] s
took_nothing s = record {
  lost = [];
  consumed = nothing_lost s.source.remaining;
  limit = refl;
  rest = s.ahead;
  heard = append-nil s.ahead;
  left = λ whole. refl;
  told = λ whole. nothing_written s.sink.contents;
  failed = λ open_so broken. absurd (not_both s.broken open_so broken);
}
