use Rattle.std.proofs.Common.{List, ℕ, sym, subst}
use Rattle.std.specs.Prelude.{IsUtf8}
use Rattle.serve_engine.proofs.MarkLemmas.{digest_is_text}
use Rattle.serve_engine.proofs.moved_texts.push_digits.Goals as goal

pub returns-in_default : goal.returns-in_default
returns-in_default c =
    absurd (c.in_default.ensures.cases.0 (subst (λ (w : List ℕ). IsUtf8 w) (sym c.text_digits-digits.ensures) (digest_is_text c.args.text.now)))
