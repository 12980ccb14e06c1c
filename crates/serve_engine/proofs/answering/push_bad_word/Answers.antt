use Rattle.std.proofs.Common.{◌∙◌, ◌++◌, ℕ, ap}
use Rattle.std.specs.Prelude.{codes, string_bytes}
use Rattle.serve_engine.specs.Answers.{field}
use Rattle.serve_engine.proofs.TextLemmas.{pushed}
use Rattle.serve_engine.proofs.answering.push_bad_word.Goals as goal

pub returns : goal.returns
returns c =
    pushed c.push_str.result (string_bytes c.args.text.now) (string_bytes c.push_field.new.text) (string_bytes c.push_str.new.self)
    (field (codes "refused BadWord ") c.args.place) (codes "\n") c.push_str.ensures.bytes
    (c.in_ok-push_field.ensures ∙ ap (λ (n : ℕ). string_bytes c.args.text.now ++ field (codes "refused BadWord ") n) c.from.ensures)
