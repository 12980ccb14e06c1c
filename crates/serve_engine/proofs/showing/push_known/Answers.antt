use Rattle.std.proofs.Common.{◌∙◌, ◌++◌, ℕ, ap}
use Rattle.std.specs.Prelude.{codes, string_bytes}
use Rattle.admission_model.specs.Account.{Account, inside, writers_here}
use Rattle.admission_model.specs.View.{view_of, rights_of}
use Rattle.admission_core.specs.Core.{Stands}
use Rattle.serve_engine.specs.Answers.{field}
use Rattle.serve_engine.proofs.TextLemmas.{pushed_for, three_parts}
use Rattle.serve_engine.proofs.showing.push_known.Goals as goal

pub returns : goal.returns
returns c =
    pushed_for (λ (a : Account). Stands a c.args.core.now) c.push_str.result (string_bytes c.args.text.now) (string_bytes c.push_field-3.new.text) (string_bytes c.push_str.new.self) (codes "\n")
    (λ a. (field (codes "rights ") (rights_of (view_of a) c.args.r) ++ field (codes " inside ") (inside a c.args.r)) ++ field (codes " unfinished ") (writers_here a c.args.r))
    c.push_str.ensures.bytes
    (λ a stands. three_parts (string_bytes c.args.text.now) (string_bytes c.push_field.new.text) (string_bytes c.push_field-2.new.text) (string_bytes c.push_field-3.new.text)
    (field (codes "rights ") (rights_of (view_of a) c.args.r)) (field (codes " inside ") (inside a c.args.r)) (field (codes " unfinished ") (writers_here a c.args.r))
    (c.in_ok-push_field.ensures ∙ ap (λ (n : ℕ). string_bytes c.args.text.now ++ field (codes "rights ") n) (c.rights-rights.ensures a stands))
    (c.in_ok-push_field-2.ensures ∙ ap (λ (n : ℕ). string_bytes c.push_field.new.text ++ field (codes " inside ") n) (c.inside-inside.ensures a stands))
    (c.in_ok-push_field-3.ensures ∙ ap (λ (n : ℕ). string_bytes c.push_field-2.new.text ++ field (codes " unfinished ") n) (c.unfinished-unfinished.ensures a stands)))
