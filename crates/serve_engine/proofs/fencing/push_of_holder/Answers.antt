use Rattle.std.proofs.Common.{◌∙◌, ◌++◌, ◌+◌, ◌*◌, Option, sym, ap}
use Rattle.std.specs.Prelude.{codes, string_bytes}
use Rattle.admission_model.specs.declared.reply.Refusal.{Refusal}
use Rattle.admission_model.specs.declared.reply.Reply.TheVariants.{Refused}
use Rattle.admission_model.specs.Account.{Account}
use Rattle.admission_core.specs.Core.{Stands}
use Rattle.live_site.specs.Live.{line_of}
use Rattle.serve_engine.specs.Answers.{field}
use Rattle.serve_engine.specs.Fencing.{fence_number, generation_width, holder_line, told_fence}
use Rattle.serve_engine.proofs.FenceLemmas.{stands_for}
use Rattle.serve_engine.proofs.fencing.push_of_holder.Goals as goal

pub returns-in-Some : goal.returns-in-Some
returns-in-Some c =
    stands_for (λ (a : Account). Stands a c.args.core.now) c.push_refused.result (string_bytes c.args.text.now) (string_bytes c.push_refused.new.text)
    (line_of (Refused c.in-Some.refusal)) (λ a. holder_line c.args.generation a c.args.r c.args.h) c.push_refused.ensures
    (λ a stands. ap (λ (o : Option Refusal). told_fence o (fence_number c.args.generation a c.args.r)) (sym c.in-Some.is ∙ c.fence_reason.ensures a stands))

pub returns-in-None : goal.returns-in-None
returns-in-None c =
    stands_for (λ (a : Account). Stands a c.args.core.now) c.push_number.result (string_bytes c.args.text.now) (string_bytes c.push_number.new.text)
    (field (codes "fence ") (c.args.generation * generation_width + c.fence_number.result) ++ codes "\n") (λ a. holder_line c.args.generation a c.args.r c.args.h) c.push_number.ensures
    (λ a stands. (λ i. told_fence ((sym c.in-None.is ∙ c.fence_reason.ensures a stands) i) (c.args.generation * generation_width + c.fence_number.ensures.number a stands i)))
