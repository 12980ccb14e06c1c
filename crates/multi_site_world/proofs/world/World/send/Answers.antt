use Rattle.std.proofs.Common.{rules, ◌≡◌, ◌<◌, ◌++◌, ◌∷◌, [], length, sym, refl, ap, subst, ◌∙◌, arith}
use Rattle.std.specs.Prelude.{not, is_ok}
use Rattle.std.proofs.lemmas.Bool.{cond-true}
use Rattle.multi_site_world.specs.declared.event.Event.TheVariants.{Send}
use Rattle.multi_site_world.specs.declared.event.WorldReply.TheVariants.{Sent}
use Rattle.multi_site_world.specs.Worlds.{WorldState, IsStepHere}
use Rattle.multi_site_world.proofs.WorldCode.{send_step, is_world}
use Rattle.multi_site_world.proofs.world.World.send.Goals as goal

step : (c : goal.Else-is_err) → IsStepHere (record { layout = c.self.inside.layout; cores = c.self.inside.sites.items; sent = c.self.inside.sent.items }) (record { layout = c.self.inside.layout; cores = c.self.inside.sites.items; sent = c.push.new.self.items }) (Send c.args.i) (Sent c.len-number.result)
step c =
    let k = c.self.inside in
    let w : WorldState = record { layout = k.layout; cores = k.sites.items; sent = k.sent.items } in
    let below : c.from.result < length k.sites.items = omega (arith, c.requires, c.from.ensures, ap (λ (x : WorldState). length x.cores) c.self.view_is) in
    let pushed : c.push.new.self.items ≡ k.sent.items ++ c.in-Ok.message ∷ [] =
    c.push.ensures.items ∙ cond-true (is_ok c.push.result) _ _ (c.is_err.ensures.negation ∙ ap not c.if-is_err.false) in
    let number : c.len-number.result ≡ length k.sent.items = search rules in
    rw (pushed, number, sym c.from.ensures)
    (send_step w c.from.result _ _ c.in-Ok.message c.index-core.ensures below c.in-Ok.ensures)

pub invariant_of-self-2 : goal.invariant_of-self-2
invariant_of-self-2 c =
    is_world _ _ (Send c.args.i) (Sent c.len-number.result) c.self.invariant (step c) refl refl

pub returns : goal.returns
returns c = subst (λ (w : WorldState). IsStepHere w (record { layout = c.self.inside.layout; cores = c.self.inside.sites.items; sent = c.push.new.self.items }) (Send c.args.i) (Sent c.len-number.result)) c.self.view_is (step c)
