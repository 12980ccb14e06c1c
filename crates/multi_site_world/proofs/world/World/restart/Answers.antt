use Rattle.std.proofs.Common.{ℕ, ◌<◌, length, set, refl, ap, subst, arith}
use Rattle.std.proofs.lemmas.List.{length-set}
use Rattle.multi_site_world.specs.declared.event.Event.TheVariants.{Restart}
use Rattle.multi_site_world.specs.declared.event.WorldReply.TheVariants.{Restarted}
use Rattle.multi_site_world.specs.Worlds.{WorldState, IsStepHere}
use Rattle.multi_site_world.proofs.WorldCode.{restart_step, is_world}
use Rattle.multi_site_world.proofs.world.World.restart.Goals as goal

step : (c : goal.After-self-1) → IsStepHere (record { layout = c.self.inside.layout; cores = c.self.inside.sites.items; sent = c.self.inside.sent.items }) (record { layout = c.self.inside.layout; cores = set c.self.inside.sites.items c.from.result c.restart.new.self; sent = c.self.inside.sent.items }) (Restart c.args.i) Restarted
step c =
    let k = c.self.inside in
    let w : WorldState = record { layout = k.layout; cores = k.sites.items; sent = k.sent.items } in
    let new : WorldState = record w { cores = set k.sites.items c.from.result c.restart.new.self } in
    let below : c.from.result < length k.sites.items = omega (arith, c.requires, c.from.ensures, ap (λ (x : WorldState). length x.cores) c.self.view_is) in
    subst (λ (n : ℕ). IsStepHere w new (Restart n) Restarted) c.from.ensures
    (restart_step w c.from.result _ c.restart.new.self _ c.index_mut-core.ensures.value below c.restart.ensures)

pub invariant_of-self : goal.invariant_of-self
invariant_of-self c =
    is_world _ _ (Restart c.args.i) Restarted c.self.invariant (step c) refl (length-set c.self.inside.sites.items c.from.result c.restart.new.self)

pub returns : goal.returns
returns c = subst (λ (w : WorldState). IsStepHere w (record { layout = c.self.inside.layout; cores = set c.self.inside.sites.items c.from.result c.restart.new.self; sent = c.self.inside.sent.items }) (Restart c.args.i) Restarted) c.self.view_is (step c)
