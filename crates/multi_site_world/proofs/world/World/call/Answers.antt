use Rattle.std.proofs.Common.{ℕ, ◌<◌, length, set, sym, refl, ap, subst, arith}
use Rattle.std.proofs.lemmas.List.{length-set}
use Rattle.admission_model.specs.declared.ask.Call.TheVariants.{Ask as AskCall}
use Rattle.multi_site_world.specs.declared.event.Event.TheVariants.{Call}
use Rattle.multi_site_world.specs.Worlds.{WorldState, IsStepHere}
use Rattle.multi_site_world.proofs.WorldCode.{core_step, is_asked, is_world}
use Rattle.multi_site_world.proofs.world.World.call.Goals as goal

step : (c : goal.After-told) → IsStepHere (record { layout = c.self.inside.layout; cores = c.self.inside.sites.items; sent = c.self.inside.sent.items }) (record { layout = c.self.inside.layout; cores = set c.self.inside.sites.items c.from.result c.ask.new.self; sent = c.self.inside.sent.items }) (Call c.args.i c.args.ask) c.told.result
step c =
    let k = c.self.inside in
    let w : WorldState = record { layout = k.layout; cores = k.sites.items; sent = k.sent.items } in
    let new : WorldState = record w { cores = set k.sites.items c.from.result c.ask.new.self } in
    let below : c.from.result < length k.sites.items = omega (arith, c.requires, c.from.ensures, ap (λ (x : WorldState). length x.cores) c.self.view_is) in
    subst (λ (n : ℕ). IsStepHere w new (Call n c.args.ask) c.told.result) c.from.ensures
    (subst (IsStepHere w new (Call c.from.result c.args.ask)) (sym c.told.ensures)
    (core_step w (Call c.from.result c.args.ask) c.from.result (AskCall c.args.ask) _ c.ask.new.self _ c.ask.result c.index_mut-core.ensures.value below c.ask.ensures
    (is_asked w c.from.result c.args.ask)))

pub invariant_of-self : goal.invariant_of-self
invariant_of-self c =
    is_world _ _ (Call c.args.i c.args.ask) c.told.result c.self.invariant (step c) refl (length-set c.self.inside.sites.items c.from.result c.ask.new.self)

pub returns : goal.returns
returns c = subst (λ (w : WorldState). IsStepHere w (record { layout = c.self.inside.layout; cores = set c.self.inside.sites.items c.from.result c.ask.new.self; sent = c.self.inside.sent.items }) (Call c.args.i c.args.ask) c.told.result) c.self.view_is (step c)
