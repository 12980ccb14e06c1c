use Rattle.std.proofs.Common.{ℕ, ◌<◌, length, set, sym, refl, ap, subst, arith}
use Rattle.std.proofs.lemmas.List.{length-set}
use Rattle.admission_model.specs.declared.ask.Call.TheVariants.{Merge}
use Rattle.multi_site_world.specs.declared.event.Event.TheVariants.{Thin}
use Rattle.multi_site_world.specs.Worlds.{WorldState, IsStepHere}
use Rattle.multi_site_world.proofs.WorldCode.{found_at, core_step, is_thin, is_world}
use Rattle.multi_site_world.proofs.world.World.thin.Goals as goal

step : (c : goal.After-drop-thin-inside) → IsStepHere (record { layout = c.self.inside.layout; cores = c.self.inside.sites.items; sent = c.self.inside.sent.items }) (record { layout = c.self.inside.layout; cores = set c.self.inside.sites.items c.from.result c.merge.new.self; sent = c.self.inside.sent.items }) (Thin c.args.i c.args.k c.args.l) c.told.result
step c =
    let k = c.self.inside in
    let w : WorldState = record { layout = k.layout; cores = k.sites.items; sent = k.sent.items } in
    let new : WorldState = record w { cores = set k.sites.items c.from.result c.merge.new.self } in
    let below : c.from.result < length k.sites.items = omega (arith, c.requires, c.from.ensures, ap (λ (x : WorldState). length x.cores) c.self.view_is) in
    subst (λ (n : ℕ). IsStepHere w new (Thin n c.args.k c.args.l) c.told.result) c.from.ensures
    (subst (IsStepHere w new (Thin c.from.result c.args.k c.args.l)) (sym c.told.ensures)
    (core_step w (Thin c.from.result c.args.k c.args.l) c.from.result (Merge c.in-Ok.thin) _ c.merge.new.self _ c.merge.result c.index_mut-core.ensures.value below c.merge.ensures
    (is_thin w c.from.result c.args.k c.args.l c.in-Some.whole.now c.in-Some-get.earlier.now c.in-Ok.thin
    (found_at k.sent.items c.deref.result.now c.args.k c.in-Some.whole.now c.deref.ensures.value c.in-Some.ensures.lookup.0 c.in-Some.ensures.lookup.1)
    (found_at k.sent.items c.deref-2.result.now c.args.l c.in-Some-get.earlier.now c.deref-2.ensures.value c.in-Some-get.ensures.lookup.0 c.in-Some-get.ensures.lookup.1)
    c.in-Ok.ensures)))

pub invariant_of-self : goal.invariant_of-self
invariant_of-self c =
    is_world _ _ (Thin c.args.i c.args.k c.args.l) c.told.result c.self.invariant (step c) refl (length-set c.self.inside.sites.items c.from.result c.merge.new.self)

pub returns : goal.returns
returns c = subst (λ (w : WorldState). IsStepHere w (record { layout = c.self.inside.layout; cores = set c.self.inside.sites.items c.from.result c.merge.new.self; sent = c.self.inside.sent.items }) (Thin c.args.i c.args.k c.args.l) c.told.result) c.self.view_is (step c)
