use Rattle.std.proofs.Common.{◌≡◌, ℕ, ◌<◌, length, set, sym, refl, ap, subst, ◌∙◌, arith}
use Rattle.std.proofs.lemmas.List.{length-set}
use Rattle.merge_core.specs.Layout.{LayoutState}
use Rattle.multi_site_world.specs.declared.event.Event.TheVariants.{Grow}
use Rattle.multi_site_world.specs.declared.event.WorldReply.TheVariants.{Grown}
use Rattle.multi_site_world.specs.Worlds.{WorldState, IsStepHere}
use Rattle.multi_site_world.proofs.WorldCode.{grow_step, same_records, is_world}
use Rattle.multi_site_world.proofs.world.World.grow.Goals as goal

pub grown_core-requires-clause-records : goal.grown_core-requires-clause-records
grown_core-requires-clause-records c =
    let k = c.self.inside in
    let w : WorldState = record { layout = k.layout; cores = k.sites.items; sent = k.sent.items } in
    let below : c.from.result < length k.sites.items = omega (arith, c.requires, c.from.ensures, ap (λ (x : WorldState). length x.cores) c.self.view_is) in
    same_records c.self.invariant.model w c.from.result c.index-core.result.now _ c.index-core.ensures below c.self.invariant.stands

step : (c : goal.After-drop-index_mut-7) → IsStepHere (record { layout = c.self.inside.layout; cores = c.self.inside.sites.items; sent = c.self.inside.sent.items }) (record { layout = c.self.inside.layout; cores = set c.self.inside.sites.items c.from-2.result c.in-Ok.grown; sent = c.self.inside.sent.items }) (Grow c.args.i) Grown
step c =
    let k = c.self.inside in
    let w : WorldState = record { layout = k.layout; cores = k.sites.items; sent = k.sent.items } in
    let below : c.from.result < length k.sites.items = omega (arith, c.requires, c.from.ensures, ap (λ (x : WorldState). length x.cores) c.self.view_is) in
    let same : c.from-2.result ≡ c.from.result = c.from-2.ensures ∙ sym c.from.ensures in
    let few : c.index-core.result.now.layout.sites < k.layout.sites =
    omega (arith, c.if-sites.false, c.sites.ensures.sites, c.sites-2.ensures.sites, ap (λ (l : LayoutState). l.sites) c.layout.ensures) in
    subst (λ (n : ℕ). IsStepHere w (record w { cores = set k.sites.items n c.in-Ok.grown }) (Grow c.args.i) Grown) (sym same)
    (subst (λ (n : ℕ). IsStepHere w (record w { cores = set k.sites.items c.from.result c.in-Ok.grown }) (Grow n) Grown) c.from.ensures
    (grow_step w c.from.result c.index-core.result.now c.in-Ok.grown _ c.index-core.ensures below few c.in-Ok.ensures))

pub invariant_of-self : goal.invariant_of-self
invariant_of-self c =
    is_world _ _ (Grow c.args.i) Grown c.self.invariant (step c) refl (length-set c.self.inside.sites.items c.from-2.result c.in-Ok.grown)

pub returns : goal.returns
returns c =
    subst (λ (w : WorldState). IsStepHere w (record { layout = c.self.inside.layout; cores = set c.self.inside.sites.items c.from-2.result c.in-Ok.grown; sent = c.self.inside.sent.items }) (Grow c.args.i) Grown) c.self.view_is (step c)
