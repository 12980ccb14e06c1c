use Rattle.std.proofs.Common.{ℕ, ◌<◌, ◌∙◌, length, set, sym, refl, ap, subst, arith}
use Rattle.std.proofs.lemmas.List.{length-set}
use Rattle.admission_model.specs.declared.ask.Call.TheVariants.{Merge}
use Rattle.multi_site_world.specs.declared.event.Event.TheVariants.{Take}
use Rattle.multi_site_world.specs.Worlds.{WorldState, IsStepHere}
use Rattle.multi_site_world.proofs.WorldCode.{found_at, core_step, is_taken, is_world}
use Rattle.multi_site_world.proofs.AcceptedLemmas.{accepted_at}
use Rattle.multi_site_world.proofs.world.World.take.Goals as goal

pub merged-requires : goal.merged-requires
merged-requires c = λ all.
    let k = c.self.inside in
    let w : WorldState = record { layout = k.layout; cores = k.sites.items; sent = k.sent.items } in
    let below : c.from.result < length k.sites.items = omega (arith, c.requires, c.from.ensures, ap (λ (x : WorldState). length x.cores) c.self.view_is) in
    accepted_at w c.from.result c.args.k _ _ c.in-Some.message.now c.self.invariant below c.index_mut-core.ensures.value (all ∙ c.sites-sites.ensures.sites)
    (found_at k.sent.items c.deref.result.now c.args.k c.in-Some.message.now c.deref.ensures.value c.in-Some.ensures.lookup.0 c.in-Some.ensures.lookup.1)

step : (c : goal.After-told) → IsStepHere (record { layout = c.self.inside.layout; cores = c.self.inside.sites.items; sent = c.self.inside.sent.items }) (record { layout = c.self.inside.layout; cores = set c.self.inside.sites.items c.from.result c.merged.new.core; sent = c.self.inside.sent.items }) (Take c.args.i c.args.k) c.told.result
step c =
    let k = c.self.inside in
    let w : WorldState = record { layout = k.layout; cores = k.sites.items; sent = k.sent.items } in
    let new : WorldState = record w { cores = set k.sites.items c.from.result c.merged.new.core } in
    let below : c.from.result < length k.sites.items = omega (arith, c.requires, c.from.ensures, ap (λ (x : WorldState). length x.cores) c.self.view_is) in
    subst (λ (n : ℕ). IsStepHere w new (Take n c.args.k) c.told.result) c.from.ensures
    (subst (IsStepHere w new (Take c.from.result c.args.k)) (sym c.told.ensures)
    (core_step w (Take c.from.result c.args.k) c.from.result (Merge c.in-Some.message.now) _ c.merged.new.core _ c.merged.result c.index_mut-core.ensures.value below c.merged.ensures
    (is_taken w c.from.result c.args.k c.in-Some.message.now
    (found_at k.sent.items c.deref.result.now c.args.k c.in-Some.message.now c.deref.ensures.value c.in-Some.ensures.lookup.0 c.in-Some.ensures.lookup.1))))

pub invariant_of-self : goal.invariant_of-self
invariant_of-self c =
    is_world _ _ (Take c.args.i c.args.k) c.told.result c.self.invariant (step c) refl (length-set c.self.inside.sites.items c.from.result c.merged.new.core)

pub returns : goal.returns
returns c = subst (λ (w : WorldState). IsStepHere w (record { layout = c.self.inside.layout; cores = set c.self.inside.sites.items c.from.result c.merged.new.core; sent = c.self.inside.sent.items }) (Take c.args.i c.args.k) c.told.result) c.self.view_is (step c)
