use Rattle.std.proofs.Common.{◌<◌, ◌≤◌, length, subst, ap, arith}
use Rattle.multi_site_world.specs.World.{place_of}
use Rattle.multi_site_world.specs.Worlds.{WorldState, IsWorldState, IsStep, stepped}
use Rattle.multi_site_world.proofs.WorldCode.{step_here, step_nowhere}
use Rattle.multi_site_world.proofs.SafeLemmas.{safe_of, safe_world, equal_books_of, equal_books_world, same_layout, lawful}
use Rattle.multi_site_world.proofs.world.World.step.Goals.{Then-from-len, After-step_here}
use Rattle.multi_site_world.proofs.world.World.step.Goals as goal

nowhere : (c : Then-from-len) → length c.args.self.now.cores ≤ place_of c.args.event.now
nowhere c = omega (arith, c.if-from-len.true, c.from.ensures, c.place_of.ensures, c.len.ensures, ap (λ (w : WorldState). length w.cores) c.self.view_is)

pub returns-then-from-len-clause-step : goal.returns-then-from-len-clause-step
returns-then-from-len-clause-step c = step_nowhere c.args.self.now c.args.event.now (nowhere (goal.at.returns-then-from-len-clause-step c).Then-from-len)

pub returns-then-from-len-clause-safe : goal.returns-then-from-len-clause-safe
returns-then-from-len-clause-safe c = safe_world c.args.self.now (subst IsWorldState c.self.view_is c.self.invariant)

pub returns-then-from-len-clause-equal_books : goal.returns-then-from-len-clause-equal_books
returns-then-from-len-clause-equal_books c = equal_books_world c.args.self.now (subst IsWorldState c.self.view_is c.self.invariant)

pub returns-then-from-len-clause-lawful : goal.returns-then-from-len-clause-lawful
returns-then-from-len-clause-lawful c =
    lawful c.args.self.now c.args.self.now c.args.event.now _ (subst IsWorldState c.self.view_is c.self.invariant)
    (step_nowhere c.args.self.now c.args.event.now (nowhere (goal.at.returns-then-from-len-clause-lawful c).Then-from-len))

is_step : (c : After-step_here) → IsStep c.args.self.now c.step_here.new.self c.args.event.now c.step_here.result
is_step c =
    step_here c.args.self.now c.step_here.new.self c.args.event.now c.step_here.result
    (omega (arith, c.if-from-len.false, c.from.ensures, c.place_of.ensures, c.len.ensures, ap (λ (w : WorldState). length w.cores) c.self.view_is))
    c.step_here.ensures

pub returns-clause-step : goal.returns-clause-step
returns-clause-step c = is_step (goal.at.returns-clause-step c).After-step_here

pub returns-clause-layout : goal.returns-clause-layout
returns-clause-layout c =
    same_layout c.args.self.now c.step_here.new.self c.args.event.now c.step_here.result (subst IsWorldState c.self.view_is c.self.invariant)
    (is_step (goal.at.returns-clause-layout c).After-step_here)

pub returns-clause-safe : goal.returns-clause-safe
returns-clause-safe c =
    let is : IsWorldState c.args.self.now = subst IsWorldState c.self.view_is c.self.invariant in
    safe_of (stepped is.model c.args.event.now c.step_here.result) c.step_here.new.self
    ((is_step (goal.at.returns-clause-safe c).After-step_here).world is.model is.stands)

pub returns-clause-equal_books : goal.returns-clause-equal_books
returns-clause-equal_books c =
    let is : IsWorldState c.args.self.now = subst IsWorldState c.self.view_is c.self.invariant in
    equal_books_of (stepped is.model c.args.event.now c.step_here.result) c.step_here.new.self
    ((is_step (goal.at.returns-clause-equal_books c).After-step_here).world is.model is.stands)

pub returns-clause-lawful : goal.returns-clause-lawful
returns-clause-lawful c =
    lawful c.args.self.now c.step_here.new.self c.args.event.now c.step_here.result (subst IsWorldState c.self.view_is c.self.invariant)
    (is_step (goal.at.returns-clause-lawful c).After-step_here)
