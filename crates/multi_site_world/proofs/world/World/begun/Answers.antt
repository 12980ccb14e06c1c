use Rattle.std.proofs.Common.{subst}
use Rattle.merge_core.specs.Layout.{IsLayout}
use Rattle.multi_site_world.proofs.WorldCode.{begun, is_begun}
use Rattle.multi_site_world.proofs.SafeLemmas.{safe_of, equal_books_of}
use Rattle.multi_site_world.proofs.world.World.begun.Goals as goal

pub returns-clause-begun : goal.returns-clause-begun
returns-clause-begun c =
    let is : IsLayout c.args.layout = subst IsLayout c.layout.view_is c.layout.invariant in
    (begun c.args.earlier.now.sites c.args.layout c.args.earlier.now c.in_ok-sites.sites.items c.new.result.items is c.requires.earlier c.in_ok-sites.ensures.number c.in_ok-sites.ensures.each c.new.ensures.items)

pub invariant_of-result : goal.invariant_of-result
invariant_of-result c =
    let is : IsLayout c.args.layout = subst IsLayout c.layout.view_is c.layout.invariant in
    is_begun _ c.args.earlier.now.sites is c.in_ok-sites.ensures.number (returns-clause-begun c)

pub returns-clause-safe : goal.returns-clause-safe
returns-clause-safe c = safe_of _ _ (returns-clause-begun c)

pub returns-clause-equal_books : goal.returns-clause-equal_books
returns-clause-equal_books c = equal_books_of _ _ (returns-clause-begun c)
