use Rattle.std.proofs.Common.{rules, ◌≡◌, ◌<◌, None, inr, subst, arith}
use Rattle.merge_core.specs.Layout.{LayoutState, layout_fault, at_sites}
use Rattle.multi_site_world.proofs.WorldCode.{no_fault}
use Rattle.multi_site_world.proofs.world.begin.first_layout.Goals as goal

pub returns-in-Some : goal.returns-in-Some
returns-in-Some c =
    let is : c.in-Some.earlier ≡ at_sites c.args.first c.args.layout.now = search rules in
    let few : c.args.first < c.args.layout.now.sites =
    omega (arith, c.if-first-sites.false, c.if-first-sites-2.false, c.sites.ensures.sites, c.sites-2.ensures.sites) in
    let free : layout_fault c.args.first c.args.layout.now.records ≡ None =
    subst (λ (l : LayoutState). layout_fault l.sites l.records ≡ None) is (no_fault c.in-Some.earlier c.sites-in-Some.ensures.layout) in
    (inr (few, free), is)
