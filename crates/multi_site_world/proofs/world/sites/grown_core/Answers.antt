use Rattle.std.proofs.Common.{◌≡◌, ◌≤◌, ap, subst, ◌∙◌, arith}
use Rattle.merge_core.specs.Layout.{LayoutState, at_sites}
use Rattle.admission_model.specs.Knowledge.{grown}
use Rattle.admission_core.specs.Restored.{IsOwn}
use Rattle.multi_site_world.proofs.world.sites.grown_core.Goals as goal

pub returns : goal.returns
returns c = λ a stands.
    let whole : c.in_ok-whole.whole ≡ c.args.layout.now = c.in_ok-whole.ensures in
    let records : c.in_ok-whole.whole.records ≡ a.origin.layout.records =
    ap (λ (l : LayoutState). l.records) whole ∙ (c.requires.records ∙ ap (λ (l : LayoutState). l.records) stands.shows.layout) in
    let layout : c.in_ok-whole.whole ≡ at_sites c.in_ok-whole.whole.sites a.origin.layout = λ i. record { sites = c.in_ok-whole.whole.sites; records = records i } in
    let few : a.sites ≤ c.in_ok-whole.whole.sites =
    omega (arith, c.requires.sites, ap (λ (l : LayoutState). l.sites) stands.shows.layout, ap (λ (l : LayoutState). l.sites) whole) in
    subst (λ (l : LayoutState). IsOwn (grown l.sites a) c.restore.result) whole
    (c.restore.ensures.own a stands.reached layout few (c.site.ensures ∙ stands.shows.site) (c.in_ok-durable.ensures a stands))
