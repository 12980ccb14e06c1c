use Rattle.std.proofs.Common.{◌≡◌, ◌∙◌, List, ap, subst, sym, arith}
use Rattle.std.specs.List.{list_all}
use Rattle.merge_core.specs.declared.layout.RecordSpec.{RecordSpec}
use Rattle.merge_core.specs.Layout.{IsLayout, LayoutState, has_good_home}
use Rattle.merge_core.proofs.LayoutLemmas.{homes_tell}
use Rattle.merge_core.proofs.layout.Layout.fits_sites.Goals as goal

pub returns : goal.returns
returns c =
    let is : IsLayout c.args.self.now = subst IsLayout c.self.view_is c.self.invariant in
    let records : c.as_slice.result.now ≡ c.args.self.now.records = c.as_slice.ensures.value ∙ ap (λ (l : LayoutState). l.records) c.self.view_is in
    let homes = c.all_homes_good.ensures ∙ ap (λ (rs : List RecordSpec). list_all (has_good_home c.args.sites) rs) records in
    let it = homes_tell c.args.self.now c.args.sites is (omega (arith, c.if-sites-eq0.false)) (omega (arith, c.if-sites-gt-MOST_SITES.false)) in
    (λ e. it.0 (sym homes ∙ e), λ e. homes ∙ it.1 e)
