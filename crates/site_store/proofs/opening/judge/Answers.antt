use Rattle.std.proofs.Common.{◌≡◌, List, ℕ, Option, IsSome, IfSome, refl, sym, subst, arith}
use Rattle.layout_line.specs.declared.Line.TheVariants as lines
use Rattle.layout_line.specs.Line.{IsLine}
use Rattle.store_content.specs.declared.index.Index.{Index}
use Rattle.store_content.specs.Content.{IsContent}
use Rattle.store_content.specs.Known.{Knows}
use Rattle.site_store.specs.SiteText.{named, site_text}
use Rattle.site_store.proofs.OpenLemmas.{fits_of}
use Rattle.site_store.proofs.opening.judge.Goals as goal

pub returns : goal.returns
returns c =
    let e : c.as_slice-2.result.now ≡ c.args.content.now.layout = grind (arith, c.as_slice-2.ensures.value, c.content.view_is) in
    let is = subst (λ (t : List ℕ). IsLine c.args.layout.now c.args.site t c.in_ok-line.line) e c.in_ok-line.ensures in
    let same : c.args.content.now.site ≡ site_text c.args.site (named c.args.group) = grind (arith, c.is_same.ensures, c.as_slice.ensures.value, c.content.view_is, c.as_bytes.ensures.value) in
    let whole : IsContent c.args.content.now = c.in_ok-index.ensures.content.0 (subst (λ (o : Option Index). IsSome o) (sym c.in-Some.is) refl) in
    let knows : Knows c.in-Some.index c.args.content.now =
    subst (λ (o : Option Index). IfSome o (λ x. Knows x c.args.content.now)) c.in-Some.is c.in_ok-index.ensures.knows in
    let other : c.in_ok-line.line ≡ lines.Other → ⊥ = c.in_default-2.not-Other in
    (record { content = whole; its_site = same; its_layout = fits_of c.args.layout.now c.args.site c.args.content.now c.in_ok-line.line other is }, (knows, is))
