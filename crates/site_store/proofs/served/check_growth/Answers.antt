use Rattle.std.proofs.Common.{◌≡◌, Bool, inl, inr, sym, subst, ◌∙◌, List, ℕ, arith}
use Rattle.std.proofs.lemmas.Result.{err_from_is_err_and}
use Rattle.std.proofs.lemmas.Bool.{both_ways}
use Rattle.layout_line.specs.Line.{IsLine}
use Rattle.site_store.specs.declared.error.StoreOpenError.TheVariants as opening
use Rattle.site_store.specs.SiteText.{named}
use Rattle.site_store.specs.Served.{IsContentCause}
use Rattle.site_store.proofs.ServedLemmas.{memory_is_none}
use Rattle.site_store.proofs.served.check_growth.Goals as goal

pub returns-then-grow-clause-ok : goal.returns-then-grow-clause-ok
returns-then-grow-clause-ok c = λ off. absurd (both_ways _ off c.if-grow.true)

pub returns-in_err-compare-clause-kind : goal.returns-in_err-compare-clause-kind
returns-in_err-compare-clause-kind c =
    let p = err_from_is_err_and c.from_residual.result c.from_residual.ensures.1 in
    rw p.1 (opening.Memory, p.2)

pub returns-in_err-compare-clause-err : goal.returns-in_err-compare-clause-err
returns-in_err-compare-clause-err c =
    let p = err_from_is_err_and c.from_residual.result c.from_residual.ensures.1 in
    rw p.1 (subst (IsContentCause c.args.grow c.args.layout.now c.args.site (named c.args.group) c.args.content.now) (sym p.2) tt, λ is. memory_is_none (sym p.2 ∙ is))

pub returns-in-Same-clause-ok : goal.returns-in-Same-clause-ok
returns-in-Same-clause-ok c =
    let e : c.as_slice.result.now ≡ c.args.content.now.layout = grind (arith, c.as_slice.ensures.value, c.content.view_is) in
    let is = subst (λ (t : List ℕ). IsLine c.args.layout.now c.args.site t c.in_ok-compare.field-0) e c.in_ok-compare.ensures in
    λ off. inl (subst (IsLine c.args.layout.now c.args.site c.args.content.now.layout) c.in-Same.is is)

pub returns-in-Other-clause-ok : goal.returns-in-Other-clause-ok
returns-in-Other-clause-ok c =
    let e : c.as_slice.result.now ≡ c.args.content.now.layout = grind (arith, c.as_slice.ensures.value, c.content.view_is) in
    let is = subst (λ (t : List ℕ). IsLine c.args.layout.now c.args.site t c.in_ok-compare.field-0) e c.in_ok-compare.ensures in
    λ off. inr (subst (IsLine c.args.layout.now c.args.site c.args.content.now.layout) c.in-Other.is is)

pub returns-in-Earlier-clause-err : goal.returns-in-Earlier-clause-err
returns-in-Earlier-clause-err c =
    let e : c.as_slice.result.now ≡ c.args.content.now.layout = grind (arith, c.as_slice.ensures.value, c.content.view_is) in
    let is = subst (λ (t : List ℕ). IsLine c.args.layout.now c.args.site t c.in_ok-compare.field-0) e c.in_ok-compare.ensures in
    let told = c.earlier_refusal.ensures.cause (subst (IsLine c.args.layout.now c.args.site c.args.content.now.layout) c.in-Earlier.is is) in
    (subst (λ (b : Bool). IsContentCause b c.args.layout.now c.args.site (named c.args.group) c.args.content.now c.earlier_refusal.result) (sym c.if-grow.false) told.0, told.1)

pub returns-in-Earlier-clause-kind : goal.returns-in-Earlier-clause-kind
returns-in-Earlier-clause-kind c = c.earlier_refusal.ensures.kind
