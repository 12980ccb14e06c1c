use Rattle.std.proofs.Common.{rules, ◌≡◌, ◌∙◌, true, false, Some, refl, sym}
use Rattle.std.specs.Prelude.{IsTrue, ◌↔◌}
use Rattle.log_file.specs.Fronting.{IsFrontIn}
use Rattle.log_file.proofs.FrontLemmas.{in_full, neither, second}
use Rattle.log_file.proofs.fronts.is_front_with.Goals as goal

pub returns-then-branch : goal.returns-then-branch
returns-then-branch c =
    let tells : IsTrue c.in_ok-is_front_in.field-0 ↔ IsFrontIn c.args.layout.now c.args.site c.args.sites c.args.first.now (Some c.args.sites) c.args.bytes.now = search rules in
    (λ yes. in_full c.args.layout.now c.args.site c.args.sites c.args.bytes.now c.args.first.now c.requires (tells.0 c.if-branch.true), λ front. refl)

pub returns-then-sites : goal.returns-then-sites
returns-then-sites c =
    let tells : IsTrue c.in_ok-is_front_in.field-0 ↔ IsFrontIn c.args.layout.now c.args.site c.args.sites c.args.first.now (Some c.args.sites) c.args.bytes.now = search rules in
    let not_full : ¬ IsFrontIn c.args.layout.now c.args.site c.args.sites c.args.first.now (Some c.args.sites) c.args.bytes.now =
    λ it. let clash : false ≡ true = sym c.if-branch.false ∙ tells.1 it in cc in
    let fewer : ¬ (c.args.sites ≡ c.args.layout.now.sites) = search rules in (
      λ yes. absurd (cc),
      λ front. absurd (neither c.args.layout.now c.args.site c.args.sites c.args.bytes.now c.args.first.now c.requires not_full fewer front),
    )

pub returns : goal.returns
returns c =
    let tells : IsTrue c.in_ok-is_front_in.field-0 ↔ IsFrontIn c.args.layout.now c.args.site c.args.sites c.args.first.now (Some c.args.sites) c.args.bytes.now = search rules in
    let not_full : ¬ IsFrontIn c.args.layout.now c.args.site c.args.sites c.args.first.now (Some c.args.sites) c.args.bytes.now =
    λ it. let clash : false ≡ true = sym c.if-branch.false ∙ tells.1 it in cc in
    let all : c.args.sites ≡ c.args.layout.now.sites = search rules in
    second c.args.layout.now c.args.site c.args.sites c.args.bytes.now c.args.first.now c.requires not_full all c.is_front_in-2.result c.is_front_in-2.ensures
