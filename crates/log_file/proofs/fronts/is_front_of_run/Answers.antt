use Rattle.std.proofs.Common.{rules, ◌≡◌, ◌∙◌, ◌+◌, ◌≤◌, true, false, sym, arith}
use Rattle.std.specs.Prelude.{IsTrue, ◌↔◌}
use Rattle.log_file.specs.Fronting.{IsFrontAt}
use Rattle.log_file.proofs.FrontLemmas.{no_front, one_more}
use Rattle.log_file.proofs.fronts.is_front_of_run.Goals as goal

pub sites-preserved : goal.sites-preserved
sites-preserved c =
    let tells : IsTrue c.in_ok-is_front_at.field-0 ↔ IsFrontAt c.args.layout.now c.args.site (c.sites.n + 1) c.args.bytes.now = search rules in
    one_more c.args.layout.now c.args.site c.args.bytes.now c.sites.n c.sites.invariant (λ front. let clash : false ≡ true = sym c.if-branch.false ∙ tells.1 front in cc)

pub returns : goal.returns
returns c =
    let all : c.args.layout.now.sites ≤ c.sites.n = search (rules, arith) in (
      λ yes. absurd (cc),
      λ front. absurd (no_front c.args.layout.now c.args.site c.args.bytes.now (λ m below. c.sites.invariant m (omega (arith, below, all))) front),
    )
