use Rattle.std.proofs.Common.{◌+◌, ℕ, length, ap, ◌∙◌, length-append}
use Rattle.admission_core.specs.Core.{Core as SiteState, Stands}
use Rattle.multi_site_world.specs.World.{first_account}
use Rattle.multi_site_world.proofs.WorldCode.{pushed}
use Rattle.multi_site_world.proofs.world.begin.first_cores.Goals as goal

pub loop-i-preserved : goal.loop-i-preserved
loop-i-preserved c =
    let items = c.in_ok-push.ensures.items in
    record {
      number = ap length items ∙ (length-append c.loop-i.cores.items _ ∙ ap (λ (n : ℕ). n + 1) c.loop-i.invariant.number);
      each =
          pushed (λ (j : ℕ) (core : SiteState). Stands (first_account c.args.earlier.now.sites c.args.layout.now j) core) c.loop-i.cores.items _ c.loop-i.i _ items c.loop-i.invariant.number
          c.loop-i.invariant.each c.in_ok-first_core.ensures;
    }
