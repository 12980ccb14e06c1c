use Rattle.std.proofs.Common.{ap, ◌∙◌}
use Rattle.admission_core.specs.Core.{Core}
use Rattle.admission_core.specs.Kept.{DurableState}
use Rattle.admission_core.proofs.CoreLemmas.{durable_told}
use Rattle.admission_core.proofs.site_core.SiteCore.durable.Goals as goal

pub returns : goal.returns
returns c = λ a stands.
    durable_told a c.args.self.now stands c.new.result
    (ap (λ (d : DurableState). d.cells) c.new.ensures ∙ c.in_ok-cells.ensures)
    (ap (λ (d : DurableState). d.sessions) c.new.ensures ∙ (c.in_ok-sessions.ensures ∙ ap (λ (x : Core). x.sessions) c.self.view_is))
