use Rattle.std.proofs.Common.{ap, ◌∙◌}
use Rattle.merge_core.specs.Layout.{LayoutState}
use Rattle.audit_report.proofs.CountLemmas.{sessions_there, sessions_given}
use Rattle.audit_report.proofs.sessions.push_site.Goals as goal

pub push_sessions-requires-clause-there : goal.push_sessions-requires-clause-there
push_sessions-requires-clause-there c =
    let is = c.layout.ensures.world in
    let w = c.args.world.now in
    sessions_given w.layout.records c.records.result.now _ c.as_slice.result.now
    (c.records.ensures.records ∙ ap (λ (l : LayoutState). l.records) c.layout.ensures.layout)
    (c.as_slice.ensures.value ∙ c.in_ok-sessions.ensures is.model is.stands)
    (sessions_there is.model w c.args.i c.requires.site is.stands)
