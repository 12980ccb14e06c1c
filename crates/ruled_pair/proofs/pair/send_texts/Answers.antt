use Rattle.std.proofs.Common.{◌≡◌, true, ap, ◌∙◌}
use Rattle.ordered_link.specs.Ends.{PutterState}
use Rattle.ruled_pair.proofs.Ending.{out_ends, if_closed}
use Rattle.ruled_pair.proofs.pair.send_texts.Goals as goal

pub returns-clause-ran : goal.returns-clause-ran
returns-clause-ran g c = c.run_outbox_at-report.ensures.ran.ran

pub returns-clause-ending : goal.returns-clause-ending
returns-clause-ending g c =
    if_closed (out_ends g.G.Gate.answers _ _ _ _ _ _ _ _ c.run_outbox_at-report.ensures.ran)
    (λ (closed : c.run_outbox_at-report.new.outlet.putter.closed ≡ true).
    ap (λ (p : PutterState). p.finished) (c.finish.ensures.stays_closed closed) ∙ c.run_outbox_at-report.ensures.accounts.1.2)
