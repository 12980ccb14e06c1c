use Rattle.std.proofs.Common.{◌≡◌, ℕ, true, List, subst, ap, ◌∙◌}
use Rattle.ordered_link.specs.Ends.{TakerState}
use Rattle.exchange_threads.specs.Inbox.{HasRunIn}
use Rattle.ruled_pair.proofs.Ending.{in_ends, if_closed}
use Rattle.ruled_pair.proofs.pair.take_texts.Goals as goal

pub returns-clause-ran : goal.returns-clause-ran
returns-clause-ran g c =
    subst (λ (ts : List (List ℕ)). HasRunIn ts c.args.pass.now c.run_inbox_at-report.new.pass c.args.turns c.run_inbox_at-report.result) c.run_inbox_at-report.ensures.ran.account.2
    c.run_inbox_at-report.ensures.ran.ran

pub returns-clause-ending : goal.returns-clause-ending
returns-clause-ending g c =
    if_closed (in_ends _ _ _ _ _ _ c.run_inbox_at-report.ensures.ran)
    (λ (told : c.run_inbox_at-report.new.inlet.taker.finished ≡ true). ap (λ (t : TakerState). t.finished) c.close.ensures ∙ told)
