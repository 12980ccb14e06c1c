use Rattle.std.proofs.Common.{◌≡◌, Bool, length, subst}
use Rattle.exchange_threads.specs.declared.turn.Turn.{Turn}
use Rattle.exchange_threads.specs.declared.turn.Turn.TheVariants.{GoesOn, IsOver, EndsRun}
use Rattle.exchange_threads.specs.Outbox.{HasAsked}
use Rattle.exchange_threads.proofs.Told.{told_ended, told_shut, told_shown}
use Rattle.exchange_threads.proofs.outbox.out_turn.Goals as goal

pub returns-in-IsOver-clause-told : goal.returns-in-IsOver-clause-told
returns-in-IsOver-clause-told g c =
    told_ended g.G.Gate.answers (length c.args.site.now.layout.records) c.args.pass.now c.ask_help.new.pass c.args.gate.now c.args.told.now.report c.ask_help.new.told.report IsOver (λ (other : IsOver ≡ GoesOn). cc)
    (subst (λ (x : Turn). HasAsked (length c.args.site.now.layout.records) c.args.pass.now c.ask_help.new.pass c.args.told.now.report c.ask_help.new.told.report x) c.in-IsOver.is c.ask_help.ensures.asked)

pub returns-in-EndsRun-clause-told : goal.returns-in-EndsRun-clause-told
returns-in-EndsRun-clause-told g c =
    told_ended g.G.Gate.answers (length c.args.site.now.layout.records) c.args.pass.now c.ask_help.new.pass c.args.gate.now c.args.told.now.report c.ask_help.new.told.report EndsRun (λ (other : EndsRun ≡ GoesOn). cc)
    (subst (λ (x : Turn). HasAsked (length c.args.site.now.layout.records) c.args.pass.now c.ask_help.new.pass c.args.told.now.report c.ask_help.new.told.report x) c.in-EndsRun.is c.ask_help.ensures.asked)

pub returns-then-not-open-clause-told : goal.returns-then-not-open-clause-told
returns-then-not-open-clause-told g c =
    told_shut g.G.Gate.answers (length c.args.site.now.layout.records) c.args.pass.now c.ask_help.new.pass c.args.gate.now c.open.new.self c.args.told.now.report c.ask_help.new.told.report
    (subst (λ (b : Bool). g.G.Gate.answers c.args.gate.now c.args.told.now.report.turns b c.open.new.self) c.if-not-open.true c.open.ensures.answered)
    (subst (λ (x : Turn). HasAsked (length c.args.site.now.layout.records) c.args.pass.now c.ask_help.new.pass c.args.told.now.report c.ask_help.new.told.report x) c.in-GoesOn.is c.ask_help.ensures.asked)

pub returns-clause-told : goal.returns-clause-told
returns-clause-told g c =
    told_shown g.G.Gate.answers (length c.args.site.now.layout.records) c.args.pass.now c.ask_help.new.pass c.tell.new.pass c.args.gate.now c.open.new.self c.args.told.now.report c.ask_help.new.told c.tell.new.told c.tell.result
    (subst (λ (b : Bool). g.G.Gate.answers c.args.gate.now c.args.told.now.report.turns b c.open.new.self) c.if-not-open.false c.open.ensures.answered)
    (subst (λ (x : Turn). HasAsked (length c.args.site.now.layout.records) c.args.pass.now c.ask_help.new.pass c.args.told.now.report c.ask_help.new.told.report x) c.in-GoesOn.is c.ask_help.ensures.asked)
    c.tell.ensures.shown
