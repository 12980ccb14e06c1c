use Rattle.std.proofs.Common.{◌≡◌, Option, Some, ap, subst, ◌∙◌, string_bytes}
use Rattle.merge_core.specs.Layout.{LayoutState}
use Rattle.admission_core.specs.Core.{Core}
use Rattle.site_script.specs.declared.lines.Said.{Said}
use Rattle.site_script.specs.Lines.{Says}
use Rattle.site_script.specs.Steps.{AnsweredFrom}
use Rattle.site_script.proofs.LineLemmas.{if_err, line_of_lost, line_of_no_delta}
use Rattle.site_script.proofs.serving.serve_line.Goals as goal

pub returns-in_ok-push_no_delta_line-in-Unread-clause-line : goal.returns-in_ok-push_no_delta_line-in-Unread-clause-line
returns-in_ok-push_no_delta_line-in-Unread-clause-line g c =
    let layout : c.layout.result.now ≡ c.args.desk.now.core.layout = c.layout.ensures ∙ ap (λ (d : Core). d.layout) c.core.ensures.core in
    line_of_no_delta c.args.desk.now c.args.desk.now.core.layout.records c.args.line.now c.in_ok-said.field-0 c.in-Some.said c.in-Unread.error
    (string_bytes c.args.text.now) (string_bytes c.push_no_delta_line.new.text)
    (subst (λ (l : LayoutState). Says l.records c.args.line.now c.in_ok-said.field-0) layout c.in_ok-said.ensures)
    c.in-Some.is c.in-Unread.is c.in_ok-push_no_delta_line-in-Unread.ensures

pub returns-in_err-answer_call-in-Asked-clause-lost : goal.returns-in_err-answer_call-in-Asked-clause-lost
returns-in_err-answer_call-in-Asked-clause-lost g c =
    let records = c.args.desk.now.core.layout.records in
    let layout : c.layout.result.now ≡ c.args.desk.now.core.layout = c.layout.ensures ∙ ap (λ (d : Core). d.layout) c.core.ensures.core in
    let says : Says records c.args.line.now c.in_ok-said.field-0 = subst (λ (l : LayoutState). Says l.records c.args.line.now c.in_ok-said.field-0) layout c.in_ok-said.ensures in
    if_err _ c.from_residual-in_err-answer_call-in-Asked.result
    (λ was a left.
    line_of_lost (AnsweredFrom was a left c.args.desk.now) (AnsweredFrom was a left c.answer_call.new.desk) records c.args.line.now (string_bytes c.args.text.now) c.in-Asked.call
    (subst (λ (o : Option Said). Says records c.args.line.now o) (c.in-Some.is ∙ ap Some c.in-Asked.is) says)
    (c.in_err-answer_call-in-Asked.ensures.lost was a left))
