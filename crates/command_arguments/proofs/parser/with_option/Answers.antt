use Rattle.std.proofs.Common.{◌∙◌, ◌||◌, Bool, IfOk, ap₂, subst}
use Rattle.std.proofs.lemmas.Result.{IfOk-weaker}
use Rattle.clap.specs.Words.{with_rule}
use Rattle.command_arguments.specs.Arguments.{Offers}
use Rattle.command_arguments.proofs.parser.with_option.Goals as goal

pub returns : goal.returns
returns c before rule is_before is_option =
    let either : Bool → Bool → Bool = λ (a : Bool) (b : Bool). a || b in
    let is_before_too : Offers before c.in_ok-command.field-0 = subst (λ r. IfOk r (Offers before)) c.in_ok-command.was is_before in
    IfOk-weaker c.arg.result _ _ (λ built added. (
      added.shape is_option.1 ∙ ap₂ with_rule is_before_too.0 is_option.0,
      added.globals ∙ ap₂ either is_before_too.1 is_option.1,
    )) c.arg.ensures
