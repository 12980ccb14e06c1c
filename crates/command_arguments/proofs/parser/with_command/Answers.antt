use Rattle.std.proofs.Common.{◌∙◌, ◌||◌, Bool, IfOk, ap, ap₂, subst}
use Rattle.std.proofs.lemmas.Result.{IfOk-weaker}
use Rattle.clap.specs.Words.{App, with_subcommand}
use Rattle.command_arguments.specs.Arguments.{Offers}
use Rattle.command_arguments.proofs.parser.with_command.Goals as goal

pub returns : goal.returns
returns c before added is_before is_added =
    let either : Bool → Bool → Bool = λ (a : Bool) (b : Bool). a || b in
    let is_before_too : Offers before c.in_ok-program.field-0 = subst (λ r. IfOk r (Offers before)) c.in_ok-program.was is_before in
    let is_added_too : Offers added c.in_ok-command.field-0 = subst (λ r. IfOk r (Offers added)) c.in_ok-command.was is_added in
    IfOk-weaker c.subcommand.result _ _ (λ built joined. (
      joined.shape is_added_too.1 ∙ ap₂ with_subcommand is_before_too.0 (ap (λ (a : App). a.top) is_added_too.0),
      joined.globals ∙ ap₂ either is_before_too.1 is_added_too.1,
    )) c.subcommand.ensures
