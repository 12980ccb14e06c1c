use Rattle.std.proofs.Common.{◌≡◌, ◌∙◌, Option, Some, ap, ap₂}
use Rattle.std.specs.Prelude.{pos}
use Rattle.clap.specs.Words.{Rule, rule_of}
use Rattle.clap.specs.declared.builder.value_parser.ValueParser.{ValueParser}
use Rattle.clap.specs.declared.builder.value_parser.ValueParser.TheVariants.{Signed}
use Rattle.command_arguments.proofs.parser.turns_option.Goals as goal

pub returns-clause-rule : goal.returns-clause-rule
returns-clause-rule c =
    let given = c.value_parser.ensures.given in
    let parser_is : c.value_parser.result.value_parser ≡ Some (Signed (pos 1) (pos 1000)) =
    given.1 ∙ ap (λ (q : ValueParser). Some q) (given.2 ∙ c.signed.ensures) in
    ap rule_of c.value_parser.ensures.others ∙ ap₂ (λ (r : Rule) (p : Option ValueParser). record r { parser = p }) c.text_option.ensures.rule parser_is
