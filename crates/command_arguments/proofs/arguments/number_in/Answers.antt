use Rattle.std.proofs.Common.{◌∙◌, ap}
use Rattle.std.specs.Prelude.{option_and_then}
use Rattle.std.specs.Str.Parse.{ExplainsUnsignedError, HasUnsignedDigitsIfOk, ParsesUnsigned}
use Rattle.clap.specs.Words.{found_of, one_text}
use Rattle.clap.proofs.WalkLemmas.{one_text-rows}
use Rattle.command_arguments.specs.Arguments.{short_number}
use Rattle.command_arguments.proofs.ArgumentLemmas.{short_read}
use Rattle.command_arguments.proofs.arguments.number_in.Goals as goal

pub returns : goal.returns
returns c =
    let found = found_of c.args.found.now in
    let name = c.args.name.now in
    let number = c.get_one.ensures in
    short_read _ (λ bs r. ParsesUnsigned 16 10 bs r × ExplainsUnsignedError 10 bs r × HasUnsignedDigitsIfOk bs r)
    (one_text found name) c.get_one.result (λ t r h. h.0) number.none number.value
    ∙ ap (option_and_then short_number) (one_text-rows found name)
