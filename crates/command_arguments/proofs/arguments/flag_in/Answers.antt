use Rattle.std.proofs.Common.{◌∙◌, false, ap}
use Rattle.std.specs.Option.{option_map_or}
use Rattle.clap.specs.Words.{found_of, one_text}
use Rattle.clap.proofs.WalkLemmas.{one_text-rows}
use Rattle.command_arguments.specs.Arguments.{is_true}
use Rattle.command_arguments.proofs.ArgumentLemmas.{flag_read}
use Rattle.command_arguments.proofs.arguments.flag_in.Goals as goal

pub returns : goal.returns
returns c =
    let found = found_of c.args.found.now in
    let name = c.args.name.now in
    let flag = c.get_one.ensures in
    c.unwrap_or.ensures ∙ flag_read _ (one_text found name) c.get_one.result flag.none flag.value
    ∙ ap (λ o. option_map_or is_true o false) (one_text-rows found name)
