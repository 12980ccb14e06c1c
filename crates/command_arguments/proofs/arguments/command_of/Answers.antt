use Rattle.std.proofs.Common.{◌≡◌, true, rules, ap₂, codes}
use Rattle.std.specs.Prelude.{bytes_eq}
use Rattle.command_arguments.specs.declared.arguments.Command.TheVariants.{Play}
use Rattle.command_arguments.proofs.arguments.command_of.Goals as goal

pub returns-then-eq : goal.returns-then-eq
returns-then-eq c =
    let is_play : bytes_eq c.args.name.now (codes "play") ≡ true = search rules in
    rw is_play (ap₂ Play c.flag_in.ensures c.number_in.ensures)
