use Rattle.std.proofs.Common.{ap}
use Rattle.clap.specs.Simple.{on_top}
use Rattle.command_arguments.specs.Arguments.{with_settings}
use Rattle.command_arguments.proofs.parser.bare_program.Goals as goal

pub returns : goal.returns
returns c = (
  rw (c.disable_help_subcommand.ensures, c.subcommand_required.ensures, c.after_help.ensures, c.about.ensures, c.override_usage.ensures, c.version.ensures)
      (ap (on_top with_settings) c.new.ensures.app),
  rw (c.disable_help_subcommand.ensures, c.subcommand_required.ensures, c.after_help.ensures, c.about.ensures, c.override_usage.ensures, c.version.ensures)
      c.new.ensures.local,
)
