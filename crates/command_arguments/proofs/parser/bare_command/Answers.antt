use Rattle.command_arguments.proofs.parser.bare_command.Goals as goal

pub returns : goal.returns
returns c = (
  rw (c.after_help.ensures, c.about.ensures, c.override_usage.ensures) c.new.ensures.app,
  rw (c.after_help.ensures, c.about.ensures, c.override_usage.ensures) c.new.ensures.local,
)
