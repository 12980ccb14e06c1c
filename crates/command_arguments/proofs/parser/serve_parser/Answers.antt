use Rattle.command_arguments.proofs.parser.serve_parser.Goals as goal

pub returns : goal.returns
returns c =
    let together = c.together_option.ensures in
    c.with_option.ensures _ _ c.serving_parser-command.ensures (together.rule, together.local)
