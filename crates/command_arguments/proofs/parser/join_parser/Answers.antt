use Rattle.command_arguments.proofs.parser.join_parser.Goals as goal

pub returns : goal.returns
returns c =
    let layout = c.layout_option.ensures in
    let bare = c.bare_command.ensures in
    c.with_option.ensures _ _ bare (layout.rule, layout.local)
