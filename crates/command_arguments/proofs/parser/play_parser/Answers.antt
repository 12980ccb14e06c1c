use Rattle.command_arguments.proofs.parser.play_parser.Goals as goal

pub returns : goal.returns
returns c =
    let tables = c.flag.ensures in
    let first = c.number_option.ensures in
    let layout = c.layout_option.ensures in
    let bare = c.bare_command.ensures in
    let with_tables = c.with_option-command.ensures _ _ bare (tables.rule, tables.local) in
    let with_first = c.with_option-command-2.ensures _ _ with_tables (first.rule, first.local) in
    c.with_option.ensures _ _ with_first (layout.rule, layout.local)
