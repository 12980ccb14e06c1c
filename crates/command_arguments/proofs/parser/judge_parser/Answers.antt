use Rattle.command_arguments.proofs.parser.judge_parser.Goals as goal

pub returns : goal.returns
returns c =
    let cut = c.text_option.ensures in
    let layout = c.layout_option.ensures in
    let logs = c.logs_option.ensures in
    let bare = c.bare_command.ensures in
    let with_cut = c.with_option-command.ensures _ _ bare (cut.rule, cut.local) in
    let with_layout = c.with_option-command-2.ensures _ _ with_cut (layout.rule, layout.local) in
    c.with_option.ensures _ _ with_layout (logs.rule, logs.local)
