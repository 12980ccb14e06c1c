use Rattle.command_arguments.proofs.parser.run_parser.Goals as goal

pub returns : goal.returns
returns c =
    let turns = c.turns_option.ensures in
    let out = c.text_option.ensures in
    let layout = c.layout_option.ensures in
    let bare = c.bare_command.ensures in
    let with_turns = c.with_option-command.ensures _ _ bare (turns.rule, turns.local) in
    let with_out = c.with_option-command-2.ensures _ _ with_turns (out.rule, out.local) in
    c.with_option.ensures _ _ with_out (layout.rule, layout.local)
