use Rattle.command_arguments.proofs.parser.ask_parser.Goals as goal

pub returns : goal.returns
returns c =
    let first = c.first_word.ensures in
    let second = c.word.ensures in
    let third = c.word-2.ensures in
    let fourth = c.word-3.ensures in
    let serving = c.serving_parser-command.ensures in
    let with_first = c.with_option-command.ensures _ _ serving (first.rule, first.local) in
    let with_second = c.with_option-command-2.ensures _ _ with_first (second.rule, second.local) in
    let with_third = c.with_option-command-3.ensures _ _ with_second (third.rule, third.local) in
    c.with_option.ensures _ _ with_third (fourth.rule, fourth.local)
