use Rattle.std.proofs.lemmas.Result.{IfOk-weaker}
use Rattle.command_arguments.proofs.parser.parser.Goals as goal

pub returns : goal.returns
returns c =
    let bare = c.bare_program.ensures in
    let with_join = c.with_command-program.ensures _ _ bare c.join_parser.ensures in
    let with_play = c.with_command-program-2.ensures _ _ with_join c.play_parser.ensures in
    let with_site = c.with_command-program-3.ensures _ _ with_play c.site_parser.ensures in
    let with_serve = c.with_command-program-4.ensures _ _ with_site c.serve_parser.ensures in
    let with_ask = c.with_command-program-5.ensures _ _ with_serve c.ask_parser.ensures in
    let with_regroup = c.with_command-program-6.ensures _ _ with_ask c.regroup_parser.ensures in
    let with_rebuild = c.with_command-program-7.ensures _ _ with_regroup c.rebuild_parser.ensures in
    let with_judge = c.with_command-program-8.ensures _ _ with_rebuild c.judge_parser.ensures in
    IfOk-weaker c.with_command.result _ _ (λ built is. is.0) (c.with_command.ensures _ _ with_judge c.run_parser.ensures)
