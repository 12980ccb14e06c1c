use Rattle.std.proofs.Common.{rules, ◌≡◌, inl, sym}
use Rattle.command_arguments.specs.Arguments.{words_of}
use Rattle.program_shell.specs.Services.{one_line, spoken}
use Rattle.program_shell.proofs.service.ask_once.Goals as goal

pub returns : goal.returns
returns g c =
    let begins : c.new-talk.result ≡ one_line (spoken (words_of c.args.words.now)) c.args.sink = search rules in
    inl (record {
      after = c.serve_live-ended.new.conversation;
      ended = c.serve_live-ended.result;
      served = rw (sym begins) c.serve_live-ended.ensures;
      sink_left = search rules;
      status = search rules;
      said = search rules;
    })
