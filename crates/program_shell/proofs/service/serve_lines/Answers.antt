use Rattle.std.proofs.Common.{rules, ◌≡◌, inl, option_copied, sym}
use Rattle.program_shell.specs.Services.{stream_between}
use Rattle.program_shell.proofs.service.serve_lines.Goals as goal

pub returns : goal.returns
returns g c =
    let begins : c.new-talk.result ≡ stream_between (option_copied c.args.opening.service.group) c.args.opening.service.marking c.args.source c.args.sink = search rules in
    inl (record {
      after = c.serve_by-ended.new.talk;
      ended = c.serve_by-ended.result;
      served = rw (sym begins) c.serve_by-ended.ensures;
      source_left = search rules;
      sink_left = search rules;
      told = search rules;
    })
