use Rattle.std.proofs.Common.{[]}
use Rattle.log_file.proofs.PutLemmas.{cuts}
use Rattle.log_file.proofs.opening.cut_to.Goals as goal

pub returns : goal.returns
returns g c =
    let file = c.args.file.now in
    cuts g.F.LogFile file c.cut.new.self c.args.size c.args.kept c.cut.result (c.cut.ensures.done file [] (g.met.F.LogFile.begins file)) c.cut.ensures.failed
