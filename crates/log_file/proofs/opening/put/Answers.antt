use Rattle.std.proofs.Common.{rules}
use Rattle.log_file.specs.Errors.{Cuts}
use Rattle.log_file.proofs.PutLemmas.{puts}
use Rattle.log_file.proofs.opening.put.Goals as goal

pub returns-then-cut_to : goal.returns-then-cut_to
returns-then-cut_to g c =
    let cut : Cuts g.F.LogFile c.args.file.now c.cut_to.new.file c.args.size c.args.kept = search rules in
    puts g.F.LogFile c.args.file.now c.append.new.self c.args.size c.args.kept c.cut_to.new.file c.args.text.now c.append.result cut
    (c.append.ensures.done c.args.file.now) c.append.ensures.failed
