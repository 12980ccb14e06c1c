use Rattle.log_file.proofs.StepLemmas.{cut_then}
use Rattle.log_file.proofs.file.SystemFileLogFile.cut.Goals as goal

pub returns-then-is_ok-clause-done : goal.returns-then-is_ok-clause-done
returns-then-is_ok-clause-done g c = λ first before did is. cut_then (g.F.Write.contents first.file) (g.F.Write.contents c.args.self.now.file) before c.args.length did
