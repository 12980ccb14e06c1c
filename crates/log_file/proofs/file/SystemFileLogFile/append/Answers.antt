use Rattle.std.proofs.Common.{rules}
use Rattle.std.specs.Io.KnownBytes.{Appends}
use Rattle.log_file.proofs.StepLemmas.{appends_then}
use Rattle.log_file.proofs.file.SystemFileLogFile.append.Goals as goal

pub returns-then-is_ok-3-clause-done : goal.returns-then-is_ok-3-clause-done
returns-then-is_ok-3-clause-done g c =
    let written : Appends (g.F.Write.contents c.args.self.now.file) (g.F.Write.contents c.write_all.new.self) c.args.text.now = search rules in
    λ first before did is. appends_then (g.F.Write.contents first.file) (g.F.Write.contents c.args.self.now.file) (g.F.Write.contents c.write_all.new.self) (g.F.Write.contents c.flush.new.self) before c.args.text.now did written c.flush.ensures.bytes
