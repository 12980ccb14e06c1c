use Rattle.std.proofs.Common.{◌++◌}
use Rattle.judge_engine.proofs.FilesLemmas.{files_more}
use Rattle.judge_engine.proofs.files.read_files.Goals as goal

pub files-preserved : goal.files-preserved
files-preserved g c = λ layout cut keeping reads.
    let so = c.files.invariant layout cut keeping reads in
    let it = c.in_default.ensures layout cut keeping so.0 so.2 in
    (so.0 ++ it.1, files_more layout (g.F.LogFiles.holds c.args.files.now) c.files.file so.0 it.1 it.0 so.1 it.2 it.3, it.4)
