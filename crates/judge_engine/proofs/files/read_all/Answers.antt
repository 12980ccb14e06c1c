use Rattle.judge_engine.proofs.ReadingLemmas.{texts_end}
use Rattle.judge_engine.proofs.files.read_all.Goals as goal

pub returns : goal.returns
returns g c =
    let layout = c.args.layout.now in
    let cut = c.args.cut.now in
    let read = c.in_default-read_files.ensures layout cut c.args.keeping c.in-Ok.ensures in
    (read.0, read.1, texts_end layout cut c.args.keeping read.0 c.read_files.new.reading read.2)
