use Rattle.std.proofs.Common.{◌++◌, List}
use Rattle.transcript_reader.specs.declared.runs.SiteRun.{SiteRun}
use Rattle.judge_engine.specs.Reading.{ReadsTexts}
use Rattle.judge_engine.proofs.FilesLemmas.{source_ended}
use Rattle.judge_engine.proofs.files.read_source.Goals as goal

pub returns-in-Ok : goal.returns-in-Ok
returns-in-Ok g c = λ layout cut keeping earlier reads.
    let whole = c.in-Ok.ensures in
    source_ended layout c.args.source.now c.read_text.new.source c.args.file whole.0 (λ (runs : List SiteRun). ReadsTexts layout cut keeping (earlier ++ runs) c.end_text.new.reading) c.end_text.result whole.1 whole.2
    (c.end_text.ensures layout cut keeping earlier whole.0 (whole.4 layout cut keeping earlier reads))
