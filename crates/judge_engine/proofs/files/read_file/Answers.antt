use Rattle.std.proofs.Common.{◌++◌, List, ap}
use Rattle.text_input.specs.Source.{SourceState}
use Rattle.transcript_reader.specs.declared.runs.SiteRun.{SiteRun}
use Rattle.judge_engine.specs.Reading.{ReadsTexts}
use Rattle.judge_engine.proofs.FilesLemmas.{file_read}
use Rattle.judge_engine.proofs.files.read_file.Goals as goal

pub returns-in-Ok : goal.returns-in-Ok
returns-in-Ok g c = λ layout cut keeping earlier reads.
    file_read layout (g.F.LogFiles.holds c.args.files.now) (g.F.LogFiles.fails c.args.files.now) c.args.file (g.F.File.Read.remaining c.in-Ok.opened) c.new.result c.read_source.new.source
    (λ (runs : List SiteRun). ReadsTexts layout cut keeping (earlier ++ runs) c.read_source.new.reading) c.read_source.result (ap (λ (s : SourceState). s.remaining) c.new.ensures) c.in-Ok.ensures
    (c.read_source.ensures layout cut keeping earlier reads)
