use Rattle.text_input.specs.Lines.{lines_of}
use Rattle.transcript_reader.proofs.ReadingLemmas.{reads_on}
use Rattle.transcript_reader.proofs.reading.read_transcripts.Goals as goal

pub loop-rest-preserved : goal.loop-rest-preserved
loop-rest-preserved c =
    reads_on c.args.layout.now (lines_of c.args.bytes.now) (lines_of c.loop-rest.rest.now) (lines_of c.in-Ok.behind.now) c.loop-rest.line c.in_ok-line-in-Ok.line
    c.loop-rest.transcripts.items c.add_run.new.transcripts.items c.in-Ok.run' c.loop-rest.invariant c.in-Ok.ensures.run c.in-Ok.ensures.stops
    (c.in_ok-line-in-Ok.ensures {u = tt}) (c.in_ok-add_run-in-Ok.ensures {u = tt})
