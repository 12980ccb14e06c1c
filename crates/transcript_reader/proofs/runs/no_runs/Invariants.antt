use Rattle.std.proofs.Common.{◌≡◌, []}
use Rattle.transcript_reader.specs.Reading.{transcripts_below}
use Rattle.transcript_reader.proofs.runs.no_runs.Given as goal

abbrev pub invariant-loop-site : goal.invariant-loop-site
invariant-loop-site l = l.transcripts.items ≡ transcripts_below [] l.site
