use Rattle.std.proofs.Common.{◌≡◌, take}
use Rattle.std.specs.Io.KnownBytes.{Appends}
use Rattle.run_engine.specs.Logs.{logs_text}
use Rattle.run_engine.proofs.logs.write_all.Given as goal

abbrev pub invariant-loop-transcript : goal.invariant-loop-transcript
invariant-loop-transcript g l = record {
  appended : Appends l.initial.sink.contents l.sink.contents (logs_text l.layout (take l.transcript-index l.transcripts));
  fault : l.sink.fault ≡ l.initial.sink.fault;
}
