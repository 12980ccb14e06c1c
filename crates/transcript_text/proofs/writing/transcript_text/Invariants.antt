use Rattle.std.proofs.Common.{◌≡◌, take, string_bytes}
use Rattle.std.specs.List.{flat_map}
use Rattle.transcript_text.specs.Texts.{run_text}
use Rattle.transcript_text.proofs.writing.transcript_text.Given as goal

abbrev pub invariant-loop-run : goal.invariant-loop-run
invariant-loop-run l = string_bytes l.text ≡ flat_map (run_text l.layout l.transcript.site) (take l.run-index l.run-items)
