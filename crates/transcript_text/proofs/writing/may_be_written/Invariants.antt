use Rattle.std.proofs.Common.{All, take}
use Rattle.transcript_text.specs.Texts.{MayBegin}
use Rattle.transcript_text.proofs.writing.may_be_written.Given as goal

abbrev pub invariant-loop-run : goal.invariant-loop-run
invariant-loop-run l = All (λ run. MayBegin l.layout l.transcript.site run.sites run.first) (take l.run-index l.run-items)
