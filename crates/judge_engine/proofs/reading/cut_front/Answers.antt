use Rattle.std.proofs.Common.{◌++◌, sym, append-nil}
use Rattle.text_input.specs.Lines.{lines_of}
use Rattle.judge_engine.proofs.ReadingLemmas.{lines_joined}
use Rattle.judge_engine.proofs.reading.cut_front.Goals as goal

pub returns-in-Some : goal.returns-in-Some
returns-in-Some c = λ front. lines_joined front c.args.bytes.now c.in-Some.parts.0.now c.in-Some.parts.1.now c.in-Some.ensures.0 c.in-Some.ensures.1

pub returns-in-None : goal.returns-in-None
returns-in-None c = λ front. sym (append-nil (lines_of (front ++ c.args.bytes.now)))
