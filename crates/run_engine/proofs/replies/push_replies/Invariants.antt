use Rattle.std.proofs.Common.{◌≡◌, ◌++◌, take, string_bytes}
use Rattle.run_engine.specs.Replies.{replies_text}
use Rattle.run_engine.proofs.replies.push_replies.Given as goal

abbrev pub invariant-loop-transcript : goal.invariant-loop-transcript
invariant-loop-transcript l = string_bytes l.text ≡ string_bytes l.initial.text ++ replies_text (take l.transcript-index l.transcripts)
