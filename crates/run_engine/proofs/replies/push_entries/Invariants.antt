use Rattle.std.proofs.Common.{◌≡◌, ◌++◌, take, string_bytes}
use Rattle.run_engine.specs.Replies.{entries_text}
use Rattle.run_engine.proofs.replies.push_entries.Given as goal

abbrev pub invariant-loop-entry : goal.invariant-loop-entry
invariant-loop-entry l = string_bytes l.text ≡ string_bytes l.initial.text ++ entries_text l.site (take l.entry-index l.entries)
