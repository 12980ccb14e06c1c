use Rattle.std.proofs.Common.{◌≡◌, ◌++◌, take, string_bytes}
use Rattle.transcript_text.specs.Texts.{entries_text}
use Rattle.transcript_text.proofs.entries.push_entries.Given as goal

abbrev pub invariant-loop-entry : goal.invariant-loop-entry
invariant-loop-entry l = string_bytes l.text ≡ string_bytes l.initial.text ++ entries_text l.layout.records (take l.entry-index l.entries)
