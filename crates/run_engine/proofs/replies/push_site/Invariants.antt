use Rattle.std.proofs.Common.{◌≡◌, ◌++◌, take, string_bytes}
use Rattle.std.specs.List.{flat_map}
use Rattle.run_engine.specs.Replies.{entries_text}
use Rattle.run_engine.proofs.replies.push_site.Given as goal

abbrev pub invariant-loop-run : goal.invariant-loop-run
invariant-loop-run l = string_bytes l.text ≡ string_bytes l.initial.text ++ flat_map (λ run. entries_text l.transcript.site run.entries) (take l.run-index l.run-items)
