use Rattle.std.proofs.Common.{◌≡◌, ◌++◌, string_bytes}
use Rattle.admission_model.specs.Account.{Account}
use Rattle.admission_core.specs.Core.{Stands}
use Rattle.rebuild_engine.specs.Shown.{counts_below}
use Rattle.rebuild_engine.proofs.shown.push_records.Given as goal

abbrev pub invariant-loop-r : goal.invariant-loop-r
invariant-loop-r l = (a : Account) → Stands a l.core → string_bytes l.text ≡ string_bytes l.initial.text ++ counts_below a l.core.layout.records l.r
