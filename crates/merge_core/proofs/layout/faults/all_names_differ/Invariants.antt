use Rattle.std.proofs.Common.{◌≡◌, drop}
use Rattle.merge_core.specs.Layout.{names_differ}
use Rattle.merge_core.proofs.layout.faults.all_names_differ.Given as goal

abbrev pub invariant-loop-i : goal.invariant-loop-i
invariant-loop-i l = names_differ (drop l.i l.records) ≡ names_differ l.records
