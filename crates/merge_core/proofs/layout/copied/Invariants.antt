use Rattle.std.proofs.Common.{◌≡◌, take}
use Rattle.merge_core.proofs.layout.copied.Given as goal

abbrev pub invariant-loop-record : goal.invariant-loop-record
invariant-loop-record l = l.copy.items ≡ take l.record-index l.records
