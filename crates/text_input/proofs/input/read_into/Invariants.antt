use Rattle.std.proofs.Common.{◌≡◌, ℕ, ◌+◌, ◌-◌, List, length}
use Rattle.text_input.specs.Input.{Loses}
use Rattle.text_input.proofs.input.read_into.Given as goal

abbrev pub invariant-loop-count : goal.invariant-loop-count
invariant-loop-count g l =
    (bytes : List ℕ) × Loses l.initial.source l.source (l.most + 1) bytes × (length bytes ≡ l.count)
    × (l.source.fault ≡ l.initial.source.fault) × g.A.Accumulator.takes l.initial.accumulator bytes l.accumulator

abbrev pub decreases-loop-count : goal.decreases-loop-count
decreases-loop-count g l = (l.most + 1) - l.count
