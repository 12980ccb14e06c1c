use Rattle.std.proofs.Common.{◌≡◌, ℕ, List}
use Rattle.std.specs.Io.KnownBytes.{Consumes}
use Rattle.judge_engine.specs.Reading.{TakesBytes}
use Rattle.judge_engine.proofs.files.read_parts.Given as goal

abbrev pub invariant-parts : goal.invariant-parts
invariant-parts g l =
    (bytes : List ℕ) × Consumes l.initial.source.remaining l.source.remaining bytes × (l.source.fault ≡ l.initial.source.fault)
    × TakesBytes l.initial.reading bytes l.reading
