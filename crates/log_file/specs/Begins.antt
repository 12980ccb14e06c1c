-- A file before any step.
use Rattle.std.proofs.Common.{ℕ, List, [], Option, Some, None, sym, append-nil}
use Rattle.std.specs.Io.KnownBytes.{Appends}

pub nothing_appended : (known : Option (List ℕ)) → Appends known known []
nothing_appended None = tt
nothing_appended (Some xs) = sym (append-nil xs)
