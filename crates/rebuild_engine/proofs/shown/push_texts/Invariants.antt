use Rattle.std.proofs.Common.{◌≡◌, ◌++◌, take, string_bytes}
use Rattle.rebuild_engine.specs.Shown.{texts_of}
use Rattle.rebuild_engine.proofs.shown.push_texts.Given as goal

abbrev pub invariant-loop-delta : goal.invariant-loop-delta
invariant-loop-delta l = string_bytes l.texts ≡ string_bytes l.initial.texts ++ texts_of l.site (take l.delta-index l.deltas)
