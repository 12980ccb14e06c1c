use Rattle.std.proofs.Common.{◌≡◌, string_bytes}
use Rattle.rebuild_engine.specs.Shown.{texts_below}
use Rattle.rebuild_engine.proofs.shown.texts_digest.Given as goal

abbrev pub invariant-loop-site : goal.invariant-loop-site
invariant-loop-site l = string_bytes l.texts ≡ texts_below l.site l.deltas
