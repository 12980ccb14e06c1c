use Rattle.std.proofs.Common.{◌≡◌, true, ℕ, ◌<◌, ◌≤◌}
use Rattle.merge_core.specs.Counts.{counter_limit}
use Rattle.merge_core.specs.Book.{counter_of}
use Rattle.merge_core.specs.Layout.{shape_of}
use Rattle.rebuild_laws.specs.Settling.{lacking}
use Rattle.site_rebuild.specs.Rebuilt.{gone_of}
use Rattle.site_rebuild.proofs.rebuilding.is_within.Given as goal

abbrev pub invariant-loop-d : goal.invariant-loop-d
invariant-loop-d l = (d : ℕ) → d < l.d → gone_of l.lost d ≡ true → lacking (shape_of l.layout) (gone_of l.lost) l.layout.sites (counter_of l.book) l.r d ≤ counter_limit
