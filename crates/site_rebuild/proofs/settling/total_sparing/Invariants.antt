use Rattle.std.proofs.Common.{◌≡◌, ◌≤◌, ◌*◌}
use Rattle.merge_core.specs.Book.{counter_of}
use Rattle.merge_core.specs.Layout.{shape_of}
use Rattle.rebuild_laws.specs.Settling.{total_lost, sparing}
use Rattle.site_rebuild.specs.Rebuilt.{gone_of}
use Rattle.site_rebuild.proofs.settling.total_sparing.Given as goal

abbrev pub invariant-loop-e : goal.invariant-loop-e
invariant-loop-e l = record {
  so_far : l.sum ≡ total_lost (gone_of l.lost) l.e (sparing (shape_of l.layout) (gone_of l.lost) l.layout.sites (counter_of l.book) l.r);
  small : l.sum ≤ l.e * 313594649253062377472;
}
