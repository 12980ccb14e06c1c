use Rattle.std.proofs.Common.{◌≡◌, ◌≤◌, ◌*◌}
use Rattle.merge_core.specs.Book.{counter_of}
use Rattle.merge_core.specs.declared.cell.Cell.TheVariants.{Out}
use Rattle.rebuild_laws.specs.Settling.{total_left}
use Rattle.site_rebuild.specs.Rebuilt.{gone_of}
use Rattle.site_rebuild.proofs.settling.seats_given.Given as goal

abbrev pub invariant-loop-j : goal.invariant-loop-j
invariant-loop-j l = record {
  so_far : l.sum ≡ total_left (gone_of l.lost) l.j (λ j. counter_of l.book l.r l.d (Out j));
  small : l.sum ≤ l.j * 18446744073709551616;
}
