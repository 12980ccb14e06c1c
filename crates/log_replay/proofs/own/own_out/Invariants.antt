use Rattle.std.proofs.Common.{◌≡◌, ℕ, ◌<◌, length, get_or}
use Rattle.merge_core.specs.declared.cell.Cell.TheVariants.{Out}
use Rattle.merge_core.specs.Book.{counter_of}
use Rattle.log_replay.proofs.own.own_out.Given as goal

abbrev pub invariant-sites : goal.invariant-sites
invariant-sites l = record {
  number : length l.out.items ≡ l.j;
  each : (k : ℕ) → k < l.j → get_or l.out.items k 0 ≡ counter_of l.book l.r l.site (Out k);
}
