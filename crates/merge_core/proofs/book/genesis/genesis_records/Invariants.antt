use Rattle.std.proofs.Common.{◌≡◌, map, take, All}
use Rattle.merge_core.specs.Book.{IsRecord}
use Rattle.merge_core.specs.Start.{start_record}
use Rattle.merge_core.proofs.book.genesis.genesis_records.Given as goal

abbrev pub invariant-loop-spec : goal.invariant-loop-spec
invariant-loop-spec l = record {
  start : l.records.items ≡ map (start_record l.sites) (take l.spec-index l.specs);
  valid : All (IsRecord l.sites) l.records.items;
}
