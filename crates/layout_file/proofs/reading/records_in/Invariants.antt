use Rattle.std.proofs.Common.{◌≡◌, drop}
use Rattle.toml.specs.View.{items_view}
use Rattle.layout_file.specs.LayoutFile.{records_in}
use Rattle.layout_file.proofs.LayoutLemmas.{with_front}
use Rattle.layout_file.proofs.reading.records_in.Given as goal

abbrev pub invariant-loop-item : goal.invariant-loop-item
invariant-loop-item l = with_front l.records.items (records_in (items_view (drop l.item-index l.items))) ≡ records_in (items_view l.items)
