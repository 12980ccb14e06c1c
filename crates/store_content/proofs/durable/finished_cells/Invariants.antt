-- The cells so far are those of the notices so far.
use Rattle.std.proofs.Common.{◌≡◌, take}
use Rattle.std.specs.List.{AllByRecursion}
use Rattle.store_content.specs.Content.{IsNotice, finished_cells}
use Rattle.store_content.proofs.durable.finished_cells.Given as goal

abbrev pub invariant-loop-notice : goal.invariant-loop-notice
invariant-loop-notice l = AllByRecursion IsNotice l.notices → l.cells.items ≡ finished_cells (take l.notice-index l.notices)
