-- The cells so far are those of the notices so far.
use Rattle.std.proofs.Common.{◌≡◌, take}
use Rattle.std.specs.List.{AllByRecursion}
use Rattle.store_content.specs.Content.{IsNotice, announced_cells}
use Rattle.store_content.proofs.durable.announced_cells.Given as goal

abbrev pub invariant-loop-notice : goal.invariant-loop-notice
invariant-loop-notice l = AllByRecursion IsNotice l.notices → l.cells.items ≡ announced_cells (take l.notice-index l.notices)
