-- A half is shorter than the whole.
use Rattle.std.proofs.Common.{length}
use Rattle.store_content.proofs.cells.+search.Given as goal

abbrev pub decreases-search : goal.decreases-search
decreases-search l = length l.cells.now
