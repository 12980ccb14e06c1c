use Rattle.std.proofs.Common.{sym}
use Rattle.rights_matrix.proofs.GridLemmas.{side_is}
use Rattle.rights_matrix.proofs.grid.Grid.side.Goals as goal

pub returns : goal.returns
returns c = sym (side_is _ _ _ c.self.view_is)
