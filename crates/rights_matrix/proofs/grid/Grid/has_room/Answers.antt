use Rattle.std.proofs.Common.{◌≡◌, get_or, [], arith}
use Rattle.rights_matrix.proofs.GridLemmas.{side_is, cell_read}
use Rattle.rights_matrix.proofs.grid.Grid.has_room.Goals as goal

pub place-requires-clause-row : goal.place-requires-clause-row
place-requires-clause-row c = omega (arith, side_is _ _ _ c.self.view_is, c.requires.row)

pub place-requires-clause-column : goal.place-requires-clause-column
place-requires-clause-column c = omega (arith, side_is _ _ _ c.self.view_is, c.requires.column)

pub returns : goal.returns
returns c =
    let here : get_or c.self.inside.cells c.place.result 0 ≡ get_or (get_or c.args.self.now c.args.i []) c.args.j 0 = cell_read _ _ _ _ c.self.inside.cells _ c.self.view_is c.requires.row c.requires.column c.place.ensures.value in
    rw here at c.has_room.ensures
