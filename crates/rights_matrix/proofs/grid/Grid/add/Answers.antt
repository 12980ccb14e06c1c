use Rattle.std.proofs.Common.{◌≡◌, get_or, [], arith}
use Rattle.rights_matrix.proofs.GridLemmas.{side_is, cell_read, set_read}
use Rattle.rights_matrix.proofs.grid.Grid.add.Goals as goal

pub place-at-requires-clause-row : goal.place-at-requires-clause-row
place-at-requires-clause-row c = omega (arith, side_is _ _ _ c.self.view_is, c.requires.row)

pub place-at-requires-clause-column : goal.place-at-requires-clause-column
place-at-requires-clause-column c = omega (arith, side_is _ _ _ c.self.view_is, c.requires.column)

pub add-requires-clause-room : goal.add-requires-clause-room
add-requires-clause-room c =
    let here : get_or c.self.inside.cells c.place-at.result 0 ≡ get_or (get_or c.args.self.now c.args.i []) c.args.j 0 = cell_read _ _ _ _ c.self.inside.cells _ c.self.view_is c.requires.row c.requires.column c.place-at.ensures.value in
    rw here c.requires.room

pub returns : goal.returns
returns c =
    set_read _ _ _ _ _ c.self.inside.cells _ _ c.self.view_is c.requires.row c.requires.column c.place-at.ensures.value c.add.ensures
