use Rattle.std.proofs.Common.{◌≡◌, ◌+◌, ◌-◌, ◌*◌, arith}
use Rattle.rights_matrix.proofs.GridLemmas.{side_is, row_read}
use Rattle.rights_matrix.proofs.grid.Grid.row.Goals as goal

pub place-from-requires-clause-row : goal.place-from-requires-clause-row
place-from-requires-clause-row c = omega (arith, side_is _ _ _ c.self.view_is, c.requires)

pub returns : goal.returns
returns c =
    let width : c.place-from.result + c.from.result - c.place-from.result ≡ c.self.inside.side = omega (arith, c.from.ensures) in
    rw (width, c.as_slice-cells.ensures.counters) (row_read _ _ _ c.self.inside.cells _ c.self.view_is c.requires (omega (arith, c.place-from.ensures.value)))
