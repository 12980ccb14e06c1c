use Rattle.std.proofs.Common.{◌≤◌, arith}
use Rattle.rights_matrix.proofs.MatrixLemmas.{read_row_sum_small}
use Rattle.rights_matrix.proofs.rights.Rights.given.Goals as goal

pub row_sum-requires : goal.row_sum-requires
row_sum-requires c =
    let small = read_row_sum_small _ _ _ _ c.self.view_is c.self.invariant c.requires c.row.ensures in
    omega (arith, small)

pub returns-clause-small : goal.returns-clause-small
returns-clause-small c =
    let small = read_row_sum_small _ _ _ _ c.self.view_is c.self.invariant c.requires c.row.ensures in
    omega (arith, small, c.row_sum.ensures)
