use Rattle.std.proofs.Common.{◌≡◌, ◌*◌, ℕ, replicate, ap, ◌∙◌}
use Rattle.rights_matrix.specs.Grid.{rows_of}
use Rattle.rights_matrix.proofs.GridLemmas.{rows_of-zeros}
use Rattle.rights_matrix.proofs.grid.Grid.new.Goals as goal

pub returns : goal.returns
returns c =
    let zeros : c.in_ok-cells.cells ≡ replicate {A = ℕ} (c.args.side * c.args.side) 0 = rw (c.from.ensures, c.from-2.ensures) at c.in_ok-cells.ensures.zeros in
    rw zeros (rows_of-zeros c.args.side c.args.side)
