use Rattle.std.proofs.Common.{◌≡◌, ◌+◌, ◌*◌, ◌<◌, arith}
use Rattle.rights_matrix.proofs.GridLemmas.{place_inside, row_inside}
use Rattle.rights_matrix.proofs.grid.place.Goals as goal

pub returns-clause-inside : goal.returns-clause-inside
returns-clause-inside c =
    rw (c.from.ensures, c.from-2.ensures, c.from-3.ensures) (place_inside c.args.side c.args.side c.args.i c.args.j c.requires.row c.requires.column)

pub returns-clause-row : goal.returns-clause-row
returns-clause-row c = row_inside c.args.side c.args.side c.args.i c.requires.row
