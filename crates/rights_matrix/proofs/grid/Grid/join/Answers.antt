use Rattle.std.proofs.Common.{◌≡◌, ◌≤◌, ◌*◌, length, ap, arith}
use Rattle.std.proofs.lemmas.Nat.{mul-le}
use Rattle.grow_counters.proofs.CountsLemmas.{rise_count_le, length-maxima}
use Rattle.rights_matrix.proofs.GridLemmas.{side_is, join_read, rises_read}
use Rattle.rights_matrix.proofs.grid.Grid.join.Goals as goal

pub join-requires : goal.join-requires
join-requires c =
    let same : c.other.inside.side ≡ c.self.inside.side = omega (arith, side_is _ _ _ c.self.view_is, side_is _ _ _ c.other.view_is, c.requires) in
    let squares = ap (λ k. k * k) same in
    omega (arith, squares, c.self.invariant.1, c.other.invariant.1)

pub invariant_of-self : goal.invariant_of-self
invariant_of-self c =
    (c.self.invariant.0, omega (arith, ap length c.join.ensures.counters, length-maxima c.self.inside.cells c.other.inside.cells, c.self.invariant.1))

pub returns-clause-rows : goal.returns-clause-rows
returns-clause-rows c =
    join_read _ _ c.self.inside.cells c.other.inside.cells _ _ _ c.self.view_is c.other.view_is c.requires c.join.ensures.counters

pub returns-clause-risen : goal.returns-clause-risen
returns-clause-risen c = rises_read _ _ _ _ _ c.self.view_is c.self.invariant.1 c.join.ensures.risen

pub returns-clause-few : goal.returns-clause-few
returns-clause-few c =
    let square = mul-le c.self.inside.side c.self.inside.side 16 16 c.self.invariant.0 c.self.invariant.0 in
    omega (arith, rise_count_le c.self.inside.cells c.join.new.self, c.join.ensures.risen, c.self.invariant.1, square)
