use Rattle.std.proofs.Common.{◌≡◌, length, ap, ◌∙◌, sym, arith}
use Rattle.grow_counters.proofs.CountsLemmas.{rise_count_le}
use Rattle.rights_matrix.specs.Matrix.{site_count}
use Rattle.rights_matrix.proofs.JoinLemmas.{length-joined_rows}
use Rattle.seat_rows.proofs.SeatLemmas.{join_keeps}
use Rattle.seat_rows.proofs.seats.SeatRow.join.Goals as goal

pub recount-requires-clause-counts : goal.recount-requires-clause-counts
recount-requires-clause-counts c =
    let seats = join_keeps _ _ _ _ _ _ c.self.view_is c.other.view_is c.self.invariant.0 c.other.invariant.0 c.requires c.join-in_matrix.ensures.state c.join-in_taken.ensures.counters in
    seats.size

pub recount-requires-clause-numbers : goal.recount-requires-clause-numbers
recount-requires-clause-numbers c =
    c.self.invariant.1.size ∙ sym (ap site_count c.join-in_matrix.ensures.state ∙ length-joined_rows c.self.inside.rights.rows c.other.inside.rights.rows)

pub recount-requires-clause-limit : goal.recount-requires-clause-limit
recount-requires-clause-limit c =
    let seats = join_keeps _ _ _ _ _ _ c.self.view_is c.other.view_is c.self.invariant.0 c.other.invariant.0 c.requires c.join-in_matrix.ensures.state c.join-in_taken.ensures.counters in
    seats.limit

pub overflow_add-result : goal.overflow_add-result
overflow_add-result c =
    let few = rise_count_le c.self.inside.taken c.join-in_taken.new.self in
    omega (arith, few, c.join-in_taken.ensures.risen, c.join-in_matrix.ensures.few, c.self.invariant.0.size, c.self.invariant.0.matrix.few_sites)

pub returns-clause-few : goal.returns-clause-few
returns-clause-few c =
    let few = rise_count_le c.self.inside.taken c.join-in_taken.new.self in
    omega (arith, few, c.join-in_taken.ensures.risen, c.join-in_matrix.ensures.few, c.self.invariant.0.size, c.self.invariant.0.matrix.few_sites)

pub invariant_of-self : goal.invariant_of-self
invariant_of-self c =
    (join_keeps _ _ _ _ _ _ c.self.view_is c.other.view_is c.self.invariant.0 c.other.invariant.0 c.requires c.join-in_matrix.ensures.state c.join-in_taken.ensures.counters, c.recount.ensures)

pub returns-clause-state : goal.returns-clause-state
returns-clause-state c =
    join_keeps _ _ _ _ _ _ c.self.view_is c.other.view_is c.self.invariant.0 c.other.invariant.0 c.requires c.join-in_matrix.ensures.state c.join-in_taken.ensures.counters
