use Rattle.std.proofs.Common.{◌≡◌, ◌≤◌, take}
use Rattle.rights_matrix.specs.Joined.{joined_at, rise_counts}
use Rattle.rights_matrix.specs.Matrix.{IsMatrix}
use Rattle.rights_matrix.proofs.rights.Rights.join_row.Given as goal

abbrev pub invariant-loop-j : goal.invariant-loop-j
invariant-loop-j l = record {
  state : l.self ≡ joined_at l.initial.self l.s (take l.j l.given);
  counted : l.risen ≡ rise_counts l.initial.self.rows l.self.rows;
  few : l.risen ≤ l.j;
  matrix : IsMatrix l.self;
}
