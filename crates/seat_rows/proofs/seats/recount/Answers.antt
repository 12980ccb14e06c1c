use Rattle.std.proofs.Common.{◌≡◌, ◌-ℤ◌, pos, ◌+◌, ◌≤◌, ap, length, get_or, below_more, ◌∙◌, arith}
use Rattle.std.proofs.lemmas.Int.{ints}
use Rattle.std.proofs.lemmas.List.{get_or-set_same, get_or-set_other, length-set}
use Rattle.rights_matrix.proofs.MatrixLemmas.{gained_small, given_small}
use Rattle.seat_rows.proofs.seats.recount.Goals as goal

pub overflow_sub-balance : goal.overflow_sub-balance
overflow_sub-balance c =
    let got = gained_small c.args.rights.now c.loop-i.i c.sites-i-end.ensures.matrix in
    let gave = given_small c.args.rights.now c.loop-i.i c.sites-i-end.ensures.matrix (omega arith) in
    let took = c.requires.limit c.loop-i.i (omega arith) in
    let here = rw c.from.ensures at c.get.ensures in
    omega (arith, ints)

pub loop-i-preserved : goal.loop-i-preserved
loop-i-preserved c =
    let got = gained_small c.args.rights.now c.loop-i.i c.sites-i-end.ensures.matrix in
    let gave = given_small c.args.rights.now c.loop-i.i c.sites-i-end.ensures.matrix (omega arith) in
    let took = c.requires.limit c.loop-i.i (omega arith) in
    let here = rw c.from.ensures at c.get.ensures in
    record {
      size = ap length c.set.ensures ∙ (length-set c.loop-i.cached c.loop-i.i _ ∙ c.loop-i.invariant.size);
      done = below_more _ _
          (λ k below. rw c.set.ensures (get_or-set_other c.loop-i.cached c.loop-i.i k _ (pos 0) (omega arith) ∙ c.loop-i.invariant.done k below))
          (rw c.set.ensures (get_or-set_same c.loop-i.cached c.loop-i.i _ (pos 0) (omega (arith, c.loop-i.invariant.size)) ∙ omega (arith, ints)));
    }
