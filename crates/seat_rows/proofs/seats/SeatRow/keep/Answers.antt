use Rattle.std.proofs.Common.{◌≡◌, ◌∙◌, cond, eqb, get_or, ap, ℕ, List, rules}
use Rattle.seat_rows.specs.Seats.{SeatState, taken_at}
use Rattle.seat_rows.proofs.BalanceLemmas.{kept_all}
use Rattle.seat_rows.proofs.seats.SeatRow.keep.Goals as goal

pub returns-clause-taken : goal.returns-clause-taken
returns-clause-taken c =
    λ i.
    let counter = rw (c.len-sites.ensures, c.from.ensures) at (c.keep_one.ensures.counters i) in
    counter ∙ (kept_all c.self.inside.taken c.args.site i ∙ ap (λ (x : SeatState). cond (eqb i c.args.site) (taken_at x i) 0) c.self.view_is)

pub invariant_of-self : goal.invariant_of-self
invariant_of-self c = search rules
