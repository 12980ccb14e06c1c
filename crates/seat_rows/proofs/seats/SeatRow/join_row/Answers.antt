use Rattle.std.proofs.Common.{◌≡◌, ℕ, ◌+◌, ◌<◌, ◌≤◌, List, slice_index, get_or, ◌-◌, take, ltb, ap, subst, ◌∙◌, arith}
use Rattle.rights_matrix.specs.Matrix.{MatrixState, row_of, entry, IsMatrix}
use Rattle.rights_matrix.proofs.JoinLemmas.{rise_counts-same}
use Rattle.seat_rows.specs.Seats.{SeatState, joined_seats_at}
use Rattle.seat_rows.proofs.SeatLemmas.{joined_seats_at-first, joined_seats_at-more, seat_rises-more, bool_byte_is}
use Rattle.seat_rows.proofs.seats.SeatRow.join_row.Goals as goal

pub first_above-first-requires : goal.first_above-first-requires
first_above-first-requires c =
    let same = ap (λ (x : SeatState). x.matrix) c.raise_taken.ensures.change in
    let matrix : IsMatrix c.args.self.now.matrix = subst (λ (m : MatrixState). IsMatrix m) same c.raise_taken.ensures.state.matrix in
    let here : c.self.inside.rights ≡ c.args.self.now.matrix = ap (λ (x : SeatState). x.matrix) c.self.view_is ∙ same in
    let row : c.row.result.now ≡ row_of c.args.self.now.matrix c.args.s = c.row.ensures ∙ ap (λ (m : MatrixState). row_of m c.args.s) here in
    rw row (omega (arith, matrix.square c.args.s c.requires.site, c.requires.size))

pub loop-j-init : goal.loop-j-init
loop-j-init c =
    let st = c.args.self.now in
    let same = ap (λ (x : SeatState). x.matrix) c.raise_taken.ensures.change in
    let matrix : IsMatrix st.matrix = subst (λ (m : MatrixState). IsMatrix m) same c.raise_taken.ensures.state.matrix in
    let here : c.self.inside.rights ≡ st.matrix = ap (λ (x : SeatState). x.matrix) c.self.view_is ∙ same in
    let row : c.row.result.now ≡ row_of st.matrix c.args.s = c.row.ensures ∙ ap (λ (m : MatrixState). row_of m c.args.s) here in
    let before : (k : ℕ) → k < c.first_above-first.result → slice_index c.args.given.now k ≤ slice_index (row_of st.matrix c.args.s) k
    = subst (λ (xs : List ℕ). (k : ℕ) → k < c.first_above-first.result → slice_index c.args.given.now k ≤ slice_index xs k) row c.first_above-first.ensures.before in
    let one = bool_byte_is c.raise_taken.result in
    record {
      state = joined_seats_at-first st c.raise_taken.new.self c.args.s c.first_above-first.result c.args.taken c.args.given.now c.first_above-first.ensures.place
          (omega (arith, matrix.square c.args.s c.requires.site, c.requires.size)) before c.raise_taken.ensures.change;
      counted = rw same (omega (arith, rise_counts-same st.matrix.rows, one, c.raise_taken.ensures.risen, c.from-risen.ensures));
      few = omega (arith, one.1, c.from-risen.ensures);
      seats = c.raise_taken.ensures.state;
    }

pub loop-j-preserved : goal.loop-j-preserved
loop-j-preserved c =
    let st = c.args.self.now in
    let i = c.loop-j.invariant in
    let same = ap (λ (x : SeatState). x.matrix) c.raise_taken.ensures.change in
    let matrix : IsMatrix st.matrix = subst (λ (m : MatrixState). IsMatrix m) same c.raise_taken.ensures.state.matrix in
    let by : c.raise_entry.result ≡ get_or c.args.given.now c.loop-j.j 0 - entry c.loop-j.self.matrix c.args.s c.loop-j.j
    = c.raise_entry.ensures.by ∙ ap (λ (k : ℕ). get_or c.args.given.now k 0 - entry c.loop-j.self.matrix c.args.s c.loop-j.j) c.from.ensures in
    let next = joined_seats_at-more st c.loop-j.self c.args.s c.loop-j.j c.raise_entry.result c.args.taken c.args.given.now matrix c.requires.site c.loop-j-test.true c.requires.size i.state by in
    let count = seat_rises-more st c.loop-j.self c.args.s c.loop-j.j c.raise_entry.result c.args.taken c.args.given.now matrix c.requires.site c.loop-j-test.true c.requires.size i.state by in
    let one = bool_byte_is (ltb 0 c.raise_entry.result) in
    let step : c.raise_entry.new.self ≡ joined_seats_at st c.args.s (take (c.loop-j.j + 1) c.args.given.now) c.args.taken = c.raise_entry.ensures.change ∙ next in
    record {
      state = step;
      counted = rw step (omega (arith, count, one, i.counted, c.from-risen-in-loop-j.ensures));
      few = omega (arith, one.1, i.few, c.from-risen-in-loop-j.ensures);
      seats = c.raise_entry.ensures.state;
    }
