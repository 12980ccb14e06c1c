use Rattle.std.proofs.Common.{◌<◌, sym, ap, length, get_or, [], List, ◌∙◌, ℕ, arith}
use Rattle.rights_matrix.proofs.GridLemmas.{side_is, length-rows_of, width-rows_of, kept_row, kept_other}
use Rattle.rights_matrix.proofs.grid.Grid.keep_one.Goals as goal

pub place-from-requires-clause-row : goal.place-from-requires-clause-row
place-from-requires-clause-row c = omega (arith, side_is _ _ _ c.self.view_is, c.requires.row)

pub place-at-requires-clause-column : goal.place-at-requires-clause-column
place-at-requires-clause-column c = omega (arith, side_is _ _ _ c.self.view_is, c.requires.column)

pub returns-clause-size : goal.returns-clause-size
returns-clause-size c = length-rows_of _ _ _ ∙ sym (side_is _ _ _ c.self.view_is)

pub returns-clause-width : goal.returns-clause-width
returns-clause-width c =
    let inside : c.args.i < c.self.inside.side = omega (arith, side_is _ _ _ c.self.view_is, c.requires.row) in
    width-rows_of _ _ _ _ (c.keep_one.ensures.size ∙ c.self.invariant.1) inside ∙ (sym (width-rows_of _ _ _ _ c.self.invariant.1 inside) ∙ ap (λ (x : List (List ℕ)). length (get_or x c.args.i [])) c.self.view_is)

pub returns-clause-counters : goal.returns-clause-counters
returns-clause-counters c =
    kept_row _ _ _ _ _ _ c.self.inside.cells _ _ c.self.view_is c.requires.row (omega (arith, c.place-from.ensures.value)) (omega (arith, c.place-from.ensures.value, c.from.ensures)) (omega (arith, c.place-at.ensures.value)) c.self.invariant.1 c.keep_one.ensures.size c.keep_one.ensures.counters

pub returns-clause-others : goal.returns-clause-others
returns-clause-others c =
    kept_other _ _ c.args.kept _ _ _ c.self.inside.cells _ _ c.self.view_is c.requires.row (omega (arith, c.place-from.ensures.value)) (omega (arith, c.place-from.ensures.value, c.from.ensures)) c.self.invariant.1 c.keep_one.ensures.size c.keep_one.ensures.counters
