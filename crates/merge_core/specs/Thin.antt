-- A delta without what was told before: the rows for which an earlier delta has no equal row.
use Rattle.std.specs.Prelude.{ℕ, zero, suc, ◌==◌, ◌&&◌, not, Bool, false, List, [], ◌∷◌, filter}
use Rattle.std.specs.List.{list_any}
use Rattle.std.specs.Str.{bytes_eq}
use Rattle.merge_core.specs.declared.delta.Row.{Row}

-- two rows have the same place and the same counters
abbrev pub is_same_row : Row → Row → Bool
is_same_row p q =
    (p.r == q.r) && ((p.s == q.s) && (bytes_eq p.out q.out && ((p.taken == q.taken) && ((p.ann == q.ann) && (p.fin == q.fin)))))

-- the rows that the earlier ones lack, in their order
abbrev pub thin_rows : List Row → List Row → List Row
thin_rows rows earlier = filter (λ p. not (list_any (is_same_row p) earlier)) rows

-- the row at an index is the same as another
abbrev pub is_same_in : List Row → ℕ → Row → Bool
is_same_in [] i p = false
is_same_in (q ∷ qs) zero p = is_same_row p q
is_same_in (q ∷ qs) (suc i) p = is_same_in qs i p
