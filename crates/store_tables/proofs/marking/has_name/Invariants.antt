use Rattle.std.proofs.Common.{◌≡◌, ◌≤◌, ◌<◌, ℕ, [], length, get_or}
use Rattle.sqlite_value.specs.declared.value.Value.TheVariants.{Text}
use Rattle.sqlite_value.specs.Order.{column}
use Rattle.store_tables.proofs.marking.has_name.Given as goal

abbrev pub invariant-rows : goal.invariant-rows
invariant-rows l = (l.row-index ≤ length l.rows) × ((i : ℕ) → i < l.row-index → column (get_or l.rows i []) 0 ≡ Text l.name → ⊥)
