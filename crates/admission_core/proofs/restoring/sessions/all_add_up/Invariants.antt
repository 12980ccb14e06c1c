use Rattle.std.proofs.Common.{◌≡◌, ℕ, ◌+◌, ◌<◌, get_or}
use Rattle.merge_core.specs.declared.cell.Cell.TheVariants.{Out, Taken, Ann, Fin}
use Rattle.merge_core.specs.Layout.{shape_of}
use Rattle.merge_core.specs.Rows.{grant}
use Rattle.merge_core.specs.Book.{counter_of}
use Rattle.admission_core.proofs.restoring.sessions.all_add_up.Given as goal

abbrev pub invariant-loop-r : goal.invariant-loop-r
invariant-loop-r l = (k : ℕ) → k < l.r → (counter_of l.book k l.site Taken + grant (shape_of l.layout) k l.site ≡ counter_of l.book k l.site (Out l.site) + get_or l.inside k 0) × (counter_of l.book k l.site Ann ≡ counter_of l.book k l.site Fin + get_or l.unfinished k 0)
