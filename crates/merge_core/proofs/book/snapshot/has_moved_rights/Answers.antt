use Rattle.std.proofs.Common.{not, sym, ap, ◌∙◌, eqb}
use Rattle.rights_matrix.specs.Matrix.{entry}
use Rattle.merge_core.specs.declared.cell.Cell.TheVariants.{Out}
use Rattle.merge_core.specs.Kept.{start_in}
use Rattle.merge_core.proofs.MovedLemmas.{some_in_total}
use Rattle.merge_core.proofs.book.snapshot.has_moved_rights.Goals as goal

pub returns-then-not-is_start_entry : goal.returns-then-not-is_start_entry
returns-then-not-is_start_entry c =
    some_in_total c.args.sites c.loop-j.j (λ j. not (eqb (entry c.args.it.now.seats.matrix c.args.s j) (start_in c.args.it.now c.args.s (Out j)))) c.loop-j-test.true
    (ap not (sym c.is_start_entry.ensures) ∙ ap not c.if-not-is_start_entry.true)
