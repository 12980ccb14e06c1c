use Rattle.std.proofs.Common.{◌<◌, not, sym, ◌∙◌, eqb, arith}
use Rattle.merge_core.specs.declared.cell.Cell.TheVariants.{Out}
use Rattle.merge_core.specs.Layout.{shape_of}
use Rattle.merge_core.specs.Rows.{start_counter}
use Rattle.merge_core.proofs.MovedLemmas.{some_in_total}
use Rattle.admission_core.specs.Restored.{counters_in}
use Rattle.admission_core.proofs.restoring.rows.has_sent.Goals as goal

pub returns-then-is_moved : goal.returns-then-is_moved
returns-then-is_moved c =
    let below : c.loop-j.j < c.args.layout.now.sites = omega (arith, c.sites-j-end.ensures.sites, c.loop-j-test.true) in
    some_in_total c.args.layout.now.sites c.loop-j.j (λ j. not (eqb (counters_in c.args.layout.now c.args.site c.args.table.now c.args.r c.args.s (Out j)) (start_counter (shape_of c.args.layout.now) c.args.r c.args.s (Out j)))) below
    (sym c.is_moved.ensures ∙ c.if-is_moved.true)
