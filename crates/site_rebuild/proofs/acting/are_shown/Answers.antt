use Rattle.std.proofs.Common.{List, length, ap, sym, ◌∙◌, arith}
use Rattle.std.proofs.lemmas.Bool.{false≢true}
use Rattle.merge_core.specs.declared.layout.RecordSpec.{RecordSpec}
use Rattle.merge_core.specs.Book.{counter_of}
use Rattle.merge_core.specs.Layout.{shape_of}
use Rattle.merge_core.specs.declared.cell.Cell.TheVariants.{Out}
use Rattle.site_rebuild.specs.Rebuilt.{told_from}
use Rattle.site_rebuild.proofs.ActingLemmas.{shown_turn}
use Rattle.site_rebuild.proofs.acting.are_shown.Goals as goal

pub returns-then-not-is_shown : goal.returns-then-not-is_shown
returns-then-not-is_shown c = (
  λ e. absurd (false≢true e),
  λ all. absurd (false≢true (sym c.if-not-is_shown.true
      ∙ c.is_shown.ensures.1 (omega (arith, all c.loop-r.r (omega (arith, ap (λ (records : List RecordSpec). length records) c.records.ensures.records)), (c.in_ok-own.ensures {u = tt}).told c.loop-r.r c.args.site (Out c.args.j))))),
)

pub loop-r-preserved : goal.loop-r-preserved
loop-r-preserved c =
    shown_turn (λ r. counter_of c.args.book.now r c.args.site (Out c.args.j)) (λ r. told_from (shape_of c.args.layout.now) c.args.deltas.now c.args.j r c.args.site (Out c.args.j)) c.loop-r.r c.loop-r.invariant
    (omega (arith, c.is_shown.ensures.0 c.if-not-is_shown.false, (c.in_ok-own.ensures {u = tt}).told c.loop-r.r c.args.site (Out c.args.j)))
