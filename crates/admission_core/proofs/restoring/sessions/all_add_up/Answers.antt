use Rattle.std.proofs.Common.{◌<◌, length, get_or, sym, ap, ◌∙◌, arith}
use Rattle.std.proofs.lemmas.Bool.{false≢true}
use Rattle.merge_core.specs.declared.layout.RecordSpec.{RecordSpec}
use Rattle.admission_core.proofs.restoring.sessions.all_add_up.Goals as goal

pub returns-then-not-adds_up : goal.returns-then-not-adds_up
returns-then-not-adds_up c = λ sessions in_sums un_sums. (
  λ e. absurd (false≢true e),
  λ all.
      let below : c.loop-r.r < length c.args.layout.now.records = omega (arith, c.loop-r-test.true, ap (λ rs. length {A = RecordSpec} rs) c.records.ensures.records) in
      let it = all c.loop-r.r below in
      let i = in_sums c.loop-r.r below in
      let u = un_sums c.loop-r.r below in
      sym c.if-not-adds_up.true ∙ c.adds_up.ensures.1 (
        omega (arith, it.seats, i, ap (λ k. get_or c.args.inside.now k 0) c.from.ensures),
        omega (arith, it.writers, u, ap (λ k. get_or c.args.unfinished.now k 0) c.from-in-loop-r.ensures),
      ),
)
