use Rattle.std.proofs.Common.{refl, subst, ◌∙◌, arith}
use Rattle.merge_core.specs.Layout.{shape_of}
use Rattle.admission_model.specs.Account.{begin}
use Rattle.rebuild_laws.specs.Groups.{told_most}
use Rattle.admission_model.specs.Knowledge.{grown}
use Rattle.admission_core.specs.Kept.{DurableState}
use Rattle.admission_core.specs.Restored.{IsCoreFrom}
use Rattle.admission_core.specs.declared.restoring.RestoreError.TheVariants.{WrongCounters, WrongSessions}
use Rattle.site_rebuild.specs.Rebuilt.{gone_of, origin_of, part_by}
use Rattle.site_rebuild.proofs.RebuiltLemmas.{own_refused, no_cells, no_sessions, part_told, part_built, reached_built}
use Rattle.site_rebuild.proofs.rebuilding.core_of.Goals as goal

pub returns-in-Ok : goal.returns-in-Ok
returns-in-Ok c = λ ds tells. (
  subst (λ (part : DurableState). IsCoreFrom c.args.layout c.args.site part c.in-Ok.core)
      (c.new-2.ensures ∙ part_told c.args.layout (gone_of c.args.lost.now) c.args.site ds c.args.book.now tells c.in_ok-cells.cells.items c.new.result.items (c.in_ok-cells.ensures {u = tt}) c.new.ensures.items)
      (c.in-Ok.ensures {u = tt}).answer,
  λ may.
      (c.in-Ok.ensures {u = tt}).own (begin (origin_of c.args.layout (gone_of c.args.lost.now) c.args.site ds)) (reached_built c.args.layout (gone_of c.args.lost.now) c.args.site ds may) refl (omega arith) refl
      (c.new-2.ensures ∙ part_built c.args.layout (gone_of c.args.lost.now) c.args.site ds c.args.book.now tells c.in_ok-cells.cells.items c.new.result.items (c.in_ok-cells.ensures {u = tt}) c.new.ensures.items),
)

pub returns-in-Err-WrongCounters : goal.returns-in-Err-WrongCounters
returns-in-Err-WrongCounters c = λ ds tells. (
  no_cells c.args.layout c.args.site c.new-2.result (part_by c.args.layout (gone_of c.args.lost.now) c.args.site (told_most (shape_of c.args.layout) ds)) c.in-Err-WrongCounters.field-0
      (c.new-2.ensures ∙ part_told c.args.layout (gone_of c.args.lost.now) c.args.site ds c.args.book.now tells c.in_ok-cells.cells.items c.new.result.items (c.in_ok-cells.ensures {u = tt}) c.new.ensures.items)
      c.in-Err-WrongCounters.field-0-is (c.in-Err-WrongCounters.ensures {u = tt}).answer,
  λ may.
      own_refused (grown c.args.layout.sites (begin (origin_of c.args.layout (gone_of c.args.lost.now) c.args.site ds))) c.in-Err-WrongCounters.field-0 WrongCounters c.in-Err-WrongCounters.field-0-is
      ((c.in-Err-WrongCounters.ensures {u = tt}).own (begin (origin_of c.args.layout (gone_of c.args.lost.now) c.args.site ds)) (reached_built c.args.layout (gone_of c.args.lost.now) c.args.site ds may) refl (omega arith) refl
      (c.new-2.ensures ∙ part_built c.args.layout (gone_of c.args.lost.now) c.args.site ds c.args.book.now tells c.in_ok-cells.cells.items c.new.result.items (c.in_ok-cells.ensures {u = tt}) c.new.ensures.items)),
)

pub returns-in-Err-WrongSessions : goal.returns-in-Err-WrongSessions
returns-in-Err-WrongSessions c = λ ds tells. (
  no_sessions c.args.layout c.args.site c.new-2.result (part_by c.args.layout (gone_of c.args.lost.now) c.args.site (told_most (shape_of c.args.layout) ds)) c.in-Err-WrongSessions.field-0
      (c.new-2.ensures ∙ part_told c.args.layout (gone_of c.args.lost.now) c.args.site ds c.args.book.now tells c.in_ok-cells.cells.items c.new.result.items (c.in_ok-cells.ensures {u = tt}) c.new.ensures.items)
      c.in-Err-WrongSessions.field-0-is (c.in-Err-WrongSessions.ensures {u = tt}).answer,
  λ may.
      own_refused (grown c.args.layout.sites (begin (origin_of c.args.layout (gone_of c.args.lost.now) c.args.site ds))) c.in-Err-WrongSessions.field-0 WrongSessions c.in-Err-WrongSessions.field-0-is
      ((c.in-Err-WrongSessions.ensures {u = tt}).own (begin (origin_of c.args.layout (gone_of c.args.lost.now) c.args.site ds)) (reached_built c.args.layout (gone_of c.args.lost.now) c.args.site ds may) refl (omega arith) refl
      (c.new-2.ensures ∙ part_built c.args.layout (gone_of c.args.lost.now) c.args.site ds c.args.book.now tells c.in_ok-cells.cells.items c.new.result.items (c.in_ok-cells.ensures {u = tt}) c.new.ensures.items)),
)
