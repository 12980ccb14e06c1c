use Rattle.merge_core.specs.Book.{BookState}
use Rattle.merge_core.specs.Changes.{KeepsOwn}
use Rattle.std.proofs.Common.{subst, sym, refl, arith}
use Rattle.merge_core.proofs.MarkLemmas.{marks_kept}
use Rattle.merge_core.proofs.KeepLemmas.{KeepsOwn-records}
use Rattle.merge_core.proofs.book.Book.keep.Goals as goal

pub invariant_of-self : goal.invariant_of-self
invariant_of-self c =
    let old : BookState = record { sites = c.self.inside.sites; records = c.self.inside.records.items } in
    let new : BookState = record { sites = c.self.inside.sites; records = c.keep_records.new.records.items } in
    let kept = c.keep_records.ensures in (
      record { few_sites = c.self.invariant.0.few_sites; few_records = omega (arith, kept.size, c.self.invariant.0.few_records); records = kept.valid },
      marks_kept c.args.site old new c.self.inside.marks.items refl kept.size
          (KeepsOwn-records c.args.site c.self.inside.sites c.self.inside.records.items c.keep_records.new.records.items kept.size kept.kept) c.self.invariant.1,
    )

pub returns-clause-counters : goal.returns-clause-counters
returns-clause-counters c =
    let new : BookState = record { sites = c.self.inside.sites; records = c.keep_records.new.records.items } in
    let kept : KeepsOwn c.args.site c.args.self.now new =
    subst (λ (b : BookState). KeepsOwn c.args.site b new) c.self.view_is
    (KeepsOwn-records c.args.site c.self.inside.sites c.self.inside.records.items c.keep_records.new.records.items c.keep_records.ensures.size c.keep_records.ensures.kept) in
    subst (λ (b : BookState). KeepsOwn c.args.site c.args.self.now b) (sym c.clear_marks.ensures.same) kept
