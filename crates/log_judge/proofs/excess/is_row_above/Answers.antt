use Rattle.std.proofs.Common.{ℕ}
use Rattle.merge_core.specs.declared.cell.Cell.TheVariants.{Out}
use Rattle.merge_core.specs.Rows.{counters_of}
use Rattle.std.proofs.Common.{◌<◌, subst, sym, List}
use Rattle.std.specs.Prelude.{slice_index}
use Rattle.log_judge.proofs.ExcessLemmas.{only_out}
use Rattle.log_judge.proofs.excess.is_row_above.Goals as goal

pub returns : goal.returns
returns c =
    let same = c.as_slice.ensures.counters in
    let P : List ℕ → ℕ → Type 0 = λ xs k. slice_index c.args.out.now k < slice_index xs k in (
      λ yes. let it = c.is_above.ensures.0 yes in (Out it.0, subst (λ (xs : List ℕ). P xs it.0) same it.1),
      λ above. let it = only_out (counters_of c.args.row.now) (record { out = c.args.out.now; taken = c.args.taken; ann = c.args.ann; fin = c.args.fin }) c.if-row-taken.false c.if-row-ann.false c.if-row-fin.false above in
          c.is_above.ensures.1 (it.0, subst (λ (xs : List ℕ). P xs it.0) (sym same) it.1),
    )
