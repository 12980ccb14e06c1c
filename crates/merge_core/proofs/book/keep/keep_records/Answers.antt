use Rattle.std.proofs.Common.{arith}
use Rattle.merge_core.proofs.KeepLemmas.{IsKeptBelow-step, kept_everywhere}
use Rattle.merge_core.proofs.book.keep.keep_records.Goals as goal

pub loop-r-preserved : goal.loop-r-preserved
loop-r-preserved c =
    IsKeptBelow-step _ _ _ _ _ _ _ c.loop-r.invariant (omega arith) c.index_mut.ensures.value c.keep_record.ensures.kept c.keep_record.ensures.valid

pub returns-clause-kept : goal.returns-clause-kept
returns-clause-kept c = kept_everywhere _ _ c.loop-r.r _ _ c.loop-r.invariant (omega arith)
