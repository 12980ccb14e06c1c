use Rattle.std.proofs.Common.{refl, arith}
use Rattle.merge_core.proofs.SameLemmas.{same_records}
use Rattle.merge_core.proofs.book.equality.same_record.Goals as goal

pub returns : goal.returns
returns c =
    (λ _. same_records c.args.sites c.args.a.now c.args.b.now c.requires.left c.requires.right c.requires.shape (λ k below. c.loop-s.invariant k (omega arith)), λ _. refl)
