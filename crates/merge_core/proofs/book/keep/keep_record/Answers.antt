use Rattle.std.proofs.Common.{refl}
use Rattle.merge_core.proofs.KeepLemmas.{KeepsOwnIn-kept, IsRecord-kept}
use Rattle.merge_core.proofs.book.keep.keep_record.Goals as goal

pub returns-clause-kept : goal.returns-clause-kept
returns-clause-kept c = KeepsOwnIn-kept c.args.site _ _ c.keep.ensures.shape c.keep.ensures.entries c.keep.ensures.taken refl

pub returns-clause-valid : goal.returns-clause-valid
returns-clause-valid c = IsRecord-kept c.args.sites c.args.site _ _ c.requires.valid c.keep.ensures.shape c.keep.ensures.state refl
