use Rattle.std.proofs.Common.{◌<◌, length}
use Rattle.merge_core.proofs.MarkLemmas.{marks_unset}
use Rattle.merge_core.proofs.book.marks.unmark.Goals as goal

pub returns : goal.returns
returns c =
    let below : c.from-at.result < length c.args.marks.now.items = rw c.from-at.ensures c.requires.record in
    marks_unset c.args.marks.now.items c.args.r c.args.s c.from-at.result c.index-mask.result.now c.from-at.ensures below c.requires.site c.index-mask.ensures
