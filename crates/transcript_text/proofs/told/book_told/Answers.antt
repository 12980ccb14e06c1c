use Rattle.std.proofs.Common.{◌≡◌}
use Rattle.merge_core.specs.Layout.{at_sites}
use Rattle.transcript_text.specs.Told.{FitsSites}
use Rattle.transcript_text.proofs.ToldLemmas.{tells_so}
use Rattle.transcript_text.proofs.told.book_told.Goals as goal

pub returns-in_ok-snapshot-in-Ok : goal.returns-in_ok-snapshot-in-Ok
returns-in_ok-snapshot-in-Ok c =
    let fits : FitsSites c.args.layout.now c.args.site c.args.sites × (c.in-Some.under ≡ at_sites c.args.sites c.args.layout.now) = rw c.in-Some.is at c.in_ok-under.ensures in
    tells_so c.args.layout.now c.in-Some.under c.args.site c.args.sites c.args.first.now c.in_ok-first.first c.in-Ok.core c.in_ok-snapshot-in-Ok.field-0
    fits.0 fits.1 c.in_ok-first.ensures c.in-Ok.ensures.answer c.in_ok-snapshot-in-Ok.ensures
