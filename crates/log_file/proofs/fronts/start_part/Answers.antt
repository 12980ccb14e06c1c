use Rattle.std.proofs.Common.{◌≡◌, ◌∙◌, ap}
use Rattle.merge_core.specs.Layout.{LayoutState, at_sites}
use Rattle.admission_model.specs.Account.{begin, start_origin}
use Rattle.admission_core.specs.Kept.{durable_of}
use Rattle.transcript_text.specs.Told.{FitsSites}
use Rattle.log_file.proofs.fronts.start_part.Goals as goal

pub returns : goal.returns
returns c =
    let fits : FitsSites c.args.layout.now c.args.site c.args.sites × (c.in-Some.under ≡ at_sites c.args.sites c.args.layout.now) = rw c.in-Some.is at c.in_ok-under.ensures in
    let start = begin (start_origin c.in-Some.under c.args.site) in
    (fits.0, c.in_ok-first.ensures start c.in_ok-core.ensures ∙ ap (λ (l : LayoutState). durable_of (begin (start_origin l c.args.site))) fits.1)
