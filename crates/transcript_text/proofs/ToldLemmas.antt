-- What a site tells when it begins with a durable part, and what was told of one.
use Rattle.std.proofs.Common.{◌≡◌, ℕ, ◌<◌, ◌≤◌, subst}
use Rattle.merge_core.specs.Layout.{LayoutState, at_sites}
use Rattle.merge_core.specs.Delta.{DeltaState}
use Rattle.admission_model.specs.Account.{Account}
use Rattle.admission_model.specs.View.{view_of}
use Rattle.admission_model.specs.Merging.{snapshot_of}
use Rattle.admission_core.specs.Core.{Core, Stands}
use Rattle.admission_core.specs.Kept.{DurableState}
use Rattle.admission_core.specs.Restored.{IsCoreFrom}
use Rattle.desk_log.specs.Log.{begun}
use Rattle.transcript_text.specs.Texts.{book_told, MayBegin}
use Rattle.transcript_text.specs.Told.{FitsSites}

-- a core that was restored tells what the site tells when it begins so
pub tells_so : (layout under : LayoutState) (i sites : ℕ) (first copy : DurableState) (core : Core) (d : DeltaState) → FitsSites layout i sites
    → under ≡ at_sites sites layout → copy ≡ first → IsCoreFrom under i copy core → ((a : Account) → Stands a core → d ≡ snapshot_of (view_of a))
    → MayBegin layout i sites first × (d ≡ book_told layout i sites first)
tells_so layout under i sites first copy core d fits is_under is_copy made tells =
    let there : IsCoreFrom (at_sites sites layout) i copy core = subst (λ (l : LayoutState). IsCoreFrom l i copy core) is_under made in
    let from : IsCoreFrom (at_sites sites layout) i first core = subst (λ (x : DurableState). IsCoreFrom (at_sites sites layout) i x core) is_copy there in (
      record {
        site_there = fits.site_there;
        no_more = fits.no_more;
        records_fit = fits.records_fit;
        cells = from.cells;
        sessions = from.sessions;
      },
      tells (begun (at_sites sites layout) i first) from.stands,
    )
