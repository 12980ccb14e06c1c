-- For private clauses: which numbers of sites a run may have.
use Rattle.std.specs.Prelude.{◌≡◌, ℕ, ◌<◌, ◌≤◌, None}
use Rattle.merge_core.specs.Layout.{LayoutState, layout_fault}

-- the site may know so many sites
pub record FitsSites (layout : LayoutState) (i n : ℕ) : Type 0 where
  pub site_there : i < n
  pub no_more : n ≤ layout.sites
  pub records_fit : layout_fault n layout.records ≡ None
