pub mod CellLists
pub mod MergeLemmas
pub mod PlacingLemmas
