mod LayoutLemmas
mod PlaceLemmas
