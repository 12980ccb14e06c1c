pub mod ReadLemmas
pub mod PartLemmas
mod ShownLemmas
