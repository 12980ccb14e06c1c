mod InputLemmas
pub mod LineLemmas
