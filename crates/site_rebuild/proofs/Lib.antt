pub mod RebuiltLemmas
pub mod SettledLemmas
pub mod ActingLemmas
pub mod GenuineLemmas
