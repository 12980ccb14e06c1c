pub mod ListLemmas
pub mod SameLemmas
pub mod WayLemmas
pub mod RunLemmas
pub mod StreamLemmas
mod DoneLemmas
pub mod PathLemmas
pub mod JointLemmas
pub mod ReplayLemmas
pub mod EntryLemmas
pub mod RunCode
