pub mod PassLemmas
pub mod SiteLemmas
pub mod LockedLemmas
pub mod Sharing
