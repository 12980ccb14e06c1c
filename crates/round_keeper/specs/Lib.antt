pub mod Rounds
pub mod Staged
