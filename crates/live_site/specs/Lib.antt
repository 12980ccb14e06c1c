pub mod Overfull
pub mod Walk
pub mod Entries
pub mod Live
pub mod Steps
pub mod Rounds
