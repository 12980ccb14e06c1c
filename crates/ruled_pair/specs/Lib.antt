pub mod Sent
pub mod Heard
pub mod Growing
pub mod Pairs
