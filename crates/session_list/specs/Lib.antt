pub mod Sessions
pub mod Order
pub mod Kept
