pub mod Changes
pub mod Grid
pub mod Joined
pub mod Kept
pub mod Matrix
pub mod Transfer
