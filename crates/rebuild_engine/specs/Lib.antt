pub mod Lines
pub mod Steps
pub mod Shown
pub mod Parts
pub mod Stops
pub mod Refusals
