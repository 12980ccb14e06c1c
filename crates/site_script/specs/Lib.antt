pub mod Lines
pub mod Served
pub mod Steps
pub mod Examples
