pub mod Engine
pub mod Examples
pub mod Joins
pub mod Stops
pub mod Texts
