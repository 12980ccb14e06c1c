pub mod Groups
pub mod Settling
pub mod Moving
pub mod Instances
