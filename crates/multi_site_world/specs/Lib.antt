pub mod World
pub mod Laws
pub mod Examples
pub mod Instances
pub mod Worlds
pub mod Safe
