pub mod Fences
pub mod Entering
pub mod Examples
pub mod Resource
