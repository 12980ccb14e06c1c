pub mod Cuts
pub mod Verdicts
pub mod Engine
pub mod Reading
pub mod Files
