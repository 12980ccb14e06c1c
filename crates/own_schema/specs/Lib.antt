pub mod Examples
pub mod Made
pub mod Parts
