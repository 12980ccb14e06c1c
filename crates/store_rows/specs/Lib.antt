pub mod Changes
pub mod Holding
pub mod Refusals
pub mod Rowids
pub mod Rows
pub mod Sorted
pub mod Steps
pub mod Texts
