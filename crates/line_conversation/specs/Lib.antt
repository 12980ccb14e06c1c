pub mod Turns
pub mod Stream
pub mod Begins
