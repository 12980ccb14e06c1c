pub mod Words
pub mod Asks
pub mod Replies
pub mod Examples
