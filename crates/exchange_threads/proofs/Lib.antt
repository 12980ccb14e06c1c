pub mod Replies
pub mod Told
pub mod Heard
pub mod Counting
pub mod Fates
