pub mod Log
pub mod Desk
pub mod Transcript
pub mod Following
