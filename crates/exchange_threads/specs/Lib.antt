pub mod Names
pub mod Counts
pub mod Links
pub mod Turns
pub mod Outbox
pub mod Fates
pub mod Inbox
pub mod Ports
