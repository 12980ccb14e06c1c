pub mod Sending
pub mod Hearing
pub mod Ending
pub mod Reporting
