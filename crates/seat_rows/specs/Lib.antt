pub mod Seats
pub mod Take
