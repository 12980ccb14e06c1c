pub mod Keeping
pub mod Kept
pub mod Looking
pub mod Marking
pub mod Reads
pub mod Rounds
pub mod Transacts
