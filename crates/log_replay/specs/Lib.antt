pub mod Legal
pub mod Replay
pub mod Stream
