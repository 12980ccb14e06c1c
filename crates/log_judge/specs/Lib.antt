pub mod Cut
pub mod Verdict
pub mod Excess
pub mod Judging
pub mod Table
pub mod Stream
-- What a legal log is.
pub use Rattle.log_replay.specs.Legal
