pub mod Lines
pub mod Source
pub mod Sink
pub mod Input
