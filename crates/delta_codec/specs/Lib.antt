pub mod Decodes
pub mod DeltaReaders
pub mod DeltaText
