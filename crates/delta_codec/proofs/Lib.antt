pub mod DeltaLaws
pub mod LengthLaws
pub mod WritingLaws
pub mod Utf8Laws
