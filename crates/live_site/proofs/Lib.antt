pub mod GivenLemmas
pub mod WalkLemmas
pub mod PlaceLemmas
pub mod CallLemmas
pub mod MarkLemmas
pub mod LawLemmas
