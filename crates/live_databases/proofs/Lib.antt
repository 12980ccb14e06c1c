pub mod LiveLemmas
pub mod RoundLemmas
mod FoundLemmas
pub mod MoveLemmas
pub mod RebuildLemmas
pub mod UntoldLemmas
