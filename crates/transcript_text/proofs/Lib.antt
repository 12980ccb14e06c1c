pub mod QuotedLemmas
pub mod ToldLemmas
pub mod WritingLemmas
