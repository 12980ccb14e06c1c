pub mod ExampleLemmas
pub mod OriginLemmas
pub mod TermLemmas
