pub mod WordLemmas
pub mod ExampleLemmas
