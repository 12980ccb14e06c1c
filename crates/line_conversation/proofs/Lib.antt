pub mod AheadLemmas
pub mod LineSteps
pub mod StreamLemmas
