pub mod EngineLemmas
