pub mod BehindLemmas
pub mod TableLemmas
