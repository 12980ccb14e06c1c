pub mod OrderLemmas
pub mod SessionsLemmas
pub mod KeptLemmas
