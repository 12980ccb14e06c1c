pub mod EntryLemmas
pub mod GridLemmas
pub mod JoinLemmas
pub mod KeptLemmas
pub mod MatrixLemmas
pub mod RightsLemmas
pub mod StartLemmas
pub mod SumLemmas
