pub mod StagedLemmas
