pub mod AnswerLemmas
pub mod StepLemmas
pub mod LineLemmas
pub mod LawLemmas
