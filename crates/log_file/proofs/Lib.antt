pub mod StepLemmas
pub mod PutLemmas
pub mod FrontLemmas
pub mod OpeningLemmas
pub mod RunLemmas
pub mod LegalLemmas
pub mod MendLemmas
pub mod LogLemmas
