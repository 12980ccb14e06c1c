pub mod Content
pub mod Known
pub mod Plan
