pub mod Keeping
pub mod Memory
pub mod Placing
-- What its clauses cite of a core's durable part.
pub use Rattle.admission_core.specs.Kept
