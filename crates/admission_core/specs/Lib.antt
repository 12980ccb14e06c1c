pub mod Core
pub mod Kept
pub mod Prepared
pub mod Decided
pub mod Carrying
pub mod Joining
pub mod Restored
-- What the crates above cite of the model of one site, and need nothing else of it.
pub use Rattle.admission_model.specs.Durable
pub use Rattle.admission_model.specs.Restoring
pub use Rattle.admission_model.specs.declared.durable.DurableCell
