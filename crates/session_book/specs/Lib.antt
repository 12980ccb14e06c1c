pub mod Passes
pub mod Sites
-- What its clauses cite of a desk's log.
pub use Rattle.desk_log.specs.Log
pub use Rattle.desk_log.specs.Following
