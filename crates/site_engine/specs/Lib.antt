pub mod Sites
pub mod SiteSteps
-- What its clauses cite of a script's replies, and of the log behind them.
pub use Rattle.site_script.specs.Served
pub use Rattle.desk_log.specs.Log
