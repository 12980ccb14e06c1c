pub mod Marks
pub mod Moved
pub mod Requests
pub mod Answers
pub mod BadWords
pub mod Fencing
pub mod Looks
pub mod Exchanges
pub mod Ending
pub mod Steps
pub mod Rounds
pub mod Filling
pub mod Together
-- How a site begins, which its clauses cite.
pub use Rattle.site_engine.specs.Sites
