pub mod Errors
pub mod Opened
pub mod Rounds
pub mod Served
pub mod SiteText
pub mod Sql
pub mod Making
-- What a store's content stands for.
pub use Rattle.store_content.specs.Content
