pub mod Databases
pub mod StoredSites
