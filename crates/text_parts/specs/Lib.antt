pub mod Lists
pub mod Readers
