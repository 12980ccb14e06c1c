pub mod Quoted
pub mod Texts
pub mod Told
