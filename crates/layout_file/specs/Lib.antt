pub mod LayoutFile
pub mod Places
