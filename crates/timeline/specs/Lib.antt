pub mod Lookup
pub mod Windows
