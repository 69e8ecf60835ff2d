pub mod Ended
pub mod Laws
pub mod Lookup
