pub mod Addresses
pub mod Tests
