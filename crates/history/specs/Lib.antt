pub mod Calls
pub mod Cases
pub mod History
pub mod Reached
