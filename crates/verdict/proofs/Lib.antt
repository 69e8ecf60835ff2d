pub mod First
pub mod Outcome
