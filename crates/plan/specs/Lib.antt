pub mod Faults
pub mod Parts
pub mod Plan
