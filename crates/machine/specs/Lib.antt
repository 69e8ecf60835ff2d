pub mod Guard
pub mod Machine
pub mod Run
pub mod Step
