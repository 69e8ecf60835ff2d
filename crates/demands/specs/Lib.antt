pub mod Calls
pub mod Machine
pub mod Refusals
pub mod Run
pub mod Unit
