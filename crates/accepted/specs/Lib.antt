pub mod Accepted
pub mod Equal
pub mod Wrong
