pub mod Code
pub mod First
pub mod Table
pub mod Verdict
