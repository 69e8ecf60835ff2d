pub mod Back
pub mod InWords
