pub mod InPlace
pub mod Original
pub mod Refusals
