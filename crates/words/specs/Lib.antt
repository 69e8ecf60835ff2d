pub mod Manual
pub mod Slots
pub mod Unit
pub mod Words
