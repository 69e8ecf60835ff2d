pub mod Numbers
pub mod Phase
