pub mod Answer
pub mod Start
pub mod State
