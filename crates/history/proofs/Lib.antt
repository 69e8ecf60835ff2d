pub mod Answers
pub mod CallLaws
pub mod Cases
pub mod EqualLaws
pub mod Exact
pub mod HistoryLaws
pub mod Preserved
pub mod Reach
