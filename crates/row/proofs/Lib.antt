pub mod ClashLaws
pub mod Powers
pub mod TestLaws
