pub mod CarriedLaws
pub mod ClashLaws
pub mod RowLaws
pub mod TestLaws
