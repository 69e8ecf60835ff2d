pub mod OwnLaws
pub mod PaddedLaws
