pub mod FitsLaws
pub mod GuardLaws
pub mod MachineLaws
pub mod RunLaws
pub mod StepLaws
