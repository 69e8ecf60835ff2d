pub mod StartLaws
pub mod StateLaws
