pub mod RunSwitch
pub mod Seam
