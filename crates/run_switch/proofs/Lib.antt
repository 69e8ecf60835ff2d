pub mod RunSwitchLaws
