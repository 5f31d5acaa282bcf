pub mod ArgText
pub mod Configs
pub mod Signs
