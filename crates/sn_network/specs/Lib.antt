pub mod Nets
pub mod Acting
pub mod Calling
pub mod Orders
pub mod Places
pub mod Standing
pub mod Networks
pub mod Left
