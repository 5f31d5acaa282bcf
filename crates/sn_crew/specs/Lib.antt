pub mod Stands
pub mod Crews
pub mod Endings
