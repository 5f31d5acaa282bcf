pub mod Wires
pub mod Lines
