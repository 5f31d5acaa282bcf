pub mod Packet
pub mod Hold
