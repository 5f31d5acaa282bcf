pub mod Faults
pub mod Grammar
pub mod Places
pub mod Written
