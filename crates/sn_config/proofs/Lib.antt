pub mod UniqueArguments
pub mod Validity
