pub mod Saying
pub mod Managers
