pub mod Faulty
pub mod Headed
pub mod Splitting
pub mod Standing
pub mod Stepping
pub mod WrittenAgain
