pub mod Backs
pub mod Runs
