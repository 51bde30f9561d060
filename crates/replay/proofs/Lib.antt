pub mod Worlds
pub mod Runs
pub mod Exchanged
pub mod Tallied
pub mod Restored
pub mod Lawful
pub mod Mirrors
