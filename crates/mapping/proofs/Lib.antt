pub mod Passes
pub mod Places
pub mod Made
