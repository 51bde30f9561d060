pub mod Betweens
pub mod Backwards
pub mod Places
pub mod Readings
pub mod Indexes
pub mod Handed
pub mod Onces
pub mod Takings
