pub mod World
pub mod Tallies
pub mod Laws
pub mod Cases
