pub mod Newest
pub mod Pulls
